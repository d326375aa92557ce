-- A call that is taken leaves tables: sizes and lists fit, the tables are sound, no line of refusal applies, and its step ends with tables.
-- No refusal has the number 0: a line's number is told only where it is not 0, and what runs short has a number of its own.
use mathlib.Core.Path.{◌≡◌, refl, sym, ap, ◌∙◌}
use mathlib.Core.Logic.{◌≢◌}
use mathlib.Core.Bool.{Bool, true, false, cond, true≢false}
use Prim.Native.Nat.{ℕ, ◌≤◌}
use native.Mathlib.Omega.{arith}
use lib.Dec.{eqb}
use lib.ListN.{length}
use borrow.Author.Tests.{eqb-true, eqb-false}
use Rattle.model.specs.Store.{used}
use Rattle.model.specs.Table.{Tables}
use Rattle.model.specs.Sound.{is_sound}
use Rattle.model.specs.Steps.{of_rows, of_states, of_transitions, of_turns, Ended, short, asks, proposes, offered, answered}
use Rattle.model.specs.Calls.{Call, offers, answers, accept, looks, emits, judges, Outcome, refuses, leaves, number_of, end_of, fault_of, done_by, call}
use Rattle.model.specs.Entry.{rows_lent, size_fits, words_of, lists_fit, lists_of, words_by, lists_by, call_by}
use Rattle.model.specs.Run.{Lent, meant, after_call, is_taken}
use Rattle.model.proofs.Laws.Lent.{FourPlaces, rows_within, tables_back}

-- two gates before an outcome
through : (b c : Bool) (o r s : Outcome) → b ≡ true → c ≡ true → cond b (cond c o r) s ≡ o
through true true o r s p q = refl
through true false o r s p q = absurd (true≢false (sym q))
through false c o r s p q = absurd (true≢false (sym p))

open_gates : (b c : Bool) (o : Outcome) (n m : ℕ) → (c ≡ false → n ≢ 0) → m ≢ 0 → number_of (cond b (cond c o (refuses n)) (refuses m)) ≡ 0 →
    (b ≡ true) × (c ≡ true) × (number_of o ≡ 0)
open_gates true true o n m p q z = (refl, refl, z)
open_gates true false o n m p q z = absurd (p refl z)
open_gates false c o n m p q z = absurd (q z)

-- tables left by an outcome
abbrev Leaves : Outcome → Type 0
Leaves o = (y : Tables) × (o ≡ leaves y)

end_leaves : (e : Ended) → number_of (end_of e) ≡ 0 → Leaves (end_of e)
end_leaves (short of_rows) z = absurd (omega arith)
end_leaves (short of_states) z = absurd (omega arith)
end_leaves (short of_transitions) z = absurd (omega arith)
end_leaves (short of_turns) z = absurd (omega arith)
end_leaves (asks y) z = (y, refl)
end_leaves (proposes y) z = (y, refl)

done_leaves : (x : Tables) (k : Call) → number_of (done_by x k) ≡ 0 → Leaves (done_by x k)
done_leaves x (offers xs m) z = end_leaves (offered x xs m) z
done_leaves x (answers m) z = end_leaves (answered x m) z
done_leaves x accept z = (_, refl)
done_leaves x looks z = (x, refl)
done_leaves x (emits r) z = (x, refl)
done_leaves x (judges xs) z = (x, refl)

-- what a call that is taken tells: of the tables before it, and of those it leaves
pub record CallTaken (x : Tables) (k : Call) : Type 0 where
  pub sound : is_sound x ≡ true
  pub faultless : fault_of x k ≡ 0
  pub left : Tables
  pub done : done_by x k ≡ leaves left
  pub outcome : call x k ≡ leaves left

pub call_taken : (x : Tables) (k : Call) → number_of (call x k) ≡ 0 → CallTaken x k
call_taken x k z =
    let g = open_gates (is_sound x) (eqb (fault_of x k) 0) (done_by x k) (fault_of x k) 30 (eqb-false (fault_of x k) 0) (omega arith) z in
    let d = done_leaves x k g.2 in
    record {
      sound = g.0;
      faultless = eqb-true (fault_of x k) 0 g.1;
      left = d.0;
      done = d.1;
      outcome = through (is_sound x) (eqb (fault_of x k) 0) (done_by x k) (refuses (fault_of x k)) (refuses 30) g.0 g.1 ∙ d.1;
    }

pub record Taken (l : Lent) (k : Call) : Type 0 where
  pub size : size_fits l.words ≡ true
  pub lists : lists_fit l.lists ≡ true
  pub taken : CallTaken (meant l) k
  pub outcome : call_by l.words l.lists k ≡ leaves taken.left

pub is_taken_law : (l : Lent) (k : Call) → is_taken l k ≡ true → Taken l k
is_taken_law l k t =
    let z = eqb-true (number_of (call_by l.words l.lists k)) 0 t in
    let g = open_gates (size_fits l.words) (lists_fit l.lists) (call (meant l) k) 30 18 (λ e. omega arith) (omega arith) z in
    let c = call_taken (meant l) k g.2 in
    record {
      size = g.0;
      lists = g.1;
      taken = c;
      outcome = through (size_fits l.words) (lists_fit l.lists) (call (meant l) k) (refuses 30) (refuses 18) g.0 g.1 ∙ c.outcome;
    }

-- the lent tables after it
pub leaves_after : (l : Lent) (k : Call) (y : Tables) → call_by l.words l.lists k ≡ leaves y →
    after_call l k ≡ record { words = words_of l.words y; lists = lists_of l.lists y }
leaves_after l k y e = ap (λ (o : Outcome). record { words = words_by l.words o; lists = lists_by l.lists o }) e

pub meant_after : (l : Lent) (k : Call) (y : Tables) → call_by l.words l.lists k ≡ leaves y → FourPlaces y.store.nodes →
    length y.answers ≡ used y.store → used y.store ≤ y.store.room → y.store.room ≡ rows_lent l.words → meant (after_call l k) ≡ y
meant_after l k y e f a h r =
    ap meant (leaves_after l k y e) ∙ tables_back l.words l.lists y f a (rows_within l.words (used y.store) (omega arith)) r

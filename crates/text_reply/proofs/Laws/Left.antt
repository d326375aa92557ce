-- What a call leaves can be told: a question's row stands in a good store over the words left.
-- Taken, a call found sound tables and leaves nearly sound ones, where T1 is a good store and T8 a used row; refused or started, it asks nothing.
use mathlib.Core.Path.{◌≡◌, refl, sym, ◌∙◌, subst}
use mathlib.Core.Bool.{Bool, true, false, not, cond, true≢false}
use mathlib.Core.List.{List}
use Prim.Native.Nat.{ℕ, ◌≤◌, ◌<◌}
use native.Mathlib.Omega.{arith}
use borrow.Author.Tests.{eq-eqb, eqb-false}
use lib.Dec.{eqb}
use lib.ListN.{take}
use Rattle.model.specs.Limits.{most_rows}
use Rattle.model.specs.Store.{used}
use Rattle.model.specs.Table.{Tables}
use Rattle.model.specs.Calls.{Call, Outcome, refuses, leaves, number_of, phase_of, started}
use Rattle.model.specs.Entry.{rows_lent, seen_by, start_number, start_seen, call_by, call_number, call_seen, call_words, call_lists}
use Rattle.model.specs.Run.{Lent, meant, after_call, is_taken}
use Rattle.model.specs.Facts.{Good}
use Rattle.model.specs.Phase.{Phase, idle, holding, filling}
use Rattle.model.specs.TableFacts.{Open}
use Rattle.model.specs.declared.Lists.{Lists}
use Rattle.model.specs.declared.Seen.{Seen}
use Rattle.model.proofs.Laws.Lent.{size_fits_facts, rows_within}
use Rattle.model.proofs.Laws.Taken.{is_taken_law}
use Rattle.model.proofs.Laws.Sounds.{sound_facts}
use Rattle.model.proofs.Laws.Along.{Along, along}
use Rattle.model.proofs.Promises.Calls.{counts_told}
use Rattle.bank.specs.Bank.{Stored}
use Rattle.bank.proofs.Laws.Words.{used_of}
use Rattle.text_print.specs.Tells.{Tellable}

-- an outcome's number is the one that is seen
number_seen : (o : Outcome) → (seen_by o).number ≡ number_of o
number_seen (refuses n) = refl
number_seen (leaves x) = refl

-- tables that ask have an open question
asked_some : (x : Tables) → phase_of x ≡ 1 → x.asked ≡ 0 → ⊥
asked_some x e z = go x.accepted (eqb x.asked 0) (eq-eqb x.asked 0 z) e
  where
    go : (a b : Bool) → b ≡ true → ◌≡◌ {A = ℕ} (cond a 2 (cond (not b) 1 0)) 1 → ⊥
    go true b t p = absurd (omega (arith, p))
    go false true t p = absurd (omega (arith, p))
    go false false t p = absurd (true≢false (sym t))

open_question : (x : Tables) → Phase x → phase_of x ≡ 1 → Open x
open_question x (idle a h w) e = absurd (asked_some x e a)
open_question x (holding o r w f) e = o
open_question x (filling o r h m) e = o

-- AFTER A CALL
module _ (ws : List ℕ) (l : Lists) (k : Call) where
  abbrev Before : Lent
  Before = record { words = ws; lists = l }

  abbrev After : Tables
  After = meant (after_call Before k)

  taken_seen : (call_seen ws l k).number ≡ 0 → is_taken Before k ≡ true
  taken_seen n = eq-eqb (call_number ws l k) 0 (sym (number_seen (call_by ws l k)) ∙ n)

  used_left : used After.store ≡ (call_lists ws l k).used
  used_left = used_of (call_words ws l k) After.store.counts (call_lists ws l k).used

  left_along : is_taken Before k ≡ true → Along Before k
  left_along t = along Before (sound_facts (meant Before) (is_taken_law Before k t).taken.sound) k t

  left_good : is_taken Before k ≡ true → Good After.store
  left_good t = let a = left_along t in subst (λ (x : Tables). Good x.store) (sym a.means) a.nearly.core.good

  left_stored : is_taken Before k ≡ true → Stored (call_words ws l k) After.store.counts (call_lists ws l k).used
  left_stored t =
      let g = left_good t in
      record {
        good = g;
        room = rows_within (call_words ws l k) (call_lists ws l k).used (omega (arith, used_left, g.fits));
      }

  left_few : is_taken Before k ≡ true → (call_lists ws l k).used ≤ most_rows
  left_few t = omega (arith, used_left, (left_good t).fits, (size_fits_facts (call_words ws l k) (left_along t).size).most)

  left_within : is_taken Before k ≡ true → (call_seen ws l k).phase ≡ 1 → (call_seen ws l k).row < (call_lists ws l k).used
  left_within t p =
      let a = left_along t in
      let s = counts_told.calls Before k t in
      let o = open_question After (subst Phase (sym a.means) a.nearly.phase) (sym s.phase ∙ p) in
      omega (arith, o.0.within, used_left, s.row)

  pub call_tellable : Tellable (call_words ws l k) (take (call_lists ws l k).letters (call_lists ws l k).counts) (call_lists ws l k).used (call_seen ws l k)
  call_tellable = record { stored = λ n p. left_stored (taken_seen n); few = λ n p. left_few (taken_seen n); within = λ n p. left_within (taken_seen n) p }

-- AFTER A START: taken, it proposes
start_asks_nothing : (ws ns : List ℕ) → (start_seen ws ns).number ≡ 0 → (start_seen ws ns).phase ≡ 1 → ⊥
start_asks_nothing ws ns n p = go (start_number ws ns) (eqb (start_number ws ns) 0) refl n p
  where
    go : (k : ℕ) (b : Bool) → eqb k 0 ≡ b → (seen_by (cond b (leaves (started (rows_lent ws) ns)) (refuses k))).number ≡ 0 →
        (seen_by (cond b (leaves (started (rows_lent ws) ns)) (refuses k))).phase ≡ 1 → ⊥
    go k true e a b = absurd (omega (arith, b))
    go k false e a b = absurd (eqb-false k 0 e a)

pub start_tellable : (ws ns : List ℕ) {v : Seen} → v ≡ start_seen ws ns → {vs ks : List ℕ} {u : ℕ} → Tellable vs ks u v
start_tellable ws ns e {vs} {ks} {u} =
    subst (Tellable vs ks u) (sym e) (record {
      stored = λ n p. absurd (start_asks_nothing ws ns n p);
      few = λ n p. absurd (start_asks_nothing ws ns n p);
      within = λ n p. absurd (start_asks_nothing ws ns n p);
    })

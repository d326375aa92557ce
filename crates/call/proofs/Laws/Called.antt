-- A call, line by line: refused by the first line that applies, short in its step, or taken with the tables that it leaves.
-- Each line that does not apply leaves the rest to decide.
use mathlib.Core.Path.{◌≡◌, sym, ap, ◌∙◌}
use mathlib.Core.Bool.{Bool, true, cond}
use mathlib.Core.List.{List}
use Prim.Native.Nat.{ℕ}
use borrow.Author.Tests.{eq-eqb, ne_eqb}
use lib.Dec.{eqb}
use Rattle.std.specs.Prelude.{Ok, Err}
use Rattle.model.specs.Table.{Tables}
use Rattle.model.specs.Sound.{is_sound}
use Rattle.model.specs.Calls.{Call, Outcome, refuses, leaves, fault_of, done_by, look}
use Rattle.model.specs.Entry.{size_fits, lists_fit, lent_fault, tables_of, lists_of, words_of, seen_of, seen_by, lists_by, words_by, call_by}
use Rattle.model.specs.Refusals.{reason_number}
use Rattle.model.specs.declared.Lists.{Lists}
use Rattle.model.specs.declared.refusal.Refusal.{Refusal}
use Rattle.model.proofs.Laws.Refused.{number_some}
use Rattle.call.specs.Calls.{CallAs, look_told}
use Rattle.call.proofs.Laws.LentFault.{lent_refused}

module _ (ws : List ℕ) (l : Lists) (k : Call) where
  abbrev X : Tables
  X = tables_of ws l

  abbrev lines : (size lists sound : Bool) → (fault : ℕ) → (free : Bool) → Outcome
  lines a b c n z = cond a (cond b (cond c (cond z (done_by X k) (refuses n)) (refuses 30)) (refuses 30)) (refuses 18)

  pub refused_by : (r : Refusal) → call_by ws l k ≡ refuses (reason_number r) → CallAs ws l k (Err r) ws
  refused_by r e = record { seen = sym (ap seen_by e); lists = sym (ap (lists_by l) e); words = sym (ap (words_by ws) e); fit = tt }

  pub called_lent : (r : Refusal) → reason_number r ≡ lent_fault ws l → CallAs ws l k (Err r) ws
  called_lent r e = refused_by r (lent_refused ws l k (reason_number r) e (number_some r))

  module _ (a : size_fits ws ≡ true) (b : lists_fit l ≡ true) where
    module _ (c : is_sound (tables_of ws l) ≡ true) where
      pub called_fault : (r : Refusal) → reason_number r ≡ fault_of (tables_of ws l) k → CallAs ws l k (Err r) ws
      called_fault r e =
          let n = reason_number r in
          refused_by r ((λ i. lines (a i) (b i) (c i) (sym e i) (eqb (sym e i) 0)) ∙ ap (λ (y : Bool). lines true true true n y) (ne_eqb n 0 (number_some r)))

      module _ (f : fault_of (tables_of ws l) k ≡ 0) where
        done : call_by ws l k ≡ done_by (tables_of ws l) k
        done = λ i. lines (a i) (b i) (c i) (fault_of X k) (eq-eqb (fault_of X k) 0 f i)

        pub called_short : (r : Refusal) → done_by (tables_of ws l) k ≡ refuses (reason_number r) → CallAs ws l k (Err r) ws
        called_short r e = refused_by r (done ∙ e)

        pub called_left : (y : Tables) → done_by (tables_of ws l) k ≡ leaves y → (m : Lists) → lists_fit m ≡ true → look_told m ≡ seen_of (look y) → m ≡ lists_of l y →
            (us : List ℕ) → us ≡ words_of ws y → CallAs ws l k (Ok m) us
        called_left y e m t p q us w =
            let o = done ∙ e in
            record { seen = p ∙ sym (ap seen_by o); lists = q ∙ sym (ap (lists_by l) o); words = w ∙ sym (ap (words_by ws) o); fit = t }

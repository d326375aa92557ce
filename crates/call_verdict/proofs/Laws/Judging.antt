-- The verdict, line by line: 18, 30, 31, 11 to 15, then that of the proposed automaton, by its representatives.
-- Each line that does not apply leaves the rest to decide.
use mathlib.Core.Path.{◌≡◌, sym, ap, ◌∙◌}
use mathlib.Core.Bool.{Bool, true, false, not, cond}
use mathlib.Core.List.{List}
use Prim.Native.Nat.{ℕ}
use native.Mathlib.Omega.{arith}
use lib.Dec.{eqb}
use borrow.Author.Tests.{eq-eqb, ne_eqb, eqb-true, not-true, not-false}
use Rattle.model.specs.Terms.{unless, record_fault}
use Rattle.model.specs.Automata.{Automaton, verdict_on}
use Rattle.model.specs.Table.{automaton_of}
use Rattle.model.specs.Sound.{is_sound}
use Rattle.model.specs.Facts.{Parses}
use Rattle.model.specs.Calls.{Outcome, refuses, leaves, judges, is_asking, judge_fault}
use Rattle.model.specs.Entry.{store_of, answers_in, size_fits, lists_fit, tables_of, call_by}
use Rattle.model.specs.declared.Lists.{Lists}
use Rattle.model.specs.declared.Verdict.{Verdict}
use Rattle.model.proofs.Laws.Step.{or_zero, unless_true}
use Rattle.bank.specs.Bank.{Bank}
use Rattle.bank.proofs.Laws.Children.{few_rows}
use Rattle.run_lists.specs.Members.{counts_in}
use Rattle.table_verdict.specs.Rules.{RepsIn, verdict_list_by}
use Rattle.table_verdict.proofs.Laws.States.{reps_ruled}
use Rattle.table_verdict.proofs.Laws.Verdict.{verdict_list_is}
use Rattle.sound.specs.Proposal.{Proposal}

-- THE LINES
module _ (ws : List ℕ) (l : Lists) (xs : List ℕ) where
  -- no line applies: no question is open, and the record has no fault
  pub none_applies : judge_fault (tables_of ws l) xs ≡ 0 → (l.asked ≡ 0) × (record_fault (counts_in l) xs ≡ 0)
  none_applies e =
      let a = or_zero (unless (not (is_asking (tables_of ws l))) 31) (record_fault (counts_in l) xs) e in
      let b = unless_true (not (is_asking (tables_of ws l))) 31 (λ q. omega arith) a.0 in
      (eqb-true l.asked 0 (not-false (eqb l.asked 0) (not-true (is_asking (tables_of ws l)) b)), a.1)

  module _ (s : size_fits ws ≡ true) (f : lists_fit l ≡ true) where
    abbrev told : (fits within sound free : Bool) → (fault : ℕ) → Outcome
    told a b c d n = cond a (cond b (cond c (cond d (leaves (tables_of ws l)) (refuses n)) (refuses 30)) (refuses 30)) (refuses 18)

    pub unsound_judged : is_sound (tables_of ws l) ≡ false → call_by ws l (judges xs) ≡ refuses 30
    unsound_judged e = λ i. told (s i) (f i) (e i) (eqb (judge_fault (tables_of ws l) xs) 0) (judge_fault (tables_of ws l) xs)

    module _ (g : is_sound (tables_of ws l) ≡ true) where
      pub judged_refused : (n : ℕ) → n ≡ judge_fault (tables_of ws l) xs → (n ≡ 0 → ⊥) → call_by ws l (judges xs) ≡ refuses n
      judged_refused n e z =
          let k : eqb (judge_fault (tables_of ws l) xs) 0 ≡ false = ap (λ (m : ℕ). eqb m 0) (sym e) ∙ ne_eqb n 0 z in
          λ i. told (s i) (f i) (g i) (k i) (sym e i)

      pub judged_taken : judge_fault (tables_of ws l) xs ≡ 0 → call_by ws l (judges xs) ≡ leaves (tables_of ws l)
      judged_taken e = let k = eq-eqb (judge_fault (tables_of ws l) xs) 0 e in λ i. told (s i) (f i) (g i) (k i) (judge_fault (tables_of ws l) xs)

-- THE PROPOSAL: its representatives can be read, and the verdict by them is the automaton's
module _ (ws : List ℕ) (l : Lists) {index reps : List ℕ} (r : Bank ws (counts_in l) l.used index) (d : Proposal ws l reps) where
  pub reps_read : RepsIn l.used reps
  reps_read = reps_ruled r d.ruled

  pub verdict_proposed : (xs : List ℕ) → Parses (counts_in l) 0 xs → {v : Verdict} → v ≡ verdict_list_by (store_of ws (counts_in l) l.used) (answers_in l.used ws) reps xs →
      v ≡ verdict_on (automaton_of (tables_of ws l)) xs
  verdict_proposed xs q p =
      p ∙ verdict_list_is r.good d.ruled (few_rows r) (answers_in l.used ws) xs q ∙ ap (λ (a : Automaton). verdict_on a xs) d.is

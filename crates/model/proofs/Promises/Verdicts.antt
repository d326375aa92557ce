-- The verdict on a listed record is that on its tree, and where no rule was found its place is that of the leftmost innermost subtree without a state.
-- The run on symbols ends in the tree's state, or stops at the first subtree that has none. The three cases exclude each other, so each is told exactly if it holds.
use mathlib.Core.Path.{◌≡◌, refl, sym, ap, ◌∙◌, subst}
use mathlib.Core.Logic.{◌≢◌, ◌↔◌}
use mathlib.Core.Bool.{Bool, true, false, not, cond, true≢false}
use mathlib.Core.List.{List, []}
use mathlib.Core.Option.{Option, none, some}
use Prim.Native.Nat.{ℕ}
use native.Mathlib.Omega.{arith}
use lib.Dec.{ltb}
use borrow.Author.Tests.{ltb-true, ltb-false, eqb-true, eq-eqb}
use Rattle.model.specs.Terms.{unless, tree_of, record_fault}
use Rattle.model.specs.Automata.{Automaton, leads, is_final, state_of, RunEnd, gives, stuck, run_from, verdict_by, verdict_on, is_yes}
use Rattle.model.specs.Table.{automaton_of}
use Rattle.model.specs.Calls.{offers, judges, number_of, is_asking}
use Rattle.model.specs.Entry.{call_number, judged_as, judged_by, judge_seen}
use Rattle.model.specs.Run.{Lent, meant, is_taken}
use Rattle.model.specs.Verdicts.{NoRuleAt, VerdictTold}
use Rattle.model.specs.declared.Verdict.{Verdict}
use Rattle.model.proofs.Laws.Trees.{parsed_as_tree, record_fault_parses}
use Rattle.model.proofs.Laws.Verdict.{ended, run_state, state_within}
use Rattle.model.proofs.Laws.NoRule.{some_there, stops}
use Rattle.model.proofs.Laws.Step.{or_zero}
use Rattle.model.proofs.Laws.Taken.{is_taken_law}
use Rattle.model.proofs.Laws.Along.{sound_behind, call_meant}
use Rattle.model.proofs.Promises.Marks.{by_line, only_32}
use Rattle.model.proofs.Promises.Offers.{others_taken}

-- OF ANY AUTOMATON, on a record listed without a fault
module _ (d : Automaton) (xs : List ℕ) where
  abbrev root_state : Option ℕ
  root_state = state_of d (tree_of d.counts xs)

  -- what each verdict says of the tree
  data Says : Verdict → Type 0 where
    says_accepted : is_final d.finals root_state ≡ true → Says Verdict.Accepted
    says_not_final : root_state ≢ none → is_final d.finals root_state ≡ false → Says Verdict.NotFinal
    says_no_rule : {p : ℕ} → root_state ≡ none → NoRuleAt d xs p → Says (Verdict.NoRule p)

  no_final : root_state ≡ none → is_final d.finals root_state ≡ false
  no_final e = ap (is_final d.finals) e

  -- there is one place
  one_place : {p q : ℕ} → NoRuleAt d xs p → NoRuleAt d xs q → p ≡ q
  one_place {p} {q} a b = go (ltb p q) refl (ltb q p) refl
    where
      go : (c : Bool) → ltb p q ≡ c → (c' : Bool) → ltb q p ≡ c' → p ≡ q
      go true e c' f = absurd (b.leftmost p (ltb-true p q e) a.stateless)
      go false e true f = absurd (a.leftmost q (ltb-true q p f) b.stateless)
      go false e false f = let u = ltb-false p q e in let v = ltb-false q p f in omega arith

  module _ (e : record_fault d.counts xs ≡ 0) where
    its_state : root_state ≡ ended (run_from d 0 xs [])
    its_state =
        let p = (record_fault_parses d.counts xs e).0 in
        sym (sym (run_state d p 0 [] refl) ∙ parsed_as_tree (leads d.rules) d.counts none xs p)

    stopped : (p : ℕ) → run_from d 0 xs [] ≡ stuck p → NoRuleAt d xs p
    stopped p r =
        let s = stops d (record_fault_parses d.counts xs e).0 0 p [] [] refl refl r in
        let q : s.0 ≡ p = omega (arith, s.1) in
        subst (NoRuleAt d xs) q (record { within = s.2.within; inside = s.2.inside; stateless = s.2.stateless; innermost = s.2.innermost; leftmost = s.2.leftmost })

    says : Says (verdict_on d xs)
    says = by_end (run_from d 0 xs []) refl
      where
        by_state : (q : ℕ) → root_state ≡ some q → (b : Bool) → is_final d.finals (some q) ≡ b → Says (cond b Verdict.Accepted Verdict.NotFinal)
        by_state q s true f = says_accepted (ap (is_final d.finals) s ∙ f)
        by_state q s false f = says_not_final (some_there q root_state s) (ap (is_final d.finals) s ∙ f)

        by_end : (v : RunEnd) → run_from d 0 xs [] ≡ v → Says (verdict_by d.finals v)
        by_end (gives q) r = by_state q (its_state ∙ ap ended r) (is_final d.finals (some q)) refl
        by_end (stuck p) r = says_no_rule (its_state ∙ ap ended r) (stopped p r)

  -- so each is told exactly if it holds
  is_accepted : {v : Verdict} → Says v → (v ≡ Verdict.Accepted) ↔ (is_final d.finals root_state ≡ true)
  is_accepted (says_accepted f) = (λ e. f, λ a. refl)
  is_accepted (says_not_final s f) = (λ e. (let z : ◌≡◌ {A = ℕ} 0 1 = cc in absurd (omega arith)), λ a. absurd (true≢false (sym a ∙ f)))
  is_accepted (says_no_rule s n) = (λ e. (let z : ◌≡◌ {A = ℕ} 0 1 = cc in absurd (omega arith)), λ a. absurd (true≢false (sym a ∙ no_final s)))

  is_not_final : {v : Verdict} → Says v → (v ≡ Verdict.NotFinal) ↔ ((root_state ≢ none) × (is_final d.finals root_state ≡ false))
  is_not_final (says_accepted f) = (λ e. (let z : ◌≡◌ {A = ℕ} 0 1 = cc in absurd (omega arith)), λ a. absurd (true≢false (sym f ∙ a.1)))
  is_not_final (says_not_final s f) = (λ e. (s, f), λ a. refl)
  is_not_final (says_no_rule s n) = (λ e. (let z : ◌≡◌ {A = ℕ} 0 1 = cc in absurd (omega arith)), λ a. absurd (a.0 s))

  -- a place without a rule leaves the root without a state
  is_no_rule : {v : Verdict} (p : ℕ) → Says v → (NoRuleAt d xs p → root_state ≡ none) → (v ≡ Verdict.NoRule p) ↔ NoRuleAt d xs p
  is_no_rule p (says_accepted f) r = (λ e. (let z : ◌≡◌ {A = ℕ} 0 1 = cc in absurd (omega arith)), λ a. absurd (true≢false (sym f ∙ no_final (r a))))
  is_no_rule p (says_not_final s f) r = (λ e. (let z : ◌≡◌ {A = ℕ} 0 1 = cc in absurd (omega arith)), λ a. absurd (s (r a)))
  is_no_rule p (says_no_rule {p = q} s n) r = (λ e. (let u : q ≡ p = cc in subst (NoRuleAt d xs) u n), λ a. ap Verdict.NoRule (one_place n a))

  none_or : (o : Option ℕ) → (o ≢ none → ⊥) → o ≡ none
  none_or none z = refl
  none_or (some q) z = absurd (z (some_there q (some q) refl))

  rootless : {p : ℕ} → NoRuleAt d xs p → root_state ≡ none
  rootless n = none_or root_state (λ s. state_within d s n.inside n.stateless)

-- OF THE CALL: taken it leaves the tables as they are, and tells their automaton's verdict
call_tells : (l : Lent) (xs : List ℕ) → is_taken l (judges xs) ≡ true →
    (record_fault (meant l).store.counts xs ≡ 0) × (judge_seen l.words l.lists xs ≡ judged_as (verdict_on (automaton_of (meant l)) xs))
call_tells l xs t =
    let w = is_taken_law l (judges xs) t in
    ((or_zero (unless (not (is_asking (meant l))) 31) (record_fault (meant l).store.counts xs) w.taken.faultless).1, ap (judged_by xs) (w.outcome ∙ sym w.taken.done))

-- BEHIND 32: words, lists and tables are as they must be
verdict_behind : (l : Lent) (xs : List ℕ) (m : ℕ) → call_number l.words l.lists (offers xs m) ≡ 32 →
    (is_taken l (judges xs) ≡ true) × (cond (is_yes (verdict_on (automaton_of (meant l)) xs)) 1 0 ≡ m)
verdict_behind l xs m q =
    let x = meant l in
    let s = sound_behind l (offers xs m) (λ e. omega (arith, e, q)) (λ e. omega (arith, e, q)) in
    let o = only_32 x xs m (by_line x xs m s.tested (sym (ap number_of (call_meant l s (offers xs m))) ∙ q)) in
    let n = ap number_of (call_meant l s (judges xs)) ∙ others_taken.verdict x xs s.tested o.idle o.fits in
    (eq-eqb (call_number l.words l.lists (judges xs)) 0 n, eqb-true (cond (is_yes (verdict_on (automaton_of x) xs)) 1 0) m o.verdict)

pub verdict_told : VerdictTold
verdict_told =
    record {
      accepted = λ d xs e. is_accepted d xs (says d xs e);
      not_final = λ d xs e. is_not_final d xs (says d xs e);
      no_rule_law = λ d xs p e. is_no_rule d xs p (says d xs e) (rootless d xs);
      told = call_tells;
      behind_32 = verdict_behind;
    }

-- What the verdict on a listed record says (§1.4, §3.8) of the record as a tree, and that the call tells it: accepted and not final by the
-- state of the root; no rule at a place exactly if the subtree there is the leftmost innermost one without a state.
use Rattle.std.specs.Prelude.{◌≡◌, ◌≢◌, ◌↔◌, true, false, cond, List, ℕ, suc, ◌<◌, length, take}
use Rattle.std.proofs.Math.Option.{Option, none}
use Rattle.model.specs.Base.{Each}
use Rattle.model.specs.Terms.{Tree, tree, eval_forest, Within, tree_of, record_fault}
use Rattle.model.specs.Automata.{Automaton, leads, state_of, accepts, verdict_on, is_yes}
use Rattle.model.specs.Table.{automaton_of}
use Rattle.model.specs.Calls.{offers, judges}
use Rattle.model.specs.Entry.{call_number, judged_as, judge_seen}
use Rattle.model.specs.Run.{Lent, meant, is_taken}
use Rattle.model.specs.declared.Verdict.{Verdict}

-- the subtree whose root is the symbol at a place: what the symbols up to there end with
abbrev pub subtree_at : (counts symbols : List ℕ) → (place : ℕ) → Tree
subtree_at ns xs p = tree_of ns (take (suc p) xs)

-- the states of its children, from left to right
abbrev pub child_states : Automaton → Tree → List (Option ℕ)
child_states d (tree a ts) = eval_forest (leads d.rules) ts

-- NO RULE AT A PLACE: the subtree there is one of the record's and has no state, its children all have one, and so has every subtree before it
pub record NoRuleAt (d : Automaton) (xs : List ℕ) (p : ℕ) : Type 0 where
  pub within : p < length xs
  pub inside : Within (subtree_at d.counts xs p) (tree_of d.counts xs)
  pub stateless : state_of d (subtree_at d.counts xs p) ≡ none
  pub innermost : Each (λ (q : Option ℕ). q ≢ none) (child_states d (subtree_at d.counts xs p))
  pub leftmost : (q : ℕ) → q < p → state_of d (subtree_at d.counts xs q) ≢ none

pub record VerdictTold : Type 0 where
  -- of any automaton and any record listed without a fault
  pub accepted : (d : Automaton) (xs : List ℕ) → record_fault d.counts xs ≡ 0 →
      (verdict_on d xs ≡ Verdict.Accepted) ↔ (accepts d (tree_of d.counts xs) ≡ true)
  pub not_final : (d : Automaton) (xs : List ℕ) → record_fault d.counts xs ≡ 0 →
      (verdict_on d xs ≡ Verdict.NotFinal) ↔ ((state_of d (tree_of d.counts xs) ≢ none) × (accepts d (tree_of d.counts xs) ≡ false))
  pub no_rule_law : (d : Automaton) (xs : List ℕ) (p : ℕ) → record_fault d.counts xs ≡ 0 →
      (verdict_on d xs ≡ Verdict.NoRule p) ↔ NoRuleAt d xs p
  -- a call that is taken tells that of the proposed automaton, on a record without a fault
  pub told : (l : Lent) (xs : List ℕ) → is_taken l (judges xs) ≡ true →
      (record_fault (meant l).store.counts xs ≡ 0) × (judge_seen l.words l.lists xs ≡ judged_as (verdict_on (automaton_of (meant l)) xs))
  -- where an offer gets 32 the verdict may be asked, and it is the mark
  pub behind_32 : (l : Lent) (xs : List ℕ) (m : ℕ) → call_number l.words l.lists (offers xs m) ≡ 32 →
      (is_taken l (judges xs) ≡ true) × (cond (is_yes (verdict_on (automaton_of (meant l)) xs)) 1 0 ≡ m)

-- The proposed automaton by its representatives: the finals and the flat rules that were written are the automaton's.
-- The automaton by representatives is the proposed one, and the representative of every state is a used row.
use mathlib.Core.Path.{◌≡◌, ap, ◌∙◌}
use mathlib.Core.List.{List}
use Prim.Native.Nat.{ℕ, ◌*◌, ◌≤◌, ◌<◌}
use native.Mathlib.Omega.{arith}
use lib.ListN.{length, get_or, take}
use Rattle.model.specs.Limits.{most_rules}
use Rattle.model.specs.Automata.{Rule, Automaton}
use Rattle.model.specs.Table.{finals_of}
use Rattle.model.specs.Calls.{sheet_of}
use Rattle.model.specs.Entry.{store_of, answers_in, tables_of}
use Rattle.model.specs.declared.Lists.{Lists}
use Rattle.model.proofs.Laws.Lists.{at_place}
use Rattle.bank.proofs.Laws.Words.{used_of}
use Rattle.run_lists.specs.Members.{counts_in, states_in, rules_in}
use Rattle.table_verdict.specs.Rules.{rule_by, rules_by}
use Rattle.list.specs.Flat.{flat_rules, flat_sheet, rule_width}
use Rattle.list.proofs.Flat.{flat_part, flat_each}
use Rattle.sound.specs.Proposal.{Proposal}
use Rattle.call_emit.specs.Proposal.{Flat}

module _ {ws : List ℕ} (l : Lists) {reps : List ℕ} (p : Proposal ws l reps) where
  pub reps_used : (i : ℕ) → i < length (states_in l) → get_or (states_in l) i 0 < l.used
  reps_used i h =
      let k : ℕ = get_or (states_in l) i 0 in
      let r = p.ruled.row k (p.ruled.among k (at_place (states_in l) i h)) in
      omega (arith, r.1, used_of ws (counts_in l) l.used)

  module _ (few : length (rules_in l) ≤ most_rules) where
    rules_are : (us : List ℕ) → Flat (store_of ws (counts_in l) l.used) (states_in l) (rules_in l) reps (length (rules_in l)) us →
        flat_rules (counts_in l) (take (rule_width * length (rules_in l)) us) ≡ rules_by (store_of ws (counts_in l) l.used) (states_in l) (rules_in l) reps
    rules_are us f =
        let rule : ℕ → Rule = rule_by (store_of ws (counts_in l) l.used) (states_in l) reps in
        flat_part (length (rules_in l)) (counts_in l) us (omega (arith, f.long, few)) ∙ flat_each rule (counts_in l) (rules_in l) us f.rule

    pub proposal_is : (fs us : List ℕ) → take (length (states_in l)) fs ≡ finals_of (answers_in l.used ws) (states_in l) →
        Flat (store_of ws (counts_in l) l.used) (states_in l) (rules_in l) reps (length (rules_in l)) us →
        flat_sheet (counts_in l) (take (length (states_in l)) fs) (take (rule_width * length (rules_in l)) us) ≡ sheet_of (tables_of ws l)
    proposal_is fs us e f =
        let r = rules_are us f in
        (λ i. record { automaton = record { counts = counts_in l; finals = e i; rules = r i } }) ∙ ap (λ (d : Automaton). record { automaton = d }) p.is

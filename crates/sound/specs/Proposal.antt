-- The proposed automaton by its representatives (§1.5), where tables are sound and no question is open.
use Rattle.std.specs.Prelude.{◌≡◌, List, ℕ}
use Rattle.model.specs.Table.{automaton_of}
use Rattle.model.specs.Entry.{store_of, tables_of}
use Rattle.model.specs.declared.Lists.{Lists}
use Rattle.run_lists.specs.Members.{counts_in, states_in, rules_in}
use Rattle.bank.specs.Bank.{Stored}
use Rattle.table_verdict.specs.Rules.{Ruled, hypothesis}

-- rows that can be read, a representative for each transition, and what they mean
pub record Proposal (words : List ℕ) (l : Lists) (reps : List ℕ) : Type 0 where
  pub rows : Stored words (counts_in l) l.used
  pub ruled : Ruled (store_of words (counts_in l) l.used) (states_in l) (rules_in l) reps
  pub is : hypothesis words (counts_in l) l.used l.s l.states l.t l.rules reps ≡ automaton_of (tables_of words l)

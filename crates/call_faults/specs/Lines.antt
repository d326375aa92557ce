-- The lines of an offer that need no table (§5.3): 31, 11 to 16.
use Rattle.std.specs.Prelude.{◌≡◌, List, ℕ, ◌≤◌}
use Rattle.model.specs.Terms.{record_fault}
use Rattle.model.specs.Calls.{offer_fault}
use Rattle.model.specs.Entry.{tables_of}
use Rattle.model.specs.declared.Lists.{Lists}
use Rattle.run_lists.specs.Members.{counts_in}

-- no question open, not accepted, 11 to 16 not given
pub record Tested (l : Lists) (xs : List ℕ) (m : ℕ) : Type 0 where
  pub idle : l.asked ≡ 0
  pub running : l.accepted ≡ 1 → ⊥
  pub faultless : record_fault (counts_in l) xs ≡ 0
  pub mark : m ≤ 1

-- a number that refuses the offer, whatever the words are; or 0, and none of these lines applies
pub record InputFault (l : Lists) (xs : List ℕ) (m number : ℕ) : Type 0 where
  pub given : (number ≡ 0 → ⊥) → (ws : List ℕ) → number ≡ offer_fault (tables_of ws l) xs m
  pub free : number ≡ 0 → Tested l xs m

-- What a test of a body tells (§6.2): states that fit are few, and where the symbol is the one sought, the states decide.
-- By the first test of each.
use mathlib.Core.Path.{◌≡◌}
use mathlib.Core.Bool.{true}
use mathlib.Core.List.{List}
use Prim.Native.Nat.{ℕ, ◌≤◌}
use lib.Dec.{leb}
use lib.ListN.{length, get_or}
use borrow.Author.Tests.{leb-true, eq-eqb}
use Rattle.model.specs.Limits.{most_states}
use Rattle.model.specs.Base.{all, same}
use Rattle.model.specs.Automata.{has_left_side}
use Rattle.model.specs.Listing.{rule_in, finals_fit}
use Rattle.model.proofs.Laws.Tests.{both_true}

pub finals_few : (ns : List ℕ) → finals_fit ns ≡ true → length ns ≤ most_states
finals_few ns f = leb-true (length ns) most_states (both_true (leb (length ns) most_states) (all (λ (z : ℕ). leb z 1) ns) f).0

pub left_states : (b : List ℕ) (a : ℕ) (qs : List ℕ) → get_or b 0 0 ≡ a → has_left_side a qs (rule_in b) ≡ same (rule_in b).states qs
left_states b a qs h = rw (eq-eqb (get_or b 0 0) a h)

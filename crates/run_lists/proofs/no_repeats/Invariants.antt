-- `run_lists::no_repeats` meets its contract: what is left of the list decides.
use Rattle.std.proofs.Common.{◌≡◌, length}
use Rattle.model.specs.Base.{no_repeats}
use Rattle.run_lists.proofs.no_repeats.Given as goal

abbrev pub invariant-loop-x : goal.invariant-loop-x
invariant-loop-x l = no_repeats l.xs ≡ no_repeats l.rest

abbrev pub decreases-loop-x : goal.decreases-loop-x
decreases-loop-x l = length l.rest

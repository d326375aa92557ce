-- The transitions from k on decide.
use Rattle.std.proofs.Common.{◌≡◌, ◌-◌}
use Rattle.table.specs.Answers.{gap_from}
use Rattle.table.proofs.first_unknown.Given as goal

abbrev pub invariant-loop-k : goal.invariant-loop-k
invariant-loop-k l = gap_from l.table l.contexts l.k (l.rules - l.k) ≡ gap_from l.table l.contexts 0 l.rules

-- The first k rows begin with an unknown answer.
use Rattle.table.specs.Answers.{Forgotten}
use Rattle.table.proofs.forget.Given as goal

abbrev pub invariant-loop-k : goal.invariant-loop-k
invariant-loop-k l = Forgotten l.k l.table

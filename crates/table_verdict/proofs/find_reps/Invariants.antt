-- The first k transitions have their representatives, and the other rows 0.
use Rattle.std.proofs.Common.{length, take}
use Rattle.table_verdict.proofs.Laws.Reps.{RepsTo}
use Rattle.table_verdict.proofs.find_reps.Given as goal

abbrev pub invariant-loop-k : goal.invariant-loop-k
invariant-loop-k l = RepsTo l.table l.contexts (take (length l.s) l.s_in_t) l.s l.t l.reps l.k

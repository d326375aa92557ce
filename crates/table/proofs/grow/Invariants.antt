-- S stands in the first n places, and the transitions from k on decide what it becomes.
use Rattle.std.proofs.Common.{take}
use Rattle.table.specs.Answers.{answers_at, grow_at}
use Rattle.table.proofs.Laws.Growth.{Growing}
use Rattle.table.proofs.grow.Given as goal

abbrev pub invariant-loop-k : goal.invariant-loop-k
invariant-loop-k l =
    Growing (answers_at l.table l.contexts) l.rules (grow_at l.table l.contexts l.rules (take l.fn.states l.fn.s_in_t)) l.n l.s l.k

-- The representatives from q on decide, counted from q.
use Rattle.std.proofs.Common.{◌≡◌, drop}
use Rattle.model.specs.Table.{state_from}
use Rattle.table.specs.Answers.{answers_at, state_at}
use Rattle.table.proofs.state_of.Given as goal

abbrev pub invariant-loop-q : goal.invariant-loop-q
invariant-loop-q l =
    state_from (answers_at l.table l.contexts) (answers_at l.table l.contexts l.a) l.q (drop l.q l.p-items) ≡ state_at l.table l.contexts l.p-items l.a

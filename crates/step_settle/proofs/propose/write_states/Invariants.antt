-- The loop of `propose::write_states`: the first i members of S are those at the first i places.
use Rattle.std.proofs.Common.{◌≡◌, length, take}
use Rattle.model.specs.Limits.{most_states}
use Rattle.model.specs.Base.{over}
use Rattle.table.specs.Answers.{rows_at}
use Rattle.step_settle.proofs.propose.write_states.Given as goal

abbrev pub invariant-loop-i : goal.invariant-loop-i
invariant-loop-i l = (length l.s ≡ most_states) × (l.s ≡ over (rows_at l.fn.t (take l.i l.fn.s_in_t)) l.fn.s)

-- The first i members of S have their places.
use Rattle.table.proofs.Laws.InT.{Finding}
use Rattle.table.proofs.find_s_in_t.Given as goal

abbrev pub invariant-loop-i : goal.invariant-loop-i
invariant-loop-i l = Finding l.s l.t l.s_in_t l.i

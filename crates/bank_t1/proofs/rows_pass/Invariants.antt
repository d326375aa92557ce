-- `bank_t1::rows_pass` meets its contract: the rows before i have passed, are indexed and marked, and the rest decide.
use Rattle.bank_t1.proofs.Laws.Pass.{Passing}
use Rattle.bank_t1.proofs.rows_pass.Given as goal

abbrev pub invariant-loop-i : goal.invariant-loop-i
invariant-loop-i l = Passing l.words l.counts l.used l.index l.i

-- The representatives of the first k children stand in the first places, and 0 in the others.
use Rattle.model.specs.Entry.{store_of}
use Rattle.table_verdict.proofs.Laws.Rows.{KidsLed}
use Rattle.table_verdict.proofs.row_rep.Given as goal

abbrev pub invariant-loop-k : goal.invariant-loop-k
invariant-loop-k l = KidsLed (store_of l.bank.words l.bank.counts l.bank.used) l.led l.row.0 l.places l.k

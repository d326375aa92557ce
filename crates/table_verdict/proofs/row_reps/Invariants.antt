-- The rows before i have their representatives in the second column, and the first is as it was.
use Rattle.std.proofs.Common.{set}
use Rattle.model.specs.Entry.{store_of}
use Rattle.bank.specs.Notes.{room_in}
use Rattle.table_verdict.proofs.Laws.Rows.{Noted}
use Rattle.table_verdict.proofs.row_reps.Given as goal

abbrev pub invariant-loop-i : goal.invariant-loop-i
invariant-loop-i l = Noted (store_of l.bank.words l.bank.counts l.bank.used) (set l.fn.notes (room_in l.fn.notes) 0) l.notes l.i

-- The marked rows before row i have their positions.
use Rattle.std.proofs.Common.{◌-◌}
use Rattle.model.specs.Entry.{store_of}
use Rattle.bank.specs.Notes.{room_in}
use Rattle.table_columns.proofs.Laws.Needed.{Listing}
use Rattle.table_columns.proofs.needed.list_marked.Given as goal

abbrev pub invariant-loop-i : goal.invariant-loop-i
invariant-loop-i l = Listing (store_of l.bank.words l.bank.counts l.bank.used) l.bank.index (room_in l.fn.notes) l.fn.notes l.notes (l.i - 1) l.n

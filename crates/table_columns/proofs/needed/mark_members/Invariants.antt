-- The first members of C are marked, and the hole child of each marked row.
use Rattle.model.specs.Entry.{store_of}
use Rattle.bank.specs.Notes.{room_in}
use Rattle.table_columns.specs.Notes.{MembersMarked, HoledMarks, KidsMarked}
use Rattle.table_columns.proofs.needed.mark_members.Given as goal

abbrev pub invariant-loop-row : goal.invariant-loop-row
invariant-loop-row l =
    record {
      holed : HoledMarks l.bank.index (room_in l.fn.notes) l.bank.used l.notes;
      kids : KidsMarked (store_of l.bank.words l.bank.counts l.bank.used) l.bank.index (room_in l.fn.notes) l.bank.used 1 l.notes;
      members : MembersMarked (room_in l.fn.notes) l.c l.row-index l.notes;
    }

-- The positions before p have what their rows fill to, and the first three columns of the notes are as they were.
use Rattle.std.proofs.Common.{◌≡◌, ◌+◌, ◌-◌, ◌<◌, ◌≤◌}
use Rattle.model.specs.Entry.{store_of}
use Rattle.bank.specs.Notes.{room_in}
use Rattle.table_columns.specs.Notes.{filled_note, SameNotes, Column}
use Rattle.table_columns.proofs.fill_column.Given as goal

abbrev pub invariant-loop-p : goal.invariant-loop-p
invariant-loop-p l =
    let z = room_in l.fn.notes in
    record {
      some : 0 < l.p;
      few : l.p ≤ l.n + 1;
      column : Column (store_of l.bank.words l.bank.counts l.bank.used) l.fn.with.0 z l.notes l.p;
      same : SameNotes 3 z l.fn.notes l.notes;
      first : filled_note z l.notes 0 ≡ l.fn.with.0;
    }

abbrev pub decreases-loop-p : goal.decreases-loop-p
decreases-loop-p l = l.n + 1 - l.p

-- The hole child of each marked row is marked, or it is the row that the way down has reached.
use Rattle.std.proofs.Common.{◌≡◌, ◌<◌, get_or}
use Rattle.model.specs.Entry.{store_of}
use Rattle.bank.specs.Index.{hole_of}
use Rattle.bank.specs.Notes.{room_in}
use Rattle.table_columns.specs.Notes.{mark_note, HoledMarks, StayMarked}
use Rattle.table_columns.proofs.Laws.Marks.{OpenMarks}
use Rattle.table_columns.proofs.needed.mark_from.Given as goal

abbrev pub invariant-loop-at : goal.invariant-loop-at
invariant-loop-at l =
    let z = room_in l.fn.notes in
    record {
      within : l.at < l.bank.used;
      holed_at : 0 < l.at → get_or l.bank.index (hole_of l.at) 0 ≡ 0 → ⊥;
      holed : HoledMarks l.bank.index z l.bank.used l.notes;
      way : OpenMarks (store_of l.bank.words l.bank.counts l.bank.used) l.bank.index z l.bank.used l.at l.notes;
      stay : StayMarked z l.fn.notes l.notes;
      own : (l.at ≡ l.fn.row.0 → ⊥) → mark_note z l.notes l.fn.row.0 ≡ 0 → ⊥;
    }

abbrev pub decreases-loop-at : goal.decreases-loop-at
decreases-loop-at l = l.at

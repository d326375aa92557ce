-- The positions after p have the ends of their runs, and `end` is that of position p.
use Rattle.std.proofs.Common.{◌+◌, ◌≤◌}
use Rattle.bank.specs.Notes.{room_in}
use Rattle.table_columns.specs.Notes.{Runs, SameNotes}
use Rattle.table_columns.proofs.Laws.Needed.{Spine}
use Rattle.table_columns.proofs.needed.find_runs.Given as goal

abbrev pub invariant-loop-p : goal.invariant-loop-p
invariant-loop-p l =
    record {
      ahead : l.p + 1 ≤ l.end;
      low : l.end ≤ l.n + 1;
      runs : Runs (room_in l.fn.notes) l.notes (l.p + 1) l.n;
      spine : Spine (room_in l.fn.notes) l.notes (l.p + 1) l.end;
      same : SameNotes 2 (room_in l.fn.notes) l.fn.notes l.notes;
    }

-- `table_columns::fill_column` meets its contract, by the laws of Columns: the first three columns of the notes stay, so the needed rows do.
use Rattle.std.proofs.Common.{arith}
use Rattle.bank.specs.Notes.{room_in}
use Rattle.table_columns.proofs.Laws.Needed.{needed_kept}
use Rattle.table_columns.proofs.Laws.Columns.{column_start, same_first, first_filled}
use Rattle.table_columns.proofs.fill_column.Goals as goal

pub loop-p-init : goal.loop-p-init
loop-p-init c =
    let a = c.args in
    let z = room_in a.notes.now in
    let same = same_first z a.notes.now a.with.0 in
    let first = first_filled z a.notes.now a.with.0 (omega (arith, c.requires.2, c.requires.3)) in
    record {
      some = omega arith;
      few = omega arith;
      column = column_start c.used.ensures.ready (needed_kept (λ i l. same.same i (omega arith)) c.requires.2 c.requires.0) a.with.0 first c.requires.3;
      same = same;
      first = first;
    }

-- The first j answers stand in the row.
use Rattle.std.proofs.Common.{◌≡◌, ◌*◌}
use Rattle.std.proofs.Math.Seq.{paste}
use Rattle.model.specs.Limits.{most_contexts}
use Rattle.bank.specs.Notes.{room_in}
use Rattle.table_columns.specs.Notes.{column_answers}
use Rattle.table_columns.proofs.read_column.Given as goal

abbrev pub invariant-loop-j : goal.invariant-loop-j
invariant-loop-j l = l.table ≡ paste l.fn.table (most_contexts * l.k) (column_answers l.words (room_in l.notes) l.notes l.tops) l.j

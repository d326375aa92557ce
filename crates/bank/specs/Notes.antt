-- The notes of a call: one slice of four numbers a row, in four columns. The first has the representatives of the transitions;
-- the others have what one loop at a time writes down.
use Rattle.std.specs.Prelude.{List, ℕ, ◌*◌, ◌/◌, ◌≤◌, length, take, drop}
use Rattle.model.specs.Limits.{row_width}

abbrev pub note_width : ℕ
note_width = 4

-- the rows that notes have room for
abbrev pub room_in : (notes : List ℕ) → ℕ
room_in ns = length ns / note_width

-- room for all rows lent
abbrev pub NotesFor : (words notes : List ℕ) → Type 0
NotesFor ws ns = length ws ≤ row_width * room_in ns

-- a column: a number for each of these rows
abbrev pub column_in : (notes : List ℕ) → (k : ℕ) → List ℕ
column_in ns k = take (room_in ns) (drop (k * room_in ns) ns)

-- the columns: the representatives; and while a record is in hand the way down of each row, the row at its spot, the row after the exchange
abbrev pub reps_in : (notes : List ℕ) → List ℕ
reps_in ns = column_in ns 0

abbrev pub down_in : (notes : List ℕ) → List ℕ
down_in ns = column_in ns 1

abbrev pub spots_in : (notes : List ℕ) → List ℕ
spots_in ns = column_in ns 2

abbrev pub exchanged_in : (notes : List ℕ) → List ℕ
exchanged_in ns = column_in ns 3

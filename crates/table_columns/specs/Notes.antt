-- What the columns of answers keep in the notes, a number for each position: the needed rows, the position of each one's hole child,
-- the ends of runs, and the rows that they fill to.
use Rattle.std.specs.Prelude.{◌≡◌, List, map, ℕ, ◌+◌, ◌*◌, ◌≤◌, ◌<◌, length, get_or, set}
use Rattle.model.specs.Store.{Store, filled_row, frames_of}
use Rattle.bank.specs.Rows.{answer_in}
use Rattle.bank.specs.Index.{hole_of}
use Rattle.bank.specs.Notes.{room_in}
use Rattle.table_columns.specs.Columns.{hole_kid}

-- THE COLUMNS, where there is room for z positions
-- the row at a position
abbrev pub row_note : (notes : List ℕ) → (position : ℕ) → ℕ
row_note ns p = get_or ns p 0

-- the position of its hole child
abbrev pub below_note : (z : ℕ) → (notes : List ℕ) → (position : ℕ) → ℕ
below_note z ns p = get_or ns (z + p) 0

-- where its run ends
abbrev pub end_note : (z : ℕ) → (notes : List ℕ) → (position : ℕ) → ℕ
end_note z ns p = get_or ns (2 * z + p) 0

-- the row that it fills to, 0 where that is not stored
abbrev pub filled_note : (z : ℕ) → (notes : List ℕ) → (position : ℕ) → ℕ
filled_note z ns p = get_or ns (3 * z + p) 0

-- the last column by row number, before a column is filled: the mark of a needed row, then its position
abbrev pub mark_note : (z : ℕ) → (notes : List ℕ) → (row : ℕ) → ℕ
mark_note z ns i = get_or ns (3 * z + i) 0

-- CHANGED only from the k-th column on
pub record SameNotes (k z : ℕ) (notes after : List ℕ) : Type 0 where
  pub size : length after ≡ length notes
  pub same : (i : ℕ) → i < k * z → get_or after i 0 ≡ get_or notes i 0

-- the last column cleared from one position up to another
pub record Cleared (z : ℕ) (notes : List ℕ) (from end : ℕ) (after : List ℕ) : Type 0 where
  pub before : (i : ℕ) → i < 3 * z + from → get_or after i 0 ≡ get_or notes i 0
  pub clear : (i : ℕ) → from ≤ i → i < end → get_or after (3 * z + i) 0 ≡ 0

-- MARKS: the first j members of C beyond row 0
abbrev pub MembersMarked : (z : ℕ) → (c : List ℕ) → (j : ℕ) → (notes : List ℕ) → Type 0
MembersMarked z c j ns = (k : ℕ) → k < j → (get_or c k 0 ≡ 0 → ⊥) → mark_note z ns (get_or c k 0) ≡ 0 → ⊥

-- a marked row beyond row 0 has a hole
pub record HoledMarks (index : List ℕ) (z u : ℕ) (notes : List ℕ) : Type 0 where
  pub holed : (i : ℕ) → 0 < i → i < u → (mark_note z notes i ≡ 0 → ⊥) → get_or index (hole_of i) 0 ≡ 0 → ⊥

-- the hole child of each marked row from row i on is marked, where it is not row 0
pub record KidsMarked (x : Store) (index : List ℕ) (z u i : ℕ) (notes : List ℕ) : Type 0 where
  pub kids : (j : ℕ) → 0 < j → i ≤ j → j < u → (mark_note z notes j ≡ 0 → ⊥) → (hole_kid x index j ≡ 0 → ⊥) → mark_note z notes (hole_kid x index j) ≡ 0 → ⊥

-- marked rows stay marked
abbrev pub StayMarked : (z : ℕ) → (notes after : List ℕ) → Type 0
StayMarked z ns us = (i : ℕ) → (mark_note z ns i ≡ 0 → ⊥) → mark_note z us i ≡ 0 → ⊥

-- the marks of what the members of C need, row 0 at position 0
pub record NeedMarks (x : Store) (index : List ℕ) (z u : ℕ) (c notes : List ℕ) : Type 0 where
  pub holed : HoledMarks index z u notes
  pub kids : KidsMarked x index z u 1 notes
  pub first : row_note notes 0 ≡ 0
  pub hole : mark_note z notes 0 ≡ 0
  pub members : (j : ℕ) → j < length c → (get_or c j 0 ≡ 0 → ⊥) → mark_note z notes (get_or c j 0) ≡ 0 → ⊥

-- THE NEEDED ROWS: row 0 at position 0, and rows with a hole at positions 1 to n, each behind its hole child
pub record NeededRows (x : Store) (index : List ℕ) (u z : ℕ) (notes : List ℕ) (n : ℕ) : Type 0 where
  pub few : n < u
  pub first : row_note notes 0 ≡ 0
  pub within : (p : ℕ) → p ≤ n → row_note notes p < u
  pub marked : (p : ℕ) → 0 < p → p ≤ n → get_or index (hole_of (row_note notes p)) 0 ≡ 0 → ⊥
  pub early : (p : ℕ) → 0 < p → p ≤ n → below_note z notes p < p
  pub kid : (p : ℕ) → 0 < p → p ≤ n → row_note notes (below_note z notes p) ≡ hole_kid x index (row_note notes p)

-- a row has its position in the last column
pub record Seated (z : ℕ) (notes : List ℕ) (n i : ℕ) : Type 0 where
  pub within : mark_note z notes i ≤ n
  pub there : row_note notes (mark_note z notes i) ≡ i

-- row 0 and each marked row have their positions
abbrev pub AllSeated : (z u : ℕ) → (notes after : List ℕ) → (n : ℕ) → Type 0
AllSeated z u ns us n = (i : ℕ) → i < u → ((i ≡ 0 → ⊥) → mark_note z ns i ≡ 0 → ⊥) → Seated z us n i

-- row 0 put at position 0
abbrev pub hole_first : (z : ℕ) → (notes : List ℕ) → List ℕ
hole_first z ns = set (set ns 0 0) (3 * z) 0

-- a row put behind the needed rows, where its hole child is row k: it is at position n
abbrev pub needed_more : (z : ℕ) → (notes : List ℕ) → (n row k : ℕ) → List ℕ
needed_more z ns n i k = set (set (set ns n i) (z + n) (mark_note z ns k)) (3 * z + i) n

-- RUNS of the positions from one on: behind a position up to its end each row is the parent of the one before
pub record Runs (z : ℕ) (notes : List ℕ) (from n : ℕ) : Type 0 where
  pub ahead : (p : ℕ) → from ≤ p → p ≤ n → p < end_note z notes p
  pub last : (p : ℕ) → from ≤ p → p ≤ n → end_note z notes p ≤ n + 1
  pub spine : (p q : ℕ) → from ≤ p → p ≤ n → p < q → q < end_note z notes p → below_note z notes q + 1 ≡ q

-- TOPS: the positions of the members of C
pub record Tops (c notes : List ℕ) (n : ℕ) (tops : List ℕ) : Type 0 where
  pub within : (j : ℕ) → j < length c → get_or tops j 0 ≤ n
  pub right : (j : ℕ) → j < length c → row_note notes (get_or tops j 0) ≡ get_or c j 0

-- what a column is filled with: the needed rows of C, their runs, the positions of its members
pub record NeededFor (x : Store) (index : List ℕ) (u : ℕ) (c notes : List ℕ) (n : ℕ) (positions : List ℕ) : Type 0 where
  pub fits : u ≤ room_in notes
  pub needed : NeededRows x index u (room_in notes) notes n
  pub runs : Runs (room_in notes) notes 1 n
  pub tops : Tops c notes n positions

-- all numbers of a list below a bound
abbrev pub AllBelow : (bound : ℕ) → (rows : List ℕ) → Type 0
AllBelow z c = (j : ℕ) → j < length c → get_or c j 0 < z

-- the number of each member of C in the last column
abbrev pub TopsRead : (z : ℕ) → (c notes tops : List ℕ) → Type 0
TopsRead z c ns ps = (j : ℕ) → j < length c → get_or ps j 0 ≡ mark_note z ns (get_or c j 0)

-- positions fill to used rows
abbrev pub UsedAt : (u z : ℕ) → (notes tops : List ℕ) → Type 0
UsedAt u z ns ps = (j : ℕ) → j < length ps → filled_note z ns (get_or ps j 0) < u

-- what a context fills to with a record, and that it is a used row
pub record RightEntry (x : Store) (i row entry : ℕ) : Type 0 where
  pub is : entry ≡ filled_row x (frames_of x i) row
  pub within : entry < length x.nodes

-- A COLUMN of a record: the rows at the first p positions have what they fill to
pub record Column (x : Store) (row z : ℕ) (notes : List ℕ) (p : ℕ) : Type 0 where
  pub right : (q : ℕ) → q < p → RightEntry x (row_note notes q) row (filled_note z notes q)

-- the answers of the rows that positions fill to
abbrev pub column_answers : (words : List ℕ) → (z : ℕ) → (notes tops : List ℕ) → List ℕ
column_answers ws z ns ps = map (λ (p : ℕ). answer_in ws (filled_note z ns p)) ps

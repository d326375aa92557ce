-- The ladder: how long the arrays are that a call works in, by the rows and the transitions that they have room for.
use Rattle.std.specs.Prelude.{List, ℕ, ◌+◌, ◌*◌, ◌/◌, ◌<◌, ◌≤◌, length}
use Rattle.model.specs.Limits.{row_width, most_rows, most_contexts, most_rules}
use Rattle.bank.specs.Index.{index_width}
use Rattle.bank.specs.Notes.{note_width}
use Rattle.call.specs.declared.ladder.Size.{Size}
use Rattle.call.specs.declared.ladder.Size.TheVariants.{Tiny, Small, Mid, Wide}

abbrev pub tiny_rows : ℕ
tiny_rows = 384

abbrev pub small_rows : ℕ
small_rows = 1024

abbrev pub mid_rows : ℕ
mid_rows = 2048

abbrev pub tiny_rules : ℕ
tiny_rules = 40

abbrev pub small_rules : ℕ
small_rules = 64

abbrev pub mid_rules : ℕ
mid_rules = 128

-- a room of this size is enough for so many rows, and for one more than so many transitions; the widest is enough for all that may be lent
abbrev pub HasRoom : Size → (rows rules : ℕ) → Type 0
HasRoom Tiny r n = (r ≤ tiny_rows) × (n < tiny_rules)
HasRoom Small r n = (r ≤ small_rows) × (n < small_rules)
HasRoom Mid r n = (r ≤ mid_rows) × (n < mid_rules)
HasRoom Wide r n = Unit {0}

-- arrays of these lengths are room to work in, for all rows lent and n transitions, and none is longer than what is enough for all that may be lent
pub record Enough (words : List ℕ) (n index table notes : ℕ) : Type 0 where
  pub some : 0 < index / index_width
  pub few : index / index_width ≤ most_rows
  pub long : length words ≤ row_width * (index / index_width)
  pub table_few : table ≤ most_contexts * (most_rules + 1)
  pub table_long : most_contexts * n ≤ table
  pub notes_few : notes ≤ note_width * most_rows
  pub notes_long : length words ≤ row_width * (notes / note_width)

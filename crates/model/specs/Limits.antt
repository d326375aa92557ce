-- The numbers of the specification (§11), each under one name.
use Rattle.std.specs.Prelude.{ℕ, ◌*◌}

-- an alphabet has 1 to 64 symbols of at most 4 children (§1.1)
abbrev pub most_symbols : ℕ
most_symbols = 64

abbrev pub most_children : ℕ
most_children = 4

-- row 0 of the record table is the hole, under a symbol that no alphabet has (§2.1)
abbrev pub hole_symbol : ℕ
hole_symbol = 255

-- six numbers a row, 1 to 16,384 rows (§2.1)
abbrev pub row_width : ℕ
row_width = 6

abbrev pub most_rows : ℕ
most_rows = 16384

-- numbers in a record table of all rows
abbrev pub most_words : ℕ
most_words = row_width * most_rows

-- room in the run's lists (§2.2)
abbrev pub most_states : ℕ
most_states = 32

abbrev pub most_rules : ℕ
most_rules = 256

abbrev pub most_contexts : ℕ
most_contexts = 289

-- a listed record has 1 to 1,024 symbols (§3.4, §3.8)
abbrev pub most_listed : ℕ
most_listed = 1024

-- which layouts and calls a host has before it (§11)
abbrev pub version : ℕ
version = 4

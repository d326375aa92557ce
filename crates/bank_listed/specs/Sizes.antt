-- The sizes of rows, noted one after the other (§8.5).
use Rattle.std.specs.Prelude.{◌≡◌, List, ℕ, ◌≤◌, ◌<◌, length, get_or}
use Rattle.model.specs.Limits.{most_rows}
use Rattle.model.specs.Terms.{size_of, cut}
use Rattle.model.specs.Entry.{store_of}
use Rattle.bank.specs.Bank.{Stored}

-- BEFORE ROW i of n: rows that can be read, and the cut sizes of the rows before i
pub record Sizing (words counts : List ℕ) (n : ℕ) (sizes : List ℕ) (i : ℕ) : Type 0 where
  pub rows : Stored words counts n
  pub few : n ≤ most_rows
  pub long : length sizes ≡ most_rows
  pub sized : (j : ℕ) → j < i → get_or sizes j 0 ≡ cut (size_of (store_of words counts n) j)

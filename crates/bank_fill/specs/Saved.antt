-- The words past the used rows, saved and put back: the first of them at the front of what is saved.
use Rattle.std.specs.Prelude.{◌≡◌, List, ℕ, ◌+◌, ◌*◌, ◌-◌, ◌≤◌, ◌<◌, length, get_or}
use Rattle.model.specs.Limits.{row_width}

-- the words from the n-th row to the i-th word, in their order
pub record SavedTo (words : List ℕ) (n i : ℕ) (saved : List ℕ) : Type 0 where
  pub long : length words ≤ row_width * n + length saved
  pub kept : (j : ℕ) → row_width * n ≤ j → j < i → j < length words → get_or saved (j - row_width * n) 0 ≡ get_or words j 0

abbrev pub Saved : (words : List ℕ) → (n : ℕ) → (saved : List ℕ) → Type 0
Saved ws n vs = SavedTo ws n (length ws) vs

-- words of which those from the n-th row to the i-th word are the saved ones
pub record BackTo (words : List ℕ) (n i : ℕ) (saved after : List ℕ) : Type 0 where
  pub same_size : length after ≡ length words
  pub front : (j : ℕ) → j < row_width * n → get_or after j 0 ≡ get_or words j 0
  pub behind : (j : ℕ) → row_width * n ≤ j → j < i → get_or after j 0 ≡ get_or saved (j - row_width * n) 0

abbrev pub PutBack : (words : List ℕ) → (n : ℕ) → (saved after : List ℕ) → Type 0
PutBack ws n vs after = BackTo ws n (length ws) vs after

-- What the readers need, and what they give over the text that they write their symbols into.
use Rattle.std.specs.Prelude.{◌≡◌, List, [], ◌∷◌, Option, Some, None, ℕ, ◌+◌, ◌*◌, ◌≤◌, ◌<◌, length, take, drop}
use Rattle.text.specs.Bytes.{most_input}
use Rattle.text.specs.Reading.{Reading, unread, read, known_places}

-- a place in a text, with a number of symbols written at its start
pub record Reads (text known : List ℕ) (at size : ℕ) : Type 0 where
  pub few : length text ≤ most_input
  pub long : length known ≡ known_places
  pub within : at ≤ length text
  pub before : size ≤ at

-- the place after a record and the symbols read, as one number
abbrev pub read_code : (next size : ℕ) → ℕ
read_code next n = 131072 * next + n

-- the symbols at the start, the rest of the text behind a place past `from`; nothing is said of the bytes between
pub record Reached (xs bs : List ℕ) (result from : ℕ) (old after : List ℕ) : Type 0 where
  pub next : ℕ
  pub size : ℕ
  pub code : result ≡ read_code next size
  pub past : from < next
  pub within : next ≤ length after
  pub before : size ≤ next
  pub room : length after ≡ length old
  pub symbols : take size after ≡ xs
  pub rest : drop next after ≡ bs

abbrev pub ReadAs : Reading → (result from : ℕ) → (old after : List ℕ) → Type 0
ReadAs unread r from old after = (r ≡ 0) × (length after ≡ length old)
ReadAs (read xs bs) r from old after = Reached xs bs r from old after

-- how many symbols a text has, or none for no record
abbrev pub counted : (symbols : List ℕ) → Option ℕ
counted [] = None
counted (x ∷ xs) = Some (length (x ∷ xs))

-- a whole text: its symbols at its start, none for no record
pub record TextAs (xs : List ℕ) (r : Option ℕ) (after : List ℕ) : Type 0 where
  pub count : r ≡ counted xs
  pub symbols : take (length xs) after ≡ xs

-- Where a line ends (§8.1): at its newline, or at the end of the input; cut there, the lines are the script's.
use Rattle.std.specs.Prelude.{◌≡◌, cond, List, [], ◌∷◌, ℕ, suc, ◌+◌, ◌-◌, ◌<◌, eqb, length, take, drop}
use Rattle.text.specs.Bytes.{newline}
use Rattle.text.specs.Script.{lines_from}

-- how many bytes come before the first newline
unfoldable pub line_length : (bytes : List ℕ) → ℕ
line_length [] = 0
line_length (b ∷ bs) = cond (eqb b newline) 0 (suc (line_length bs))

abbrev pub line_end : (input : List ℕ) → (from : ℕ) → ℕ
line_end bs from = from + line_length (drop from bs)

-- the line that begins at a place
abbrev pub line_at : (input : List ℕ) → (at : ℕ) → List ℕ
line_at bs at = take (line_end bs at - at) (drop at bs)

-- the place behind the last newline: of bytes from a place on, where that of the bytes before them is known
unfoldable pub whole_from : (from known : ℕ) → (bytes : List ℕ) → ℕ
whole_from i w [] = w
whole_from i w (b ∷ bs) = whole_from (suc i) (cond (eqb b newline) (suc i) w) bs

-- THE LINES of what is left of an input: up to the end of the first, then those behind it
abbrev pub LinesCut : Type 0
LinesCut = (input : List ℕ) (at : ℕ) → at < length input → lines_from [] (drop at input) ≡ line_at input at ∷ lines_from [] (drop (line_end input at + 1) input)

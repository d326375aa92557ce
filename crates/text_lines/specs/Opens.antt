-- How reading a first line ends.
use Rattle.std.specs.Prelude.{◌≡◌, List, ℕ, ◌≤◌, Option, Some, None, length, take}
use Rattle.model.specs.Limits.{most_symbols}
use Rattle.model.specs.Base.{over}
use Rattle.text.specs.Alphabet.{Alphabet, no_alphabet, alphabet}

-- read: the letters over the start of their array, the counts at the start of theirs, and how many of each
abbrev pub OpenedAs : Alphabet → Option ℕ → (letters letters' counts' : List ℕ) → Type 0
OpenedAs no_alphabet r ls ls' ns' = (r ≡ None)
OpenedAs (alphabet bs ks) r ls ls' ns' =
    (r ≡ Some (length bs)) × (length bs ≤ most_symbols) × (ls' ≡ over bs ls) × (take (length bs) ns' ≡ ks) × (length ns' ≡ most_symbols)

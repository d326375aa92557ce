-- The first line (§8.2): letters and one-digit child counts, alternating, parted by single spaces, no letter twice.
use Rattle.std.specs.Prelude.{Bool, ◌&&◌, not, cond, List, [], ◌∷◌, ◌++◌, ℕ, ◌-◌, ltb, eqb, length}
use Rattle.model.specs.Limits.{most_symbols}
use Rattle.model.specs.Base.{among}
use Rattle.text.specs.Bytes.{space, is_letter, is_digit, zero_digit}

pub data Alphabet : Type 0 where
  no_alphabet : Alphabet
  alphabet : (letters counts : List ℕ) → Alphabet

-- a letter, a space and a digit, that go with the letters before
abbrev pub pair_fits : (letters : List ℕ) → (letter between digit : ℕ) → Bool
pair_fits ls b s d = ltb (length ls) most_symbols && is_letter b && eqb s space && is_digit d && not (among b ls)

unfoldable pub pairs_from : (letters counts line : List ℕ) → Alphabet
pairs_from ls ns (b ∷ s ∷ d ∷ []) = cond (pair_fits ls b s d) (alphabet (ls ++ (b ∷ [])) (ns ++ ((d - zero_digit) ∷ []))) no_alphabet
pairs_from ls ns (b ∷ s ∷ d ∷ e ∷ bs) =
    cond (pair_fits ls b s d && eqb e space) (pairs_from (ls ++ (b ∷ [])) (ns ++ ((d - zero_digit) ∷ [])) bs) no_alphabet
pairs_from ls ns [] = no_alphabet
pairs_from ls ns (b ∷ []) = no_alphabet
pairs_from ls ns (b ∷ s ∷ []) = no_alphabet

unfoldable pub alphabet_of : (line : List ℕ) → Alphabet
alphabet_of [] = alphabet [] []
alphabet_of (b ∷ bs) = pairs_from [] [] (b ∷ bs)

-- Records as text (§8.4): the letter, then the children in brackets with commas between.
use Rattle.std.specs.Prelude.{List, [], ◌∷◌, ◌++◌, ℕ, get_or}
use Rattle.model.specs.Store.{Store, fold}
use Rattle.model.specs.Terms.{Tree, eval_tree}
use Rattle.text.specs.Bytes.{comma, opening, closing, no_letter}

abbrev pub letter_of : (letters : List ℕ) → (symbol : ℕ) → ℕ
letter_of ls a = get_or ls a no_letter

-- what follows a first child: the others, and the closing bracket
unfoldable pub others : (texts : List (List ℕ)) → List ℕ
others [] = closing ∷ []
others (t ∷ ts) = comma ∷ (t ++ others ts)

unfoldable pub bracketed : (texts : List (List ℕ)) → List ℕ
bracketed [] = []
bracketed (t ∷ ts) = opening ∷ (t ++ others ts)

abbrev pub written : (letters : List ℕ) → (symbol : ℕ) → (texts : List (List ℕ)) → List ℕ
written ls a ts = letter_of ls a ∷ bracketed ts

-- a record written, and the record of a row
abbrev pub text_of : (letters : List ℕ) → Tree → List ℕ
text_of ls t = eval_tree (written ls) t

abbrev pub row_text : (letters : List ℕ) → Store → (row : ℕ) → List ℕ
row_text ls x i = fold (λ (j a : ℕ) (ts : List (List ℕ)). written ls a ts) [] x i

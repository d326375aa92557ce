-- Records read from text (§8.4), as the record reader and the child-list reader read them; [] for a text that is no record.
use Rattle.std.specs.Prelude.{Bool, false, ◌&&◌, cond, List, [], ◌∷◌, ◌++◌, ℕ, zero, suc, ◌+◌, ◌*◌, leb, ltb, eqb, length, get_or, set, drop, replicate}
use Rattle.model.specs.Limits.{most_children}
use Rattle.text.specs.Bytes.{comma, opening, closing}

-- what a reader gives: nothing, or the symbols so far, children before parent, and the rest of the text
pub data Reading : Type 0 where
  unread : Reading
  read : (symbols rest : List ℕ) → Reading

-- THE SYMBOLS BY LETTER AND COUNT of children, five places a byte: a number that is no symbol where there is none
abbrev pub no_symbol : ℕ
no_symbol = 255

abbrev pub place_for : (letter count : ℕ) → ℕ
place_for b k = 5 * b + k

abbrev pub known_places : ℕ
known_places = 1280

abbrev pub none_known : List ℕ
none_known = replicate known_places no_symbol

unfoldable pub indexed_from : (symbol : ℕ) → (letters counts known : List ℕ) → List ℕ
indexed_from a [] ns kn = kn
indexed_from a (l ∷ ls) ns kn =
    indexed_from (suc a) ls (drop 1 ns) (cond (leb (get_or ns 0 0) most_children) (set kn (place_for l (get_or ns 0 0)) a) kn)

abbrev pub known_of : (letters counts : List ℕ) → List ℕ
known_of ls ns = indexed_from 0 ls ns none_known

abbrev pub symbol_in : (known : List ℕ) → (letter count : ℕ) → ℕ
symbol_in kn b k = get_or kn (place_for b k) no_symbol

-- a record's letter and children have been read: its symbol is looked up by both
abbrev pub closed : (known : List ℕ) → (letter children : ℕ) → (symbols rest : List ℕ) → Reading
closed kn b k xs bs = cond (eqb (symbol_in kn b k) no_symbol) unread (read (xs ++ (symbol_in kn b k ∷ [])) bs)

abbrev pub opens : (text : List ℕ) → Bool
opens bs = eqb (get_or bs 0 0) opening

-- THE READERS: a record is a letter, then a bracketed list if a bracket opens; a list is records with commas between, four at most.
-- Symbols are appended to those read before. The list reader reads the k-th child, from 1. Fuel: each call of one by the other takes one
abbrev pub after_child : (more : List ℕ → List ℕ → Reading) → (known : List ℕ) → (letter child : ℕ) → Reading → Reading
after_child more kn b k unread = unread
after_child more kn b k (read xs []) = unread
after_child more kn b k (read xs (c ∷ cs)) =
    cond (eqb c closing) (closed kn b k xs cs) (cond (eqb c comma && ltb k most_children) (more xs cs) unread)

unfoldable mutual
  pub record_from : (fuel : ℕ) → (known symbols text : List ℕ) → Reading
  record_from zero kn xs bs = unread
  record_from (suc n) kn xs [] = unread
  record_from (suc n) kn xs (b ∷ bs) = cond (opens bs) (list_from n kn b 1 xs (drop 1 bs)) (closed kn b 0 xs bs)

  pub list_from : (fuel : ℕ) → (known : List ℕ) → (letter child : ℕ) → (symbols text : List ℕ) → Reading
  list_from zero kn b k xs bs = unread
  list_from (suc n) kn b k xs bs = after_child (list_from n kn b (suc k)) kn b k (record_from n kn xs bs)

abbrev pub record_at : (known symbols text : List ℕ) → Reading
record_at kn xs bs = record_from (2 * length bs + 1) kn xs bs

abbrev pub list_at : (known : List ℕ) → (letter child : ℕ) → (symbols text : List ℕ) → Reading
list_at kn b k xs bs = list_from (2 * length bs + 2) kn b k xs bs

-- BRACKETS balance: none closes before it opened, and none stays open
unfoldable pub balanced_from : (depth : ℕ) → (text : List ℕ) → Bool
balanced_from d [] = eqb d 0
balanced_from zero (b ∷ bs) = cond (eqb b closing) false (balanced_from (cond (eqb b opening) 1 0) bs)
balanced_from (suc d) (b ∷ bs) =
    cond (eqb b closing) (balanced_from d bs) (balanced_from (cond (eqb b opening) (suc (suc d)) (suc d)) bs)

-- A WHOLE TEXT: balanced brackets, one record, nothing after it
abbrev pub whole_of : Reading → List ℕ
whole_of unread = []
whole_of (read xs []) = xs
whole_of (read xs (b ∷ bs)) = []

abbrev pub read_text : (letters counts text : List ℕ) → List ℕ
read_text ls ns bs = cond (balanced_from 0 bs) (whole_of (record_at (known_of ls ns) [] bs)) []

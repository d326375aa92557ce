-- What helpers rely on: a good store over the lent words, the place of each row's hole, a right index; the frames along
-- an array of places; and rows written behind the used ones.
use Rattle.std.specs.Prelude.{◌≡◌, Bool, cond, List, [], ◌∷◌, ◌++◌, ℕ, zero, suc, ◌*◌, ◌≤◌, ◌<◌, length, get_or, take, drop}
use Rattle.model.specs.Limits.{row_width, most_rows}
use Rattle.model.specs.Store.{Store, used, symbol_at, kids_at, has_hole, Frame, frame}
use Rattle.model.specs.Facts.{Good}
use Rattle.model.specs.Entry.{store_of, rows_lent, row_words}
use Rattle.bank.specs.Index.{hole_of, Finding}

-- the place, plus one, of the first child with a property; 0 for none
abbrev pub one_further : (code : ℕ) → ℕ
one_further zero = 0
one_further (suc k) = suc (suc k)

unfoldable pub place_code : (ℕ → Bool) → (kids : List ℕ) → ℕ
place_code p [] = 0
place_code p (k ∷ ks) = cond (p k) 1 (one_further (place_code p ks))

-- the index has the place of the child with the hole of each of the first n rows
abbrev pub Holed : Store → (index : List ℕ) → (n : ℕ) → Type 0
Holed x xs n = (i : ℕ) → i < n → get_or xs (hole_of i) 0 ≡ place_code (has_hole x) (kids_at x i)

-- rows that can be read: a good store over lent words that hold its rows whole
pub record Stored (words counts : List ℕ) (n : ℕ) : Type 0 where
  pub good : Good (store_of words counts n)
  pub room : row_width * n ≤ length words

pub record Bank (words counts : List ℕ) (n : ℕ) (index : List ℕ) : Type 0 where
  pub good : Good (store_of words counts n)
  pub lent : rows_lent words ≤ most_rows
  pub finding : Finding words n index
  pub holed : Holed (store_of words counts n) index n

-- what of Bank no alphabet enters
pub record Lent (words : List ℕ) (n : ℕ) (index : List ℕ) : Type 0 where
  pub lent : rows_lent words ≤ most_rows
  pub finding : Finding words n index

-- FRAMES along an array of places: down from a row as long as its entry names a place
abbrev pub frame_at : Store → (row place : ℕ) → Frame
frame_at x i k = frame (symbol_at x i) (take k (kids_at x i)) (drop (suc k) (kids_at x i))

abbrev pub path_by : (ℕ → List Frame) → Store → (row code : ℕ) → List Frame
path_by next x i zero = []
path_by next x i (suc k) = frame_at x i k ∷ next (get_or (kids_at x i) k 0)

unfoldable pub path_from : (fuel : ℕ) → (places : List ℕ) → Store → (row : ℕ) → List Frame
path_from zero ds x i = []
path_from (suc n) ds x i = path_by (path_from n ds x) x i (get_or ds i 0)

abbrev pub path_of : (places : List ℕ) → Store → (row : ℕ) → List Frame
path_of ds x i = path_from (suc i) ds x i

-- WORDS with a store's rows from n on written, unanswered; the words beyond stay
abbrev pub with_rows : (words : List ℕ) → (n : ℕ) → Store → List ℕ
with_rows ws n y = take (row_width * n) ws ++ row_words (drop n y.nodes) [] ++ drop (row_width * used y) ws

-- the first n rows and the size as they were, the rest open
pub record Kept (words : List ℕ) (n : ℕ) (after : List ℕ) : Type 0 where
  pub same_size : length after ≡ length words
  pub same_rows : take (row_width * n) after ≡ take (row_width * n) words

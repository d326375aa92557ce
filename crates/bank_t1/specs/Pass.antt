-- T1 in one pass over the used rows (§2.3): what the helpers of the pass say of a row, what holds before it begins, how it ends.
--
use Rattle.std.specs.Prelude.{◌≡◌, Bool, true, ◌&&◌, ◌||◌, not, cond, List, [], ◌∷◌, ℕ, suc, ◌*◌, ◌-◌, ◌≤◌, ◌<◌, ltb, eqb, length, get_or, take, drop, Option, Some, None}
use Rattle.model.specs.Limits.{row_width, most_rows, most_children}
use Rattle.model.specs.Base.{Below, all}
use Rattle.model.specs.Store.{kids_at, has_hole}
use Rattle.model.specs.Entry.{store_of, answers_in}
use Rattle.model.specs.Sound.{alphabet_fits, is_hole, node_fits, answer_fits, rows_fit}
use Rattle.bank.specs.Rows.{answer_in, places_in, node_in}
use Rattle.bank.specs.Index.{size_in, head_of, hole_of, Finding}
use Rattle.bank.specs.Bank.{place_code, Holed}

-- an index with no row in it yet: all heads empty, and no hole among row 0's children
pub record Cleared (index : List ℕ) : Type 0 where
  pub empty : (h : ℕ) → h < 2 * size_in index → get_or index (head_of (size_in index) h) 0 ≡ 0
  pub unmarked : get_or index (hole_of 0) 0 ≡ 0

-- whether a row has a hole, by its entry among the places of holes
abbrev pub hole_by : (index : List ℕ) → (row : ℕ) → Bool
hole_by xs i = eqb i 0 || not (eqb (get_or xs (hole_of i) 0) 0)

-- the child places that a count leaves are 0
abbrev pub unused_zero : (words : List ℕ) → (row count : ℕ) → Bool
unused_zero ws i n = all (λ (v : ℕ). eqb v 0) (drop n (places_in ws i))

-- children one after the other, from a place on: each an earlier row, at most one with a hole; `hole` is its place, plus one, so far
unfoldable pub kids_say : (ℕ → Bool) → (row place hole : ℕ) → (kids : List ℕ) → Option ℕ
kids_say p i k h [] = Some h
kids_say p i k h (j ∷ js) =
    cond (ltb j i) (cond (p j) (cond (eqb h 0) (kids_say p i (suc k) (suc k) js) None) (kids_say p i (suc k) h js)) None

-- the children of a row of the words, of which its symbol has `count`
abbrev pub kids_in : (words index : List ℕ) → (row count : ℕ) → Option ℕ
kids_in ws xs i n = cond (unused_zero ws i n) (kids_say (hole_by xs) i 0 0 (take n (places_in ws i))) None

-- a row but for its twins: as T1 has it, and then the place of its hole
abbrev pub row_says : (words counts : List ℕ) → (n row : ℕ) → Option ℕ
row_says ws ns n i =
    cond (node_fits (store_of ws ns n) i && answer_fits (store_of ws ns n) (answers_in n ws) i)
    (Some (place_code (has_hole (store_of ws ns n)) (kids_at (store_of ws ns n) i)))
    None

-- BEFORE ROW i of n: the rows are lent, counts are small, the earlier rows have earlier children and their holes are known
pub record Reached (words counts : List ℕ) (n : ℕ) (index : List ℕ) (i : ℕ) : Type 0 where
  pub some : 0 < i
  pub few : n ≤ most_rows
  pub room : row_width * n ≤ length words
  pub wide : (symbol : ℕ) → get_or counts symbol 0 ≤ most_children
  pub earlier : (j : ℕ) → j < i → Below j (kids_at (store_of words counts n) j)
  pub long : n ≤ size_in index
  pub holed : Holed (store_of words counts n) index i

-- BEFORE THE PASS: all of T1 but the rows beyond row 0
pub record Begun (words counts : List ℕ) (n : ℕ) : Type 0 where
  pub alphabet : alphabet_fits counts ≡ true
  pub some : 1 ≤ n
  pub few : n ≤ most_rows
  pub room : row_width * n ≤ length words
  pub hole : is_hole (node_in words 0) (answer_in words 0) ≡ true

-- T1 of the rows beyond row 0
abbrev pub rows_pass : (words counts : List ℕ) → (n : ℕ) → Bool
rows_pass ws ns n = rows_fit (store_of ws ns n) (answers_in n ws) 1 (n - 1)

-- the index and the holes of all rows
pub record Marked (words counts : List ℕ) (n : ℕ) (index : List ℕ) : Type 0 where
  pub finding : Finding words n index
  pub holed : Holed (store_of words counts n) index n

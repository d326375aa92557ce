-- How adding rows ends, and a row asked for by its places; then rows put behind the used ones, and frames filled, as the helpers have it:
-- no code reads the counts, so what they promise is of words and index alone, or of every alphabet.
use Rattle.std.specs.Prelude.{◌≡◌, cond, List, ℕ, suc, Option, Some, None, ◌+◌, ◌*◌, ◌≤◌, ◌<◌, length, get_or, take}
use Rattle.model.specs.Limits.{row_width}
use Rattle.model.specs.Store.{Store, padded, used, has_hole, Built, full, built}
use Rattle.model.specs.Facts.{RowAsked, Fits}
use Rattle.model.specs.Entry.{store_of}
use Rattle.bank.specs.Rows.{with_row, Within}
use Rattle.bank.specs.Index.{find_in, Seat, entered}
use Rattle.bank.specs.Bank.{place_code, Bank, path_of, with_rows, Kept}
use Rattle.bank_t1.specs.Pass.{hole_by}
use Rattle.bank_fill.specs.declared.add.Added.{Added}

-- HOW ADDING ROWS ENDS: rows ran out, with the first n rows as they were; or the store that was built, ready again
abbrev pub added_row : (row used : ℕ) → Option Added
added_row j n = Some (record { row = record { 0 = j }; used = n })

abbrev pub Came : (words counts : List ℕ) → (n : ℕ) → Built → Option Added → (words' index' : List ℕ) → Type 0
Came ws ns n full r ws' xs' = (r ≡ None) × Kept ws n ws'
Came ws ns n (built j y) r ws' xs' = (r ≡ added_row j (used y)) × (ws' ≡ with_rows ws n y) × Bank ws' ns (used y) xs'

-- the children among four places
abbrev pub kids_of : (counts : List ℕ) → (symbol : ℕ) → (places : List ℕ) → List ℕ
kids_of ns a ps = take (get_or ns a 0) ps

-- A ROW ASKED FOR by its four places: what model's RowAsked wants of its children, the unused places 0, and the place of its hole
pub record PlacesAsked (x : Store) (symbol : ℕ) (places : List ℕ) (hole : ℕ) : Type 0 where
  pub four : length places ≡ 4
  pub asked : RowAsked x symbol (kids_of x.counts symbol places)
  pub unused : places ≡ padded (kids_of x.counts symbol places)
  pub hole_place : hole ≡ place_code (has_hole x) (kids_of x.counts symbol places)

-- the place, plus one, of a child with a hole; 0 for a child without
abbrev pub hole_above : (index : List ℕ) → (kid place : ℕ) → ℕ
hole_above xs j k = cond (hole_by xs j) (suc k) 0

-- HOW PUTTING A ROW ENDS: found; no room; or written behind the used rows and entered with its mark
pub data Put (words : List ℕ) (n : ℕ) (index : List ℕ) (symbol : ℕ) (places : List ℕ) (hole : ℕ) : Option Added → (words' index' : List ℕ) → Type 0 where
  found : {j : ℕ} → j ≡ find_in words n symbol places → (j ≡ 0 → ⊥) → Put words n index symbol places hole (added_row j n) words index
  no_room : find_in words n symbol places ≡ 0 → length words < row_width * n + row_width → Put words n index symbol places hole None words index
  written : {words' index' : List ℕ} {slot : ℕ} → find_in words n symbol places ≡ 0 → Within words n → Seat index symbol places slot → get_or index slot 0 ≡ 0 →
      words' ≡ with_row words n symbol places → index' ≡ entered index slot n hole → Put words n index symbol places hole (added_row n (n + 1)) words' index'

-- some counts under which a condition holds
pub record Under (condition : (counts : List ℕ) → Type 0) : Type 0 where
  pub counts : List ℕ
  pub holds : condition counts

-- FRAMES ASKED to be filled with a row: at least one from a row down, each around a child
pub record FramesAsked (words counts : List ℕ) (n : ℕ) (index places : List ℕ) (row with : ℕ) : Type 0 where
  pub bank : Bank words counts n index
  pub places_long : n ≤ length places
  pub row_used : row < n
  pub with_used : with < n
  pub named : get_or places row 0 ≡ 0 → ⊥
  pub fits : Fits (store_of words counts n) (path_of places (store_of words counts n) row)

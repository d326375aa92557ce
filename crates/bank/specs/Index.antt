-- The hash index over the used rows, in one slice: three numbers a row, two links and the place of its child with the hole; behind them the
-- heads of twice as many buckets. The rows of a bucket are a digital search tree: a walk starts at the head and goes, at each row, along one of its
-- two links, by the digits of a key in base 2. Links lead to later rows.
use Rattle.std.specs.Prelude.{◌≡◌, List, [], ◌∷◌, ℕ, ◌+◌, ◌*◌, ◌/◌, ◌%◌, ◌≤◌, ◌<◌, length, get_or, set, drop}
use Rattle.model.specs.Limits.{row_width, most_rows}
use Rattle.model.specs.Store.{find_from}
use Rattle.model.specs.Entry.{nodes_in}
use Rattle.bank.specs.Rows.{symbol_in, places_in}

-- SLOTS: the rows that an index has room for, each with three numbers and two buckets
abbrev pub index_width : ℕ
index_width = 5

abbrev pub size_in : (index : List ℕ) → ℕ
size_in xs = length xs / index_width

abbrev pub link_of : (row bit : ℕ) → ℕ
link_of i b = 3 * i + b

abbrev pub hole_of : (row : ℕ) → ℕ
hole_of i = 3 * i + 2

abbrev pub head_of : (size bucket : ℕ) → ℕ
head_of z h = 3 * z + h

-- the most buckets that there may be
abbrev pub most_buckets : ℕ
most_buckets = 2 * most_rows

-- WHERE A NODE BELONGS: its bucket, and its key, in which the places are digits of 14 bits, the first the lowest, and the symbol stands above them
unfoldable pub bucket_for : (buckets symbol : ℕ) → (places : List ℕ) → ℕ
bucket_for z a ps =
    (a * 499994353 + get_or ps 0 0 * 314606869 + get_or ps 1 0 * 217645199 + get_or ps 2 0 * 443834137 + get_or ps 3 0 * 125640277) % 2147483648 * z / 2147483648

unfoldable pub key_for : (symbol : ℕ) → (places : List ℕ) → ℕ
key_for a ps =
    get_or ps 0 0 % most_rows + most_rows * (get_or ps 1 0 % most_rows + most_rows * (get_or ps 2 0 % most_rows + most_rows * (get_or ps 3 0 % most_rows + most_rows * (a % 256))))

-- the slot at which the walk of a node starts
abbrev pub head_for : (size symbol : ℕ) → (places : List ℕ) → ℕ
head_for z a ps = head_of z (bucket_for (2 * z) a ps)

-- A WALK from a slot along a key leads to a slot
pub data Leads (index : List ℕ) (end : ℕ) : (slot key : ℕ) → Type 0 where
  here : {slot key : ℕ} → slot ≡ end → Leads index end slot key
  on : {slot key : ℕ} → (get_or index slot 0 ≡ 0 → ⊥) → Leads index end (link_of (get_or index slot 0) (key % 2)) (key / 2) → Leads index end slot key

-- and meets a row there
pub record Met (index : List ℕ) (slot key row : ℕ) : Type 0 where
  pub end : ℕ
  pub leads : Leads index end slot key
  pub holds : get_or index end 0 ≡ row

-- the slots that walks lead to: heads, and links of the rows below n
pub data Slot (size n slot : ℕ) : Type 0 where
  head : (h : ℕ) → h < 2 * size → slot ≡ head_of size h → Slot size n slot
  link : (i b : ℕ) → 0 < i → i < n → b < 2 → slot ≡ link_of i b → Slot size n slot

-- rows 1 to n - 1 are in the trees of the buckets, each in one slot, and met by the walk of its own node
pub record Treed (size : ℕ) (words : List ℕ) (n : ℕ) (index : List ℕ) : Type 0 where
  pub heads : (h : ℕ) → h < 2 * size → get_or index (head_of size h) 0 < n
  pub links : (i b : ℕ) → 0 < i → i < n → b < 2 → get_or index (link_of i b) 0 < n
  pub later : (i b : ℕ) → 0 < i → i < n → b < 2 → (get_or index (link_of i b) 0 ≡ 0 → ⊥) → i < get_or index (link_of i b) 0
  pub single : (s t : ℕ) → Slot size n s → Slot size n t → (get_or index s 0 ≡ 0 → ⊥) → get_or index s 0 ≡ get_or index t 0 → s ≡ t
  pub met : (i : ℕ) → 0 < i → i < n → Met index (head_for size (symbol_in words i) (places_in words i)) (key_for (symbol_in words i) (places_in words i)) i

abbrev pub Indexed : (words : List ℕ) → (n : ℕ) → (index : List ℕ) → Type 0
Indexed ws n xs = Treed (size_in xs) ws n xs

-- A WAY from the head of a bucket to a slot, by the digits taken, the last first
pub data Way (size : ℕ) (index : List ℕ) (bucket : ℕ) : (digits : List ℕ) → (slot : ℕ) → Type 0 where
  start : {slot : ℕ} → bucket < 2 * size → slot ≡ head_of size bucket → Way size index bucket [] slot
  step : {digits : List ℕ} {slot : ℕ} (digit from : ℕ) → digit < 2 → Way size index bucket digits from → (get_or index from 0 ≡ 0 → ⊥) →
      slot ≡ link_of (get_or index from 0) digit → Way size index bucket (digit ∷ digits) slot

-- NO WALK IS LONG: a row is at most 62 steps below the head of its bucket, so a search compares at most 63 rows
abbrev pub ShortWalks : (index : List ℕ) → Type 0
ShortWalks xs =
    (bucket : ℕ) (digits : List ℕ) (slot : ℕ) → Way (size_in xs) xs bucket digits slot → (get_or xs slot 0 ≡ 0 → ⊥) → length digits ≤ 62

-- no two of the rows 1 to n - 1 are equal in symbol and places
abbrev pub NoTwins : (words : List ℕ) → (n : ℕ) → Type 0
NoTwins ws n = (i j : ℕ) → 0 < i → i < j → j < n → symbol_in ws i ≡ symbol_in ws j → places_in ws i ≡ places_in ws j → ⊥

-- room in an index for all rows lent
pub record Roomy (words index : List ℕ) : Type 0 where
  pub some : 0 < size_in index
  pub few : size_in index ≤ most_rows
  pub long : length words ≤ row_width * size_in index

-- an index that finds: sizes, trees, no twins
pub record Finding (words : List ℕ) (n : ℕ) (index : List ℕ) : Type 0 where
  pub some : 1 ≤ n
  pub few : n ≤ most_rows
  pub room : row_width * n ≤ length words
  pub roomy : Roomy words index
  pub indexed : Indexed words n index
  pub no_twins : NoTwins words n

-- the row of a symbol and four places among the first n rows; 0 for none
abbrev pub find_in : (words : List ℕ) → (n symbol : ℕ) → (places : List ℕ) → ℕ
find_in ws n a ps = find_from a ps 1 (drop 1 (nodes_in n ws))

-- THE SLOT OF A NODE: the walk of the node leads to it
pub record Seat (index : List ℕ) (symbol : ℕ) (places : List ℕ) (slot : ℕ) : Type 0 where
  pub within : slot < length index
  pub leads : Leads index slot (head_for (size_in index) symbol places) (key_for symbol places)

-- A WALK that has passed row i stands before its link: it is part of the walk of what is asked for, and meets every row that has it
pub record Walk (words : List ℕ) (n : ℕ) (index : List ℕ) (symbol : ℕ) (places : List ℕ) (i key : ℕ) : Type 0 where
  pub some : 0 < i
  pub within : i < n
  pub back : (e : ℕ) → Leads index e (link_of i (key % 2)) (key / 2) → Leads index e (head_for (size_in index) symbol places) (key_for symbol places)
  pub left : (j : ℕ) → 0 < j → j < n → symbol_in words j ≡ symbol → places_in words j ≡ places → Met index (link_of i (key % 2)) (key / 2) j

-- a row entered at a slot: no rows below it yet, and the place of its hole beside its links
abbrev pub entered : (index : List ℕ) → (slot row hole : ℕ) → List ℕ
entered xs s i v = set (set (set (set xs (link_of i 0) 0) (link_of i 1) 0) (hole_of i) v) s i

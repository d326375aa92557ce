-- What the probes return and leave: T1 behind the test of the size, and where it holds what model defines.
use Rattle.std.specs.Prelude.{◌≡◌, Bool, true, false, ◌&&◌, cond, List, [], ℕ, ◌≤◌, ◌<◌, ltb, eqb, length, get_or, Option, Some, None}
use Rattle.model.specs.Store.{Store, Built, full, built, used, kids_at, has_hole, is_context, fill, frames_of}
use Rattle.model.specs.Table.{tables}
use Rattle.model.specs.Sound.{is_t1}
use Rattle.model.specs.Terms.{record_fault, store_from, known_row}
use Rattle.model.specs.Entry.{store_of, answers_in, size_fits}
use Rattle.bank.specs.Index.{find_in}
use Rattle.bank.specs.Bank.{place_code, Kept, with_rows}
use Rattle.bank_fill.specs.declared.add.Added.{Added}
use Rattle.probe.specs.declared.Reply.{Reply}

-- 18's test of the size, then T1
abbrev pub is_passed : (words counts : List ℕ) → (used : ℕ) → Bool
is_passed ws ns n = size_fits ws && is_t1 (tables (store_of ws ns n) (answers_in n ws) [] [] [] 0 0 false)

-- WHERE T1 HOLDS, the places of holes, if there is room for all
abbrev pub Marks : (words counts : List ℕ) → (used : ℕ) → (passed : Bool) → (out : List ℕ) → Type 0
Marks ws ns n b out =
    b ≡ true → n ≤ length out → (i : ℕ) → i < n → get_or out i 0 ≡ place_code (has_hole (store_of ws ns n)) (kids_at (store_of ws ns n) i)

-- WHAT IS SAID of rows added: 0 rows ran out, 1 the row and the rows used afterwards, 2 refused
abbrev pub said : (code row used : ℕ) → Reply
said k i n = record { code = k; row = i; used = n }

abbrev pub said_of : Option Added → Reply
said_of None = said 0 0 0
said_of (Some a) = said 1 a.row.0 a.used

-- and what is left in the words
abbrev pub Said : (words : List ℕ) → (n : ℕ) → Built → Reply → (after : List ℕ) → Type 0
Said ws n full r ws' = (r ≡ said 0 0 0) × Kept ws n ws'
Said ws n (built j y) r ws' = (r ≡ said 1 j (used y)) × (ws' ≡ with_rows ws n y)

abbrev pub SaidIf : (taken : Bool) → (words : List ℕ) → (n : ℕ) → Built → Reply → (after : List ℕ) → Type 0
SaidIf true ws n b r ws' = Said ws n b r ws'
SaidIf false ws n b r ws' = (r ≡ said 2 0 0) × (ws' ≡ ws)

-- THE PROBES, and what their helpers leave of tables that are ready
abbrev pub found : (words counts : List ℕ) → (used symbol : ℕ) → (places : List ℕ) → ℕ
found ws ns n a ps = cond (is_passed ws ns n) (find_in ws n a ps) 0

abbrev pub is_fillable : Store → (context row : ℕ) → Bool
is_fillable x c i = is_context x c && ltb i (used x)

abbrev pub FilledReady : (words counts : List ℕ) → (used context row : ℕ) → Reply → (after : List ℕ) → Type 0
FilledReady ws ns n c i = SaidIf (is_fillable (store_of ws ns n) c i) ws n (fill (store_of ws ns n) (frames_of (store_of ws ns n) c) i)

abbrev pub Filled : (words counts : List ℕ) → (used context row : ℕ) → Reply → (after : List ℕ) → Type 0
Filled ws ns n c i =
    SaidIf (is_passed ws ns n && is_fillable (store_of ws ns n) c i) ws n (fill (store_of ws ns n) (frames_of (store_of ws ns n) c) i)

abbrev pub is_listed : (counts symbols : List ℕ) → Bool
is_listed ns xs = eqb (record_fault ns xs) 0

abbrev pub StoredReady : (words counts : List ℕ) → (used : ℕ) → (symbols : List ℕ) → Reply → (after : List ℕ) → Type 0
StoredReady ws ns n xs = SaidIf (is_listed ns xs) ws n (store_from (store_of ws ns n) xs [])

abbrev pub Stored : (words counts : List ℕ) → (used : ℕ) → (symbols : List ℕ) → Reply → (after : List ℕ) → Type 0
Stored ws ns n xs = SaidIf (is_passed ws ns n && is_listed ns xs) ws n (store_from (store_of ws ns n) xs [])

abbrev pub known : (words counts : List ℕ) → (used : ℕ) → (symbols : List ℕ) → ℕ
known ws ns n xs = cond (is_passed ws ns n && is_listed ns xs) (known_row (store_of ws ns n) xs) 0

-- The children of a row in the lent words: as many as its symbol has, each an earlier row, and each the word at its place.
-- By the rules of a good store, of which the words hold the rows whole; a row that is found is a used one.
use mathlib.Core.Path.{◌≡◌, refl, sym, ap, ◌∙◌}
use mathlib.Core.List.{List}
use Prim.Native.Nat.{ℕ, zero, suc, ◌≤◌, ◌<◌}
use native.Mathlib.Omega.{arith}
use lib.ListN.{length, get_or, take}
use lib.Seq.{get_or-take, length-take-le}
use Rattle.model.specs.Limits.{most_rows}
use Rattle.model.specs.Base.{Below, none_below, one_below}
use Rattle.model.specs.Store.{used, symbol_at, kids_at}
use Rattle.model.specs.Entry.{store_of}
use Rattle.model.proofs.Laws.Fold.{earlier}
use Rattle.model.proofs.Laws.Tests.{by_equal}
use Rattle.bank.specs.Rows.{symbol_in, kid_in, places_in, Within}
use Rattle.bank.specs.Index.{Finding, find_in}
use Rattle.bank.specs.Bank.{Stored, Bank}
use Rattle.bank.proofs.Laws.Words.{used_of, symbol_in_law, kids_in_law}
use Rattle.bank.proofs.Laws.Finding.{found_in}

pub place_at : (ws : List ℕ) (i k : ℕ) → k < 4 → get_or (places_in ws i) k 0 ≡ kid_in ws i k
place_at ws i zero h = refl
place_at ws i (suc zero) h = refl
place_at ws i (suc (suc zero)) h = refl
place_at ws i (suc (suc (suc zero))) h = refl
place_at ws i (suc (suc (suc (suc k)))) h = absurd (omega arith)

-- a member of a list below a bound
pub below_at : {n : ℕ} {ks : List ℕ} → Below n ks → (k : ℕ) → k < length ks → get_or ks k 0 < n
below_at none_below k h = absurd (omega arith)
below_at (one_below l b) zero h = l
below_at (one_below l b) (suc k) h = below_at b k (omega arith)

-- BY THE INDEX: what is found is a used row, or row 0
pub find_used : {ws : List ℕ} {n : ℕ} {ix : List ℕ} → Finding ws n ix → (a : ℕ) (ps : List ℕ) → find_in ws n a ps < n
find_used {ws = ws} {n = n} f a ps = by_equal (find_in ws n a ps) 0 (λ e. omega (arith, f.some)) (λ e. (found_in ws n f.room a ps e).0)

module _ {ws ns : List ℕ} {n : ℕ} {ix : List ℕ} (r : Bank ws ns n ix) where
  pub few_rows : used (store_of ws ns n) ≤ most_rows
  few_rows = omega (arith, used_of ws ns n, r.finding.few)

  pub bank_stored : Stored ws ns n
  bank_stored = record { good = r.good; room = r.finding.room }

-- A ROW THAT CAN BE READ
module _ {ws ns : List ℕ} {n : ℕ} (r : Stored ws ns n) (i : ℕ) (h : i < n) where
  pub row_used : i < used (store_of ws ns n)
  row_used = omega (arith, used_of ws ns n)

  pub row_within : Within ws i
  row_within = omega (arith, r.room)

  pub row_symbol : symbol_in ws i ≡ symbol_at (store_of ws ns n) i
  row_symbol = sym (symbol_in_law ws ns n i h)

  -- row 0 too, which has no children
  pub count_kids : get_or ns (symbol_in ws i) 0 ≡ length (kids_at (store_of ws ns n) i)
  count_kids = sym (ap length (kids_in_law ws ns n i h r.room) ∙ length-take-le (get_or ns (symbol_in ws i) 0) (places_in ws i) (r.good.wide (symbol_in ws i)))

  -- as many of a row's places as it has children
  pub kids_counted : kids_at (store_of ws ns n) i ≡ take (length (kids_at (store_of ws ns n) i)) (places_in ws i)
  kids_counted = kids_in_law ws ns n i h r.room ∙ ap (λ (k : ℕ). take k (places_in ws i)) count_kids

  pub row_beyond : (k : ℕ) → k < length (kids_at (store_of ws ns n) i) → 0 < i
  row_beyond k l = omega (arith, below_at (earlier (store_of ws ns n) r.good i row_used) k l)

  module _ (positive : 0 < i) where
    pub row_known : symbol_in ws i < length ns
    row_known = omega (arith, (r.good.row i positive row_used).known, row_symbol)

    pub row_few : length (kids_at (store_of ws ns n) i) ≤ 4
    row_few = omega (arith, count_kids, r.good.wide (symbol_in ws i))

    pub row_early : (k : ℕ) → k < length (kids_at (store_of ws ns n) i) → get_or (kids_at (store_of ws ns n) i) k 0 < i
    row_early k l = below_at (r.good.row i positive row_used).below k l

    pub row_kid : (k : ℕ) → k < length (kids_at (store_of ws ns n) i) → kid_in ws i k ≡ get_or (kids_at (store_of ws ns n) i) k 0
    row_kid k l =
        let f = row_few in
        let c = count_kids in
        sym (ap (λ (ks : List ℕ). get_or ks k 0) (kids_in_law ws ns n i h r.room) ∙ get_or-take (get_or ns (symbol_in ws i) 0) (places_in ws i) k 0 (omega arith) ∙ place_at ws i k (omega arith))

    -- the word itself
    pub word_early : (k : ℕ) → k < length (kids_at (store_of ws ns n) i) → kid_in ws i k < i
    word_early k l = omega (arith, row_kid k l, row_early k l)

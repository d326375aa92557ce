-- A row with one child exchanged, looked for by its places.
-- By the bank's laws of a row's children, and the rules of a good store at a row beyond row 0.
use mathlib.Core.Path.{◌≡◌, sym, ap, ◌∙◌}
use mathlib.Core.Bool.{Bool, cond}
use mathlib.Core.List.{List, ◌++◌}
use Prim.Native.Nat.{ℕ, ◌-◌, ◌<◌}
use native.Mathlib.Omega.{arith}
use borrow.Author.Tests.{ne_eqb}
use lib.ListN.{length, set, replicate, length-set}
use lib.Seq.{set_split, set-append_left}
use Rattle.model.specs.Store.{Store, Frame, padded, kids_at, filled_kids, find_places, find_row, next_row}
use Rattle.model.specs.Entry.{store_of}
use Rattle.bank.specs.Rows.{symbol_in, places_in}
use Rattle.bank.specs.Index.{find_in}
use Rattle.bank.specs.Bank.{Stored, Bank, frame_at}
use Rattle.bank.proofs.Laws.Words.{symbol_in_law, places_in_law}
use Rattle.bank.proofs.Laws.Children.{find_used, bank_stored, row_used, row_few}

-- nothing is above what is not stored
pub next_none : (x : Store) (f : Frame) (j : ℕ) → j ≡ 0 → next_row x f j ≡ 0
next_none x f j z = ap (next_row x f) z

-- a child at a place that the row has
module _ {ws ns : List ℕ} {n : ℕ} (r : Stored ws ns n) (i : ℕ) (l : i < n) (p : 0 < i) (k : ℕ) (h : k < length (kids_at (store_of ws ns n) i)) where
  pub place_four : k < 4
  place_four = omega (arith, row_few r i l p)

  -- replaced
  places_set : (j : ℕ) → set (places_in ws i) k j ≡ padded (filled_kids (frame_at (store_of ws ns n) i k) j)
  places_set j =
      ap (λ (ps : List ℕ). set ps k j) (sym (places_in_law ws ns n i l r.room) ∙ (r.good.row i p (row_used r i l)).places) ∙
      set-append_left (kids_at (store_of ws ns n) i) (replicate (4 - length (kids_at (store_of ws ns n) i)) 0) k j h ∙
      ap (λ (c : ℕ). set (kids_at (store_of ws ns n) i) k j ++ replicate (4 - c) 0) (sym (length-set (kids_at (store_of ws ns n) i) k j)) ∙
      ap padded (set_split (kids_at (store_of ws ns n) i) k j h)

  next_found : (a : ℕ) (ps : List ℕ) → a ≡ symbol_in ws i → ps ≡ places_in ws i → (j : ℕ) → (j ≡ 0 → ⊥) →
      find_in ws n a (set ps k j) ≡ next_row (store_of ws ns n) (frame_at (store_of ws ns n) i k) j
  next_found a ps e q j z =
      (λ t. find_places (store_of ws ns n) ((e ∙ sym (symbol_in_law ws ns n i l)) t) ((ap (λ (v : List ℕ). set v k j) q ∙ places_set j) t)) ∙
      ap (λ (b : Bool). cond b 0 (find_row (store_of ws ns n) (frame_at (store_of ws ns n) i k).symbol (filled_kids (frame_at (store_of ws ns n) i k) j))) (sym (ne_eqb j 0 z))

pub child_set : {ws ns : List ℕ} {n : ℕ} {ix : List ℕ} → Bank ws ns n ix → (i : ℕ) → i < n → 0 < i → (k : ℕ) → k < length (kids_at (store_of ws ns n) i) →
    (a : ℕ) (ps : List ℕ) → a ≡ symbol_in ws i → ps ≡ places_in ws i → (j : ℕ) → (j ≡ 0 → ⊥) → (row : ℕ) → row ≡ find_in ws n a (set ps k j) →
    (row ≡ next_row (store_of ws ns n) (frame_at (store_of ws ns n) i k) j) × (row < n)
child_set r i l p k h a ps e q j z row f = (f ∙ next_found (bank_stored r) i l p k h a ps e q j z, omega (arith, find_used r.finding a (set ps k j)))

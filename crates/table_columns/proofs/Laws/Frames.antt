-- A context in a store that is ready, one step down: its frame around the hole child, then the frames of that child.
-- The mark of a row names the first child with a hole, which is where the way down to the hole goes.
use mathlib.Core.Path.{◌≡◌, refl, sym, ap, ◌∙◌}
use mathlib.Core.Bool.{Bool, true, not, cond, true≢false}
use mathlib.Core.List.{List, [], ◌∷◌}
use Prim.Native.Nat.{ℕ, ◌-◌, ◌<◌}
use native.Mathlib.Omega.{arith}
use lib.Dec.{ltb, eqb}
use borrow.Author.Tests.{ltb-true, eq-eqb, ne_eqb}
use lib.ListN.{get_or, set}
use Rattle.model.specs.Base.{Below, none_below, one_below}
use Rattle.model.specs.Store.{Store, split_at, Spot, Frame, down_by, down_from, used, symbol_at, kids_at, has_hole, is_context, filled_kids, find_row, next_row, filled_row, frames_of}
use Rattle.model.specs.Facts.{Good}
use Rattle.model.specs.Entry.{store_of}
use Rattle.model.proofs.Laws.Tests.{both_true, or_right}
use Rattle.model.proofs.Laws.Fold.{earlier}
use Rattle.bank.specs.Rows.{symbol_in, places_in}
use Rattle.bank.specs.Index.{find_in, hole_of}
use Rattle.bank.specs.Bank.{Bank, frame_at}
use Rattle.bank.proofs.Laws.Words.{used_of}
use Rattle.bank.proofs.Laws.Down.{StepsTo, step_some}
use Rattle.bank.proofs.Laws.Exchanged.{child_set}
use Rattle.bank_t1.proofs.Laws.T1.{hole_ready}
use Rattle.table_columns.specs.Columns.{hole_kid}

pub frames_none : (x : Store) → Good x → frames_of x 0 ≡ []
unfolding down_from split_at
frames_none x g = go (kids_at x 0) (earlier x g 0 (omega (arith, g.start)))
  where
    go : (ks : List ℕ) → Below 0 ks → (down_by (down_from (has_hole x) 0 x) 0 (symbol_at x 0) (split_at (has_hole x) ks)).around ≡ []
    go [] none_below = refl
    go (k ∷ ks) (one_below l b) = absurd (omega arith)

-- A CONTEXT BEYOND ROW 0, over a store that is ready
module _ {ws ns : List ℕ} {n : ℕ} {ix : List ℕ} (r : Bank ws ns n ix) (i : ℕ) (l : i < n) (z : get_or ix (hole_of i) 0 ≡ 0 → ⊥) where
  abbrev x : Store
  x = store_of ws ns n

  abbrev place : ℕ
  place = get_or ix (hole_of i) 0 - 1

  low : i < used (store_of ws ns n)
  low = omega (arith, used_of ws ns n)

  step : StepsTo (has_hole (store_of ws ns n)) (store_of ws ns n) r.good i (get_or ix (hole_of i) 0 - 1)
  step = step_some (has_hole x) x r.good i place low (sym (r.holed i l) ∙ omega arith)

  pub context_marked : has_hole (store_of ws ns n) i ≡ true
  context_marked = sym (hole_ready r i l) ∙ or_right (eqb i 0) (ap not (ne_eqb (get_or ix (hole_of i) 0) 0 z))

  pub frames_step : frames_of (store_of ws ns n) i ≡ frame_at (store_of ws ns n) i (get_or ix (hole_of i) 0 - 1) ∷ frames_of (store_of ws ns n) (hole_kid (store_of ws ns n) ix i)
  frames_step = ap (λ (s : Spot). s.around) step.is_under

  -- the hole child: an earlier context
  pub kid_early : hole_kid (store_of ws ns n) ix i < i
  kid_early = step.before

  pub kid_hole : has_hole (store_of ws ns n) (hole_kid (store_of ws ns n) ix i) ≡ true
  kid_hole = step.has

  -- filled, from the hole child filled
  pub filled_step : (j : ℕ) → filled_row (store_of ws ns n) (frames_of (store_of ws ns n) i) j ≡
      next_row (store_of ws ns n) (frame_at (store_of ws ns n) i (get_or ix (hole_of i) 0 - 1)) (filled_row (store_of ws ns n) (frames_of (store_of ws ns n) (hole_kid (store_of ws ns n) ix i)) j)
  unfolding filled_row
  filled_step j = ap (λ (fs : List Frame). filled_row x fs j) frames_step

  -- THE ROW with another one at the hole
  pub next_none : (j : ℕ) → j ≡ 0 → next_row (store_of ws ns n) (frame_at (store_of ws ns n) i (get_or ix (hole_of i) 0 - 1)) j ≡ 0
  next_none j e = ap (λ (b : Bool). cond b 0 (find_row x (symbol_at x i) (filled_kids (frame_at x i place) j))) (eq-eqb j 0 e)

  -- looked for by its places
  pub next_row_law : (j : ℕ) → j < n → (j ≡ 0 → ⊥) → (a : ℕ) (ps : List ℕ) → a ≡ symbol_in ws i → ps ≡ places_in ws i →
      (f : ℕ) → f ≡ find_in ws n a (set ps (get_or ix (hole_of i) 0 - 1) j) →
      (f ≡ next_row (store_of ws ns n) (frame_at (store_of ws ns n) i (get_or ix (hole_of i) 0 - 1)) j) × (f < n)
  next_row_law j v some a ps p s f e = child_set r i l (omega (arith, step.before)) place step.within a ps p s j some f e

-- A CONTEXT is used and has a hole; row 0 is one, and the others are marked
module _ (x : Store) (i : ℕ) (c : is_context x i ≡ true) where
  pub context_within : i < used x
  context_within = ltb-true i (used x) (both_true (ltb i (used x)) (has_hole x i) c).0

  pub context_hole : has_hole x i ≡ true
  context_hole = (both_true (ltb i (used x)) (has_hole x i) c).1

pub hole_marked : {ws ns : List ℕ} {n : ℕ} {ix : List ℕ} → Bank ws ns n ix → (i : ℕ) → i < n → (i ≡ 0 → ⊥) → has_hole (store_of ws ns n) i ≡ true → get_or ix (hole_of i) 0 ≡ 0 → ⊥
hole_marked {ix = ix} r i l z h e = true≢false (sym h ∙ sym (hole_ready r i l) ∙ rw (ne_eqb i 0 z, eq-eqb (get_or ix (hole_of i) 0) 0 e) refl)

-- The child with the hole of a used row that has one, by the mark in the index: a child of the row, and an earlier row.
use mathlib.Core.Path.{◌≡◌, sym, ap, ◌∙◌}
use mathlib.Core.List.{List}
use Prim.Native.Nat.{ℕ, ◌-◌, ◌<◌}
use native.Mathlib.Omega.{arith}
use lib.ListN.{get_or}
use Rattle.model.specs.Store.{has_hole, kids_at}
use Rattle.model.specs.Entry.{store_of}
use Rattle.bank.specs.Rows.{kid_in}
use Rattle.bank.specs.Index.{hole_of}
use Rattle.bank.specs.Bank.{Bank}
use Rattle.bank.proofs.Laws.Words.{used_of}
use Rattle.bank.proofs.Laws.Children.{bank_stored, row_few, row_kid}
use Rattle.bank.proofs.Laws.Down.{StepsTo, step_some}

module _ {ws ns : List ℕ} {n : ℕ} {ix : List ℕ} (r : Bank ws ns n ix) (i : ℕ) (l : i < n) (z : get_or ix (hole_of i) 0 ≡ 0 → ⊥) where
  pub hole_step : StepsTo (has_hole (store_of ws ns n)) (store_of ws ns n) r.good i (get_or ix (hole_of i) 0 - 1)
  hole_step = step_some (has_hole (store_of ws ns n)) (store_of ws ns n) r.good i (get_or ix (hole_of i) 0 - 1) (omega (arith, used_of ws ns n)) (sym (r.holed i l) ∙ omega arith)

  pub hole_four : get_or ix (hole_of i) 0 - 1 < 4
  hole_four = omega (arith, hole_step.within, row_few (bank_stored r) i l (omega (arith, hole_step.before)))

  -- the word at its place
  pub hole_read : (k : ℕ) → k ≡ get_or ix (hole_of i) 0 - 1 →
      (kid_in ws i k ≡ get_or (kids_at (store_of ws ns n) i) (get_or ix (hole_of i) 0 - 1) 0) × (kid_in ws i k < i)
  hole_read k e =
      let b : 0 < i = omega (arith, hole_step.before) in
      let read = row_kid (bank_stored r) i l b (get_or ix (hole_of i) 0 - 1) hole_step.within in
      let at = ap (kid_in ws i) e ∙ read in
      (at, omega (arith, at, hole_step.before))

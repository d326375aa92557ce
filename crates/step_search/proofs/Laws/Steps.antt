-- A record's frames around its spot, along the array of all rows' places down: the frames that model's way down has, which fit.
-- By the step down of bank, whose places the array holds.
use mathlib.Core.Path.{◌≡◌, sym, subst}
use mathlib.Core.Bool.{Bool}
use mathlib.Core.List.{List}
use Prim.Native.Nat.{ℕ, suc, ◌≤◌, ◌<◌}
use native.Mathlib.Omega.{arith}
use Rattle.model.specs.Store.{Store, Frame, used, down}
use Rattle.model.specs.Facts.{Good, IsRecord, Fits}
use Rattle.model.proofs.Laws.Down.{fits_record}
use Rattle.bank.specs.Bank.{path_of}
use Rattle.bank.proofs.Laws.Down.{path_down}
use Rattle.step_search.specs.Spots.{DescendedBy}

-- as `fill` of bank_fill needs them
module _ {p : ℕ → Bool} {reps : List ℕ} {x : Store} {ds at ex : List ℕ} {n : ℕ} (g : Good x) (d : DescendedBy p reps x ds at ex n) (l : n ≤ used x) (h : ℕ) (u : h < n) where
  pub path_around : path_of ds x h ≡ (down p x h).around
  path_around = path_down p x g ds n l d.down_is h u

  pub path_fits : IsRecord x h → Fits x (path_of ds x h)
  path_fits i = subst (λ (fs : List Frame). Fits x fs) (sym path_around) (fits_record p x g (suc h) h i.within (omega arith) i.clear)

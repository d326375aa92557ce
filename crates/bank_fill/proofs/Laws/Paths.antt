-- The frames along an array of places, one step down: the frame of the row, then those of the child that its entry names.
-- A frame that fits is around a child, which is an earlier row, so fuel past the row's number makes no difference.
use mathlib.Core.Path.{◌≡◌, refl, ap, subst, ◌∙◌}
use mathlib.Core.List.{List, [], ◌∷◌}
use Prim.Native.Nat.{ℕ, zero, suc, ◌-◌, ◌<◌}
use native.Mathlib.Omega.{arith}
use lib.ListN.{get_or}
use Rattle.model.specs.Store.{Store, Frame, used, kids_at}
use Rattle.model.specs.Facts.{Good, FrameFits, Fits, fits_cons}
use Rattle.model.proofs.Laws.Fold.{earlier}
use Rattle.bank.specs.Bank.{frame_at, path_by, path_from, path_of}
use Rattle.bank.proofs.Laws.Children.{below_at}
use Rattle.bank_fill.proofs.Laws.Above.{frame_place}

pub fits_head : {x : Store} {f : Frame} {fs : List Frame} → Fits x (f ∷ fs) → FrameFits x f
fits_head (fits_cons q qs) = q

pub fits_tail : {x : Store} {f : Frame} {fs : List Frame} → Fits x (f ∷ fs) → Fits x fs
fits_tail (fits_cons q qs) = qs

-- ONE STEP DOWN
module _ (ds : List ℕ) (x : Store) (g : Good x) where
  pub kid_before : (i k : ℕ) → i < used x → FrameFits x (frame_at x i k) → get_or (kids_at x i) k 0 < i
  kid_before i k u q = below_at (earlier x g i u) k (frame_place x g i k u q)

  path_fuel : (n m i : ℕ) → i < used x → i < n → i < m → Fits x (path_from n ds x i) → path_from n ds x i ≡ path_from m ds x i
  unfolding path_from
  path_fuel zero m i u a b f = absurd (omega arith)
  path_fuel (suc n) zero i u a b f = absurd (omega arith)
  path_fuel (suc n) (suc m) i u a b f = go (λ k l h. path_fuel n m k (omega arith) (omega arith) (omega arith) h) (get_or ds i 0) f
    where
      go : ((k : ℕ) → k < i → Fits x (path_from n ds x k) → path_from n ds x k ≡ path_from m ds x k) → (c : ℕ) → Fits x (path_by (path_from n ds x) x i c) →
          path_by (path_from n ds x) x i c ≡ path_by (path_from m ds x) x i c
      go ih zero h = refl
      go ih (suc k) h = ap (λ (fs : List Frame). frame_at x i k ∷ fs) (ih (get_or (kids_at x i) k 0) (kid_before i k u (fits_head h)) (fits_tail h))

  pub path_none : (i : ℕ) → get_or ds i 0 ≡ 0 → path_of ds x i ≡ []
  unfolding path_from
  path_none i e = ap (path_by (path_from i ds x) x i) e

  pub path_step : (i : ℕ) → i < used x → (get_or ds i 0 ≡ 0 → ⊥) → Fits x (path_of ds x i) →
      path_of ds x i ≡ frame_at x i (get_or ds i 0 - 1) ∷ path_of ds x (get_or (kids_at x i) (get_or ds i 0 - 1) 0)
  unfolding path_from
  path_step i u z f =
      let e : get_or ds i 0 ≡ suc (get_or ds i 0 - 1) = omega arith in
      let s : path_from (suc i) ds x i ≡ frame_at x i (get_or ds i 0 - 1) ∷ path_from i ds x (get_or (kids_at x i) (get_or ds i 0 - 1) 0) = ap (path_by (path_from i ds x) x i) e in
      let h = subst (λ (fs : List Frame). Fits x fs) s f in
      let k = kid_before i (get_or ds i 0 - 1) u (fits_head h) in
      s ∙ ap (λ (fs : List Frame). frame_at x i (get_or ds i 0 - 1) ∷ fs) (path_fuel i (suc (get_or (kids_at x i) (get_or ds i 0 - 1) 0)) (get_or (kids_at x i) (get_or ds i 0 - 1) 0) (omega arith) k (omega arith) (fits_tail h))

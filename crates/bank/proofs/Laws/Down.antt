-- One step down: to the first child with a property, an earlier row, around which the frame stands; and the frames along an array of such places.
-- The place splits the children; fuel past the row's number makes no difference, so the way down from the child is its own.
use mathlib.Core.Path.{◌≡◌, refl, sym, ap, ◌∙◌}
use mathlib.Core.Bool.{Bool, true, false, cond}
use mathlib.Core.List.{List, [], ◌∷◌}
use Prim.Native.Nat.{ℕ, zero, suc, ◌≤◌, ◌<◌}
use native.Mathlib.Omega.{arith}
use lib.ListN.{length, get_or, take, drop}
use Rattle.model.specs.Store.{Store, nowhere, there, push, split_at, Spot, Frame, used, symbol_at, kids_at, under, down_by, down_from, down}
use Rattle.model.specs.Facts.{Good}
use Rattle.model.proofs.Laws.Fold.{earlier}
use Rattle.model.proofs.Laws.Down.{down_fuel}
use Rattle.bank.specs.Bank.{one_further, place_code, frame_at, path_by, path_from, path_of}
use Rattle.bank.proofs.Laws.Children.{below_at}

-- THE SPLIT at a place
pub split_none : (p : ℕ → Bool) (ks : List ℕ) → place_code p ks ≡ 0 → split_at p ks ≡ nowhere
unfolding place_code split_at
split_none p [] e = refl
split_none p (k ∷ ks) e = go (p k) (place_code p ks) e (split_none p ks)
  where
    go : (b : Bool) (c : ℕ) → cond b 1 (one_further c) ≡ 0 → (c ≡ 0 → split_at p ks ≡ nowhere) → cond b (there [] k ks) (push k (split_at p ks)) ≡ nowhere
    go true c q ih = absurd (omega arith)
    go false zero q ih = ap (push k) (ih refl)
    go false (suc c) q ih = absurd (omega arith)

pub record SplitsAt (p : ℕ → Bool) (ks : List ℕ) (k : ℕ) : Type 0 where
  pub within : k < length ks
  pub has : p (get_or ks k 0) ≡ true
  pub split : split_at p ks ≡ there (take k ks) (get_or ks k 0) (drop (suc k) ks)

pub split_some : (p : ℕ → Bool) (ks : List ℕ) (k : ℕ) → place_code p ks ≡ suc k → SplitsAt p ks k
unfolding place_code split_at
split_some p [] k e = absurd (omega arith)
split_some p (j ∷ ks) k e = go (p j) refl (place_code p ks) e (split_some p ks)
  where
    go : (b : Bool) → p j ≡ b → (c : ℕ) → cond b 1 (one_further c) ≡ suc k → ((m : ℕ) → c ≡ suc m → SplitsAt p ks m) → SplitsAt p (j ∷ ks) k
    go true h c q ih = first k (omega arith)
      where
        first : (m : ℕ) → m ≡ 0 → SplitsAt p (j ∷ ks) m
        first zero z = record { within = omega arith; has = h; split = rw h }
        first (suc m) z = absurd (omega arith)
    go false h zero q ih = absurd (omega arith)
    go false h (suc c) q ih = later k (omega arith)
      where
        later : (m : ℕ) → m ≡ suc c → SplitsAt p (j ∷ ks) m
        later zero z = absurd (omega arith)
        later (suc m) z =
            let r = ih m (omega arith) in
            record { within = omega (arith, r.within); has = r.has; split = rw (h, r.split) }

module _ (p : ℕ → Bool) (x : Store) (g : Good x) where
  -- no child has the property: the row itself
  stays : (n i : ℕ) → place_code p (kids_at x i) ≡ 0 → down_from p (suc n) x i ≡ record { row = i; around = [] }
  unfolding down_from
  stays n i e = ap (down_by (down_from p n x) i (symbol_at x i)) (split_none p (kids_at x i) e)

  pub step_none : (i : ℕ) → place_code p (kids_at x i) ≡ 0 → down p x i ≡ record { row = i; around = [] }
  step_none i e = stays i i e

  -- the first that has it
  pub record StepsTo (i k : ℕ) : Type 0 where
    pub within : k < length (kids_at x i)
    pub has : p (get_or (kids_at x i) k 0) ≡ true
    pub before : get_or (kids_at x i) k 0 < i
    pub is_under : down p x i ≡ under (frame_at x i k) (down p x (get_or (kids_at x i) k 0))

  goes : (n i k : ℕ) → place_code p (kids_at x i) ≡ suc k → down_from p (suc n) x i ≡ under (frame_at x i k) (down_from p n x (get_or (kids_at x i) k 0))
  unfolding down_from
  goes n i k e = ap (down_by (down_from p n x) i (symbol_at x i)) (split_some p (kids_at x i) k e).split

  pub step_some : (i k : ℕ) → i < used x → place_code p (kids_at x i) ≡ suc k → StepsTo i k
  step_some i k u e =
      let s = split_some p (kids_at x i) k e in
      let b = below_at (earlier x g i u) k s.within in
      let j : ℕ = get_or (kids_at x i) k 0 in
      record {
        within = s.within;
        has = s.has;
        before = b;
        is_under = goes i i k e ∙ ap (under (frame_at x i k)) (down_fuel p x g i (suc j) j (omega arith) b (omega arith));
      }

  -- THE FRAMES ALONG AN ARRAY of these places
  module _ (ds : List ℕ) (n : ℕ) (l : n ≤ used x) (at : (i : ℕ) → i < n → get_or ds i 0 ≡ place_code p (kids_at x i)) where
    path_is : (m i : ℕ) → i < n → i < m → path_from m ds x i ≡ (down_from p m x i).around
    unfolding path_from
    path_is zero i u v = absurd (omega arith)
    path_is (suc m) i u v =
        ap (path_by (path_from m ds x) x i) (at i u) ∙ go (λ k b. path_is m k (omega arith) (omega arith)) (place_code p (kids_at x i)) refl
      where
        go : ((k : ℕ) → k < i → path_from m ds x k ≡ (down_from p m x k).around) → (c : ℕ) → place_code p (kids_at x i) ≡ c → path_by (path_from m ds x) x i c ≡ (down_from p (suc m) x i).around
        go ih zero e = ap (λ (s : Spot). s.around) (sym (stays m i e))
        go ih (suc k) e =
            ap (λ (fs : List Frame). frame_at x i k ∷ fs) (ih (get_or (kids_at x i) k 0) (step_some i k (omega arith) e).before) ∙ ap (λ (s : Spot). s.around) (sym (goes m i k e))

    pub path_down : (i : ℕ) → i < n → path_of ds x i ≡ (down p x i).around
    path_down i u = path_is (suc i) i u (omega arith)

-- Along an array of places the way down from a row is model's: where each entry is the place of the first child with a property,
-- the frames are those of the way down by that property; along the marks of holes they are a context's.
use mathlib.Core.Path.{◌≡◌, refl, sym, ap, subst, ◌∙◌}
use mathlib.Core.Bool.{Bool, true}
use mathlib.Core.List.{List, [], ◌∷◌, ◌++◌}
use Prim.Native.Nat.{ℕ, zero, suc, ◌<◌}
use native.Mathlib.Omega.{arith}
use lib.ListN.{length, get_or, take, drop}
use Rattle.model.specs.Base.{Below}
use Rattle.model.specs.Store.{Store, Frame, Split, nowhere, there, frame, down_by, down_from, down, split_at, frames_of, has_hole, kids_at, symbol_at, used}
use Rattle.model.specs.Facts.{Good, Fits, None, none_nil, none_cons}
use Rattle.model.proofs.Laws.Lists.{below_split}
use Rattle.model.proofs.Laws.Fold.{earlier}
use Rattle.model.proofs.Laws.Down.{Splits, no_one, at_one, split_is, context_fits}
use Rattle.model.specs.Entry.{store_of}
use Rattle.bank.specs.Index.{hole_of}
use Rattle.bank.specs.Bank.{place_code, Bank, path_by, path_from, path_of}
use Rattle.bank.proofs.Laws.Words.{used_of}
use Rattle.bank_fill.proofs.Laws.Above.{place_none}

-- the place of the first with a property
place_at : (p : ℕ → Bool) {bs : List ℕ} (k : ℕ) (cs : List ℕ) → None p bs → p k ≡ true → place_code p (bs ++ (k ∷ cs)) ≡ suc (length bs)
unfolding place_code
place_at p k cs none_nil t = rw t
place_at p k cs (none_cons e n) t = rw (e, place_at p k cs n t)

-- a list around a place
before : (bs : List ℕ) (k : ℕ) (cs : List ℕ) → take (length bs) (bs ++ (k ∷ cs)) ≡ bs
before [] k cs = refl
before (b ∷ bs) k cs = ap (λ (l : List ℕ). b ∷ l) (before bs k cs)

behind : (bs : List ℕ) (k : ℕ) (cs : List ℕ) → drop (suc (length bs)) (bs ++ (k ∷ cs)) ≡ cs
behind [] k cs = refl
behind (b ∷ bs) k cs = behind bs k cs

there_at : (bs : List ℕ) (k : ℕ) (cs : List ℕ) → get_or (bs ++ (k ∷ cs)) (length bs) 0 ≡ k
there_at [] k cs = refl
there_at (b ∷ bs) k cs = there_at bs k cs

module _ (p : ℕ → Bool) (x : Store) (g : Good x) (ds : List ℕ) (h : (i : ℕ) → i < used x → get_or ds i 0 ≡ place_code p (kids_at x i)) where
  way_from : (n i : ℕ) → i < used x → path_from n ds x i ≡ (down_from p n x i).around
  unfolding path_from down_from
  way_from zero i u = refl
  way_from (suc n) i u =
      ap (path_by (path_from n ds x) x i) (h i u) ∙
      go (λ k l. way_from n k (omega arith)) (kids_at x i) refl (earlier x g i u) (split_at p (kids_at x i)) (split_is p (kids_at x i))
    where
      go : ((k : ℕ) → k < i → path_from n ds x k ≡ (down_from p n x k).around) → (ks : List ℕ) → kids_at x i ≡ ks → Below i ks → (s : Split) → Splits p ks s →
          path_by (path_from n ds x) x i (place_code p ks) ≡ (down_by (down_from p n x) i (symbol_at x i) s).around
      go ih ks e b nowhere (no_one q) = ap (path_by (path_from n ds x) x i) (place_none p q)
      go ih ks e b (there bs k cs) (at_one q t) =
          ap (path_by (path_from n ds x) x i) (place_at p k cs q t) ∙
          ap (λ (l : List ℕ). frame (symbol_at x i) (take (length bs) l) (drop (suc (length bs)) l) ∷ path_from n ds x (get_or l (length bs) 0)) e ∙
          (λ j. frame (symbol_at x i) (before bs k cs j) (behind bs k cs j) ∷ path_from n ds x (there_at bs k cs j)) ∙
          ap (λ (fs : List Frame). frame (symbol_at x i) bs cs ∷ fs) (ih k (below_split i bs k cs b).1)

  pub path_way : (i : ℕ) → i < used x → path_of ds x i ≡ (down p x i).around
  path_way i u = way_from (suc i) i u

-- A CONTEXT over a record table that is ready, along the marks of holes or a copy of them
module _ {ws ns : List ℕ} {n : ℕ} {xs : List ℕ} (r : Bank ws ns n xs) (ds : List ℕ) (same : (i : ℕ) → i < n → get_or ds i 0 ≡ get_or xs (hole_of i) 0) (c : ℕ) (u : c < n) where
  pub path_frames : path_of ds (store_of ws ns n) c ≡ frames_of (store_of ws ns n) c
  path_frames =
      path_way (has_hole (store_of ws ns n)) (store_of ws ns n) r.good ds (λ i l. let b : i < n = omega (arith, used_of ws ns n) in same i b ∙ r.holed i b) c (omega (arith, used_of ws ns n))

  pub path_fits : has_hole (store_of ws ns n) c ≡ true → Fits (store_of ws ns n) (path_of ds (store_of ws ns n) c)
  path_fits e = subst (Fits (store_of ws ns n)) (sym path_frames) (context_fits (store_of ws ns n) r.good c (omega (arith, used_of ws ns n)) e)

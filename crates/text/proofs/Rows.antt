-- A record's row stands for a record over the alphabet: its children are records in earlier rows, as many as its symbol has.
-- By induction on the row's number.
use mathlib.Core.Path.{◌≡◌, refl, sym, ap, ◌∙◌}
use mathlib.Core.List.{List, [], ◌∷◌, map}
use Prim.Native.Nat.{ℕ, zero, suc, ◌<◌}
use native.Mathlib.Omega.{arith}
use lib.Dec.{eqb}
use lib.ListN.{length, length-map}
use Rattle.model.specs.Base.{any_true, Below, none_below, one_below}
use Rattle.model.specs.Store.{Store, used, symbol_at, count_of, kids_at, has_hole}
use Rattle.model.specs.Terms.{Tree, forest, child_count, Over, over_tree, AllOver, over_leaf, over_grove, tree_at}
use Rattle.model.specs.Facts.{Good, IsRecord, None, none_nil, none_cons}
use Rattle.model.proofs.Laws.Tests.{neither, clear_any}
use Rattle.model.proofs.Laws.Fold.{earlier, hole_eq}
use Rattle.model.proofs.Laws.Down.{clear_none, clear_some}
use Rattle.model.proofs.Laws.Trees.{tree_eq}

forest_count : (ts : List Tree) → child_count (forest ts) ≡ length ts
unfolding forest child_count
forest_count [] = refl
forest_count (t ∷ ts) = ap suc (forest_count ts)

module _ (x : Store) (g : Good x) where
  no_holes : (i : ℕ) → IsRecord x i → None (has_hole x) (kids_at x i)
  no_holes i r =
      clear_none x (kids_at x i)
      (clear_any (map (has_hole x) (kids_at x i))
      (neither (eqb i 0) (any_true (map (has_hole x) (kids_at x i))) (sym (hole_eq x (earlier x g) i r.within) ∙ r.clear)).1)

  kids_over : (i : ℕ) → i < used x → ((k : ℕ) → k < i → IsRecord x k → Over x.counts (tree_at x k)) → {ks : List ℕ} → Below i ks → None (has_hole x) ks →
      AllOver x.counts (forest (map (tree_at x) ks))
  unfolding forest
  kids_over i u f none_below none_nil = over_leaf
  kids_over i u f (one_below {k = k} l b) (none_cons e n) =
      over_grove (f k l (record { some = clear_some x k e; within = omega arith; clear = e })) (kids_over i u f b n)

  over_to : (n i : ℕ) → i < n → IsRecord x i → Over x.counts (tree_at x i)
  over_to zero i l r = absurd (omega arith)
  over_to (suc n) i l r =
      let t = tree_eq x (earlier x g) i r.within in
      let q = g.row i r.some r.within in
      let c : child_count (forest (map (tree_at x) (kids_at x i))) ≡ count_of x (symbol_at x i) =
      forest_count (map (tree_at x) (kids_at x i)) ∙ length-map (kids_at x i) (tree_at x) ∙ q.arity in
      rw t (over_tree q.known c (kids_over i r.within (λ k m s. over_to n k (omega arith) s) q.below (no_holes i r)))

  pub row_over : (i : ℕ) → IsRecord x i → Over x.counts (tree_at x i)
  row_over i r = over_to (suc i) i (omega arith) r

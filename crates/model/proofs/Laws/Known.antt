-- A listed record whose tree a used row has is known by that row.
-- With room enough it can be stored. What storing gives has its tree, so it is that row, and not a new one: nothing was added.
use mathlib.Core.Path.{◌≡◌, refl, sym, ap, subst, ◌∙◌}
use mathlib.Core.Logic.{◌⊎◌, inl, inr}
use mathlib.Core.Bool.{Bool}
use mathlib.Core.List.{List, [], ◌∷◌, map}
use Prim.Native.Nat.{ℕ, suc, ◌≤◌, ◌<◌}
use native.Mathlib.Omega.{arith}
use Rattle.model.specs.Base.{count_true, each_nil}
use Rattle.model.specs.Store.{Store, used, kids_at, built}
use Rattle.model.specs.Terms.{Tree, tree_with, hole_tree, tree_at, tree_of, store_from, known_row}
use Rattle.model.specs.Facts.{GoodRow, Good, Parses}
use Rattle.model.specs.Room.{roomed}
use Rattle.model.proofs.Laws.Trees.{tree_kept, one_row}
use Rattle.model.proofs.Laws.Listed.{Stored, stored, known_or_new}
use Rattle.model.proofs.Laws.Room.{fold_room, hole_room, known_room}
use Rattle.model.proofs.Laws.Needed.{BuiltNeeds, store_needs}

-- with another room for the used rows a store is as good
good_room : (r : ℕ) (x : Store) → used x ≤ r → Good x → Good (roomed r x)
good_room r x l g =
    record {
      letters = g.letters;
      wide = g.wide;
      start = g.start;
      fits = l;
      first = g.first;
      row = λ i z u. row i (g.row i z u);
      twins = g.twins;
    }
  where
    row : (i : ℕ) → GoodRow x i → GoodRow (roomed r x) i
    row i q =
        record {
          known = q.known;
          places = q.places;
          arity = q.arity;
          below = q.below;
          holes = subst (λ (h : ℕ → Bool). count_true (map h (kids_at x i)) ≤ 1) (sym (hole_room r x)) q.holes;
        }

pub known_there : (x : Store) → Good x → (xs : List ℕ) → Parses x.counts 0 xs → (i : ℕ) → i < used x → tree_at x i ≡ tree_of x.counts xs → known_row x xs ≡ i
known_there x g (a ∷ xs) ps i u e =
    go (known_or_new (a ∷ xs) v good 0 [] each_nil refl ps n.row y made)
  where
    n : BuiltNeeds (used x) (λ (r : ℕ). store_from (roomed r x) (a ∷ xs) [])
    n = store_needs a xs x

    v : Store
    v = roomed n.needed x

    y : Store
    y = roomed n.needed n.store

    good : Good v
    good = good_room n.needed x n.more g

    made : store_from v (a ∷ xs) [] ≡ built n.row y
    made = n.enough n.needed (omega arith)

    s : Stored v (a ∷ xs) [] n.row y
    s = stored (a ∷ xs) v good 0 [] each_nil refl ps n.row y made

    kept : tree_at x i ≡ tree_at y i
    kept = sym (ap (λ (f : ℕ → Tree). f i) (fold_room n.needed x (λ (j b : ℕ) (ts : List Tree). tree_with b ts) hole_tree (suc i))) ∙ tree_kept v y s.good s.ext i u

    row : n.row ≡ i
    row = let m = s.ext.more in one_row y s.good n.row i s.is_record_law.within (omega arith) (s.value tree_with hole_tree ∙ sym e ∙ kept)

    go : ((y ≡ v) × (n.row ≡ known_row v (a ∷ xs))) ⊎ ((known_row v (a ∷ xs) ≡ 0) × (used v ≤ n.row)) → known_row x (a ∷ xs) ≡ i
    go (inl (p, q)) = sym (known_room n.needed x (a ∷ xs) []) ∙ sym q ∙ row
    go (inr (p, q)) = absurd (omega (arith, q, row, u))
known_there x g [] ps i u e = elim ps [ ]

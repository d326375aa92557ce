-- Frames around a tree, on trees: frames lead from a row to the row whose tree they make of its tree, and to no other; plugging a context's tree fills its frames.
-- By induction on the frames. A tree has one row, so a row with the tree of filled frames has their symbol and their children; a row without a hole is left alone.
use mathlib.Core.Path.{◌≡◌, refl, sym, ap, ◌∙◌}
use mathlib.Core.Bool.{Bool, false, cond}
use mathlib.Core.List.{List, [], ◌∷◌, ◌++◌, map, map-append}
use Prim.Native.Nat.{ℕ, zero, suc, ◌<◌}
use native.Mathlib.Omega.{arith}
use lib.Dec.{eqb}
use lib.ListN.{length}
use borrow.Author.Tests.{ne_eqb}
use Rattle.model.specs.Limits.{hole_symbol}
use Rattle.model.specs.Base.{Below, none_below, one_below}
use Rattle.model.specs.Store.{Node, Store, used, symbol_at, kids_at, has_hole, Extends, built, Frame, fill, frames_of}
use Rattle.model.specs.Terms.{Tree, forest, tree_with, hole_tree, eval_tree, tree_at}
use Rattle.model.specs.Facts.{Good, IsContext, None, none_nil, none_cons, Leads, Fits, fits_nil, fits_cons}
use Rattle.model.specs.Plug.{plug, framed, context_of}
use Rattle.model.proofs.Laws.Lists.{wider, map_below}
use Rattle.model.proofs.Laws.Fold.{earlier}
use Rattle.model.proofs.Laws.Frames.{linked}
use Rattle.model.proofs.Laws.Fill.{fill_is}
use Rattle.model.proofs.Laws.Down.{clear_some, clear_none, clear_kids, context_fits, context_leads}
use Rattle.model.proofs.Laws.Trees.{tree_eq, tree_kept, eval_with, forest_one, map_one, one_row}

-- a node around a tree
abbrev around : Store → Frame → Tree → Tree
around x f t = tree_with f.symbol (map (tree_at x) f.before ++ (t ∷ map (tree_at x) f.behind))

-- FRAMES THAT LEAD from a row make the upper row's tree of its tree
pub leads_framed : (x : Store) → Good x → (fs : List Frame) (i j : ℕ) → Leads x fs i j → tree_at x j ≡ framed x fs (tree_at x i)
unfolding Leads framed
leads_framed x g [] i j l = ap (tree_at x) (sym l)
leads_framed x g (f ∷ fs) i j l =
    linked tree_with hole_tree x (earlier x g) f l.0 j l.2 ∙ ap (around x f) (leads_framed x g fs i l.0 l.1)

-- AND BACK: the children of a row with the tree of a filled frame are the frame's, but for one
kids_framed : (x : Store) → Good x → (t : Tree) {bs cs ks : List ℕ} → Below (used x) bs → Below (used x) cs → Below (used x) ks →
    map (tree_at x) ks ≡ map (tree_at x) bs ++ (t ∷ map (tree_at x) cs) → (k : ℕ) × (k < used x) × (ks ≡ bs ++ (k ∷ cs)) × (tree_at x k ≡ t)
kids_framed x g t none_below c none_below e = let z : ◌≡◌ {A = ℕ} 0 1 = cc in absurd (omega arith)
kids_framed x g t (one_below l b) c none_below e = let z : ◌≡◌ {A = ℕ} 0 1 = cc in absurd (omega arith)
kids_framed x g t {cs = cs} none_below c (one_below {k = k} {ks = ks} m d) e =
    let p : tree_at x k ≡ t = cc in
    let q : map (tree_at x) ks ≡ map (tree_at x) cs = cc in
    (k, m, ap (λ (is : List ℕ). k ∷ is) (map_one (tree_at x) (used x) (used x) (one_row x g) d c q), p)
kids_framed x g t {cs = cs} (one_below {k = b} {ks = bs} l bl) c (one_below {k = k} {ks = ks} m d) e =
    let p : tree_at x k ≡ tree_at x b = cc in
    let q : map (tree_at x) ks ≡ map (tree_at x) bs ++ (t ∷ map (tree_at x) cs) = cc in
    let r = kids_framed x g t bl c d q in
    let s = one_row x g k b m l p in
    let v = r.2 in
    (r.0, r.1, cc, r.3)

pub framed_leads : (x : Store) → Good x → (fs : List Frame) → Fits x fs → (i j : ℕ) → i < used x → j < used x → tree_at x j ≡ framed x fs (tree_at x i) → Leads x fs i j
unfolding Leads framed
framed_leads x g [] q i j u v e = sym (one_row x g j i v u e)
framed_leads x g (f ∷ fs) (fits_cons q qs) i j u v e =
    let t = tree_eq x (earlier x g) j v in
    let a : symbol_at x j ≡ f.symbol = cc in
    let b : forest (map (tree_at x) (kids_at x j)) ≡ forest (map (tree_at x) f.before ++ (framed x fs (tree_at x i) ∷ map (tree_at x) f.behind)) = cc in
    let k = kids_framed x g (framed x fs (tree_at x i)) q.left q.right (wider (omega arith) (earlier x g j v)) (forest_one _ _ b) in
    (k.0, framed_leads x g fs qs i k.0 u k.1 k.3, record { within = v; head = a; tail = k.2 })

-- FRAMES FILLED: the row that is made has the tree that they make, in the store as it was
framed_ext : (x y : Store) → Good y → Extends x y → {fs : List Frame} → Fits x fs → (t : Tree) → framed x fs t ≡ framed y fs t
unfolding framed
framed_ext x y g e fits_nil t = refl
framed_ext x y g e (fits_cons {f = f} {fs = fs} q qs) t =
    let a = map_below (tree_at x) (tree_at y) (used x) (tree_kept x y g e) q.left in
    let b = map_below (tree_at x) (tree_at y) (used x) (tree_kept x y g e) q.right in
    let c = framed_ext x y g e qs t in
    cc

pub fill_framed : (x : Store) → Good x → (fs : List Frame) → Fits x fs → (i : ℕ) → i < used x → (j : ℕ) (y : Store) → fill x fs i ≡ built j y → tree_at y j ≡ framed x fs (tree_at x i)
fill_framed x g fs q i u j y e =
    let m = fill_is fs x g q i u j y e in
    leads_framed y m.good fs i j m.leads ∙ sym (framed_ext x y m.good m.ext q (tree_at y i)) ∙ ap (framed x fs) (sym (tree_kept x y m.good m.ext i u))

-- row 0 stands for the hole, so a context's tree is its frames around the hole
tree_hole : (x : Store) → Good x → tree_at x 0 ≡ hole_tree
unfolding forest
tree_hole x g =
    let a : symbol_at x 0 ≡ hole_symbol = ap (λ (n : Node). n.symbol) g.first in
    tree_eq x (earlier x g) 0 g.start ∙ ap (λ (n : ℕ). tree_with n (map (tree_at x) (kids_at x 0))) a ∙ ap (λ (ks : List ℕ). tree_with hole_symbol (map (tree_at x) ks)) (none (kids_at x 0) (earlier x g 0 g.start))
  where
    none : (ks : List ℕ) → Below 0 ks → ks ≡ []
    none [] b = refl
    none (k ∷ ks) (one_below l b) = absurd (omega arith)

context_tree : (x : Store) → Good x → (c : ℕ) → IsContext x c → tree_at x c ≡ context_of x (frames_of x c)
context_tree x g c k = leads_framed x g (frames_of x c) 0 c (context_leads x g c k.within k.hole) ∙ ap (framed x (frames_of x c)) (tree_hole x g)

-- PLUGGING leaves a row without a hole alone: no symbol of it is the hole's
module _ (x : Store) (g : Good x) (u : Tree) where
  abbrev plugged : Tree → Tree
  plugged t = plug t u

  plug_known : (a : ℕ) (ts : List Tree) → a < length x.counts → plugged (tree_with a ts) ≡ tree_with a (map plugged ts)
  plug_known a ts l =
      let m = g.letters in
      eval_with (λ (a : ℕ) (vs : List Tree). cond (eqb a hole_symbol) u (tree_with a vs)) a ts ∙
      ap (λ (b : Bool). cond b u (tree_with a (map plugged ts))) (ne_eqb a hole_symbol (λ e. omega arith))

  map_clear : (n : ℕ) → ((k : ℕ) → k < n → has_hole x k ≡ false → plugged (tree_at x k) ≡ tree_at x k) → {ks : List ℕ} → Below n ks → None (has_hole x) ks →
      map plugged (map (tree_at x) ks) ≡ map (tree_at x) ks
  map_clear n h none_below none_nil = refl
  map_clear n h (one_below {k = k} l b) (none_cons e c) = let p : plugged (tree_at x k) ≡ tree_at x k = h k l e in let q = map_clear n h b c in cc

  clear_to : (n i : ℕ) → i < n → i < used x → has_hole x i ≡ false → plugged (tree_at x i) ≡ tree_at x i
  clear_to zero i l v h = absurd (omega arith)
  clear_to (suc n) i l v h =
      let t = tree_eq x (earlier x g) i v in
      let r = g.row i (clear_some x i h) v in
      let m = map_clear i (λ k b c. clear_to n k (omega arith) (omega arith) c) r.below (clear_none x (kids_at x i) (clear_kids x g i v h)) in
      ap plugged t ∙ plug_known (symbol_at x i) (map (tree_at x) (kids_at x i)) r.known ∙ ap (tree_with (symbol_at x i)) m ∙ sym t

  plug_clear : (i : ℕ) → i < used x → has_hole x i ≡ false → plug (tree_at x i) u ≡ tree_at x i
  plug_clear i v h = clear_to (suc i) i (omega arith) v h

  -- and goes into frames that fit, to where the hole is
  plug_inside : {fs : List Frame} → Fits x fs → (t : Tree) → plugged (framed x fs t) ≡ framed x fs (plugged t)
  unfolding framed
  plug_inside fits_nil t = refl
  plug_inside (fits_cons {f = f} {fs = fs} q qs) t =
      let a = map_clear (used x) plug_clear q.left (clear_none x f.before q.clear.0) in
      let b = map_clear (used x) plug_clear q.right (clear_none x f.behind q.clear.1) in
      let c = map-append plugged (map (tree_at x) f.before) (framed x fs t ∷ map (tree_at x) f.behind) in
      let d = plug_inside qs t in
      plug_known f.symbol (map (tree_at x) f.before ++ (framed x fs t ∷ map (tree_at x) f.behind)) q.known ∙ ap (tree_with f.symbol) (c ∙ cc)

  pub plug_framed : {fs : List Frame} → Fits x fs → plug (context_of x fs) u ≡ framed x fs u
  unfolding eval_tree
  plug_framed q = plug_inside q hole_tree

  pub plug_context : (c : ℕ) → IsContext x c → plug (tree_at x c) u ≡ framed x (frames_of x c) u
  plug_context c k = ap plugged (context_tree x g c k) ∙ plug_framed (context_fits x g c k.within k.hole)

-- A value of rows that comes from the children alone goes through frames, and the measure of the search falls along them.
-- By induction on the frames: at each the children are the same but for one. A row above one that is outside S is outside S, as S holds its children.
use mathlib.Core.Path.{◌≡◌, sym, ap, ◌∙◌}
use mathlib.Core.Bool.{Bool, true, false, true≢false, cond}
use mathlib.Core.List.{List, [], ◌∷◌, ◌++◌, map, map-append}
use Prim.Native.Nat.{ℕ, ◌+◌, ◌≤◌, ◌<◌}
use native.Mathlib.Omega.{arith}
use Rattle.model.specs.Base.{all_among, among, sum}
use Rattle.model.specs.Store.{Frame, Store, filled_kids, fold, kids_at, outside, used}
use Rattle.model.specs.Facts.{Closed, Earlier, Leads, Link}
use Rattle.model.proofs.Laws.Tests.{and_left, and_right, not_so}
use Rattle.model.proofs.Laws.Fold.{fold_eq}

pub map_filled : {A : Type 0} (g : ℕ → A) (f : Frame) (i : ℕ) → map g (filled_kids f i) ≡ map g f.before ++ (g i ∷ map g f.behind)
map_filled g f i = map-append g f.before (i ∷ f.behind)

pub leads_within : (x : Store) (fs : List Frame) (i j : ℕ) → i < used x → Leads x fs i j → j < used x
unfolding Leads
leads_within x [] i j u l = rw (← l) u
leads_within x (f ∷ fs) i j u l = l.2.within

-- a fold that does not look at row numbers goes through frames
module _ {A : Type 0} (h : ℕ → List A → A) (z : A) (x : Store) (w : Earlier x) where
  abbrev at : ℕ → A
  at i = fold (λ (j a : ℕ) (ns : List A). h a ns) z x i

  pub linked : (f : Frame) (i j : ℕ) → Link x f i j → at j ≡ h f.symbol (map at f.before ++ (at i ∷ map at f.behind))
  linked f i j l =
      let e = fold_eq (λ (j a : ℕ) (ns : List A). h a ns) z x w j l.within in
      let p = l.head in
      let q = l.tail in
      let r = map_filled at f i in
      cc

  pub through : (fs : List Frame) (i j k l : ℕ) → Leads x fs i j → Leads x fs k l → at i ≡ at k → at j ≡ at l
  unfolding Leads
  through [] i j k l p q e = let a : at i ≡ at j = ap at p in let b : at k ≡ at l = ap at q in cc
  through (f ∷ fs) i j k l p q e =
      let r : at p.0 ≡ at q.0 = through fs i p.0 k q.0 p.1 q.1 e in
      let a = linked f p.0 j p.2 in
      let b = linked f q.0 l q.2 in
      cc

sum_filled : (g : ℕ → ℕ) (f : Frame) (i : ℕ) → sum (map g (filled_kids f i)) ≡ sum (map g f.before) + (g i + sum (map g f.behind))
unfolding sum
sum_filled g f i = go f.before
  where
    go : (bs : List ℕ) → sum (map g (bs ++ (i ∷ f.behind))) ≡ sum (map g bs) + (g i + sum (map g f.behind))
    go [] = omega arith
    go (b ∷ bs) = let r = go bs in omega arith

inside : (bs : List ℕ) (k : ℕ) (cs s : List ℕ) → all_among (bs ++ (k ∷ cs)) s ≡ true → among k s ≡ true
unfolding all_among
inside [] k cs s e = and_left (among k s) (all_among cs s) e
inside (b ∷ bs) k cs s e = inside bs k cs s (and_right (among b s) (all_among (bs ++ (k ∷ cs)) s) e)

choose_le : (b : Bool) → cond b 0 1 ≤ 1
choose_le true = omega arith
choose_le false = omega arith

-- the occurrences outside s of a row: itself, and its children's
pub weigh : (s : List ℕ) (x : Store) → Earlier x → (i : ℕ) → i < used x → outside s x i ≡ cond (among i s) 0 1 + sum (map (outside s x) (kids_at x i))
weigh s x w i u = fold_eq (λ (j a : ℕ) (ns : List ℕ). cond (among j s) 0 1 + sum ns) 0 x w i u

module _ (s : List ℕ) (x : Store) (w : Earlier x) (closed : Closed s x) where
  -- a parent of a row outside s is outside s
  above : (f : Frame) (k j : ℕ) → Link x f k j → among k s ≡ false → among j s ≡ false
  above f k j l e = not_so (among j s) (λ p. true≢false (sym (inside f.before k f.behind s (rw l.tail at (closed j l.within p))) ∙ e))

  -- THE MEASURE: with v for u under the same frames, the whole loses at least what u has more than v. An ancestor of u is outside s and
  -- counts one; the row in its place counts at most one; the other children are the same
  pub falls : (fs : List Frame) (u h v j : ℕ) → Leads x fs u h → Leads x fs v j → among u s ≡ false →
      (among h s ≡ false) × (outside s x j + outside s x u ≤ outside s x h + outside s x v)
  unfolding Leads
  falls [] u h v j p q e =
      let a : outside s x u ≡ outside s x h = ap (outside s x) p in
      let b : outside s x v ≡ outside s x j = ap (outside s x) q in
      (rw p at e, omega arith)
  falls (f ∷ fs) u h v j p q e =
      let r = falls fs u p.0 v q.0 p.1 q.1 e in
      let m : among h s ≡ false = above f p.0 h p.2 r.0 in
      let a : outside s x h ≡ 1 + sum (map (outside s x) (filled_kids f p.0)) = rw (← p.2.tail) (weigh s x w h p.2.within ∙ rw m) in
      let b : outside s x j ≡ cond (among j s) 0 1 + sum (map (outside s x) (filled_kids f q.0)) = rw (← q.2.tail) (weigh s x w j q.2.within) in
      let c = sum_filled (outside s x) f p.0 in
      let d = sum_filled (outside s x) f q.0 in
      let n = choose_le (among j s) in
      let l = r.1 in
      (m, omega arith)

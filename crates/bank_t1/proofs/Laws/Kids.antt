-- The child places of a row as the pass reads them: the unused ones, and the children one after the other.
-- What is left of them decides; taken together, children are earlier rows and at most one has a hole, whose place the walk gives.
use mathlib.Core.Path.{◌≡◌, refl, sym, ap, ◌∙◌}
use mathlib.Core.Bool.{Bool, true, false, ◌&&◌, cond}
use mathlib.Core.List.{List, [], ◌∷◌, map}
use Prim.Native.Nat.{ℕ, zero, suc, ◌+◌, ◌≤◌, ◌<◌}
use native.Mathlib.Nat.{zero-add}
use native.Mathlib.Numerals.{add-one}
use native.Mathlib.Omega.{arith}
use lib.Dec.{ltb, leb, eqb}
use borrow.Author.Tests.{leb-true, leb-false, lt-ltb, le-ltb, le-leb, lt-leb, eq-eqb, ne_eqb}
use lib.ListN.{length, get_or, take, drop, drop_of_length-le}
use lib.Seq.{drop-cons, get_or-take, length-take-le}
use Rattle.model.specs.Base.{all, same, count_true}
use Rattle.model.specs.Store.{padded}
use Rattle.model.proofs.Laws.Members.{all_fails, all_passes, all_ends}
use Rattle.bank.specs.Rows.{kid_in, places_in}
use Rattle.bank.specs.Bank.{one_further, place_code}
use Rattle.bank.proofs.Laws.Children.{place_at}
use Rattle.bank_t1.specs.Pass.{unused_zero, kids_say}
use Rattle.std.proofs.Common.{Option, Some, None}

-- UNUSED PLACES, from k on
abbrev pub is_zero : ℕ → Bool
is_zero v = eqb v 0

module _ (ws : List ℕ) (i n k : ℕ) (left : all is_zero (drop k (places_in ws i)) ≡ unused_zero ws i n) where
  pub zero_fails : k < 4 → (kid_in ws i k ≡ 0 → ⊥) → false ≡ unused_zero ws i n
  zero_fails l z = all_fails is_zero (places_in ws i) k (unused_zero ws i n) left l (ap is_zero (place_at ws i k l) ∙ ne_eqb (kid_in ws i k) 0 z)

  pub zero_passes : k < 4 → kid_in ws i k ≡ 0 → all is_zero (drop (k + 1) (places_in ws i)) ≡ unused_zero ws i n
  zero_passes l z = all_passes is_zero (places_in ws i) k (unused_zero ws i n) left l (ap is_zero (place_at ws i k l) ∙ eq-eqb (kid_in ws i k) 0 z)

  pub zero_ends : 4 ≤ k → true ≡ unused_zero ws i n
  zero_ends l = all_ends is_zero (places_in ws i) k (unused_zero ws i n) left l

-- they are 0 exactly where the four places are the used ones padded
self : (ws : List ℕ) (i k : ℕ) → eqb (kid_in ws i k) (kid_in ws i k) ≡ true
self ws i k = eq-eqb (kid_in ws i k) (kid_in ws i k) refl

pub pads : (ws : List ℕ) (i n : ℕ) → n ≤ 4 → same (places_in ws i) (padded (take n (places_in ws i))) ≡ unused_zero ws i n
unfolding same all
pads ws i zero l = refl
pads ws i (suc zero) l = rw (self ws i 0)
pads ws i (suc (suc zero)) l = rw (self ws i 0, self ws i 1)
pads ws i (suc (suc (suc zero))) l = rw (self ws i 0, self ws i 1, self ws i 2)
pads ws i (suc (suc (suc (suc zero)))) l = rw (self ws i 0, self ws i 1, self ws i 2, self ws i 3)
pads ws i (suc (suc (suc (suc (suc n))))) l = absurd (omega arith)

-- CHILDREN: at place k of the first n, after a hole at h or none
module _ (p : ℕ → Bool) (ws : List ℕ) (i n : ℕ) (few : n ≤ 4) (k h : ℕ) where
  abbrev left : (place hole : ℕ) → Option ℕ
  left m g = kids_say p i m g (drop m (take n (places_in ws i)))

  long : length (take n (places_in ws i)) ≡ n
  long = length-take-le n (places_in ws i) few

  kid_at : k < n → get_or (take n (places_in ws i)) k 0 ≡ kid_in ws i k
  kid_at l = get_or-take n (places_in ws i) k 0 l ∙ place_at ws i k (omega arith)

  step : k < n → left k h ≡
      cond (ltb (kid_in ws i k) i) (cond (p (kid_in ws i k)) (cond (eqb h 0) (left (k + 1) (k + 1)) None) (left (k + 1) h)) None
  unfolding kids_say
  step l =
      let e = add-one k in
      let f = kid_at l in
      ap (kids_say p i k h) (drop-cons (take n (places_in ws i)) k 0 (omega (arith, long))) ∙
      (λ t. cond (ltb (f t) i) (cond (p (f t)) (cond (eqb h 0) (left (sym e t) (sym e t)) None) (left (sym e t) h)) None)

  pub late : k < n → i ≤ kid_in ws i k → left k h ≡ None
  late l b = step l ∙ rw (le-ltb (kid_in ws i k) i b)

  pub second : k < n → kid_in ws i k < i → p (kid_in ws i k) ≡ true → (h ≡ 0 → ⊥) → left k h ≡ None
  second l b e z = step l ∙ rw (lt-ltb (kid_in ws i k) i b, e, ne_eqb h 0 z)

  pub hole_here : k < n → kid_in ws i k < i → p (kid_in ws i k) ≡ true → h ≡ 0 → left k h ≡ left (k + 1) (k + 1)
  hole_here l b e z = step l ∙ rw (lt-ltb (kid_in ws i k) i b, e, eq-eqb h 0 z)

  pub none_here : k < n → kid_in ws i k < i → p (kid_in ws i k) ≡ false → left k h ≡ left (k + 1) h
  none_here l b e = step l ∙ rw (lt-ltb (kid_in ws i k) i b, e)

  pub said : n ≤ k → left k h ≡ Some h
  unfolding kids_say
  said l = ap (kids_say p i k h) (drop_of_length-le (take n (places_in ws i)) {i = k} (omega (arith, long)))

-- ALL CHILDREN TOGETHER. The place of the hole counts from the first child, k places before
abbrev from_first : (place code : ℕ) → ℕ
from_first k zero = 0
from_first k (suc m) = suc (k + m)

further : (k m : ℕ) → from_first (suc k) m ≡ from_first k (one_further m)
further k zero = refl
further k (suc m) = omega arith

from_zero : (m : ℕ) → from_first 0 m ≡ m
from_zero zero = refl
from_zero (suc m) = omega arith

pub and_false : (a : Bool) → a && false ≡ false
and_false true = refl
and_false false = refl

one_more : (m : ℕ) → leb m 0 ≡ leb (1 + m) 1
one_more m = go (leb m 0) refl
  where
    go : (b : Bool) → leb m 0 ≡ b → b ≡ leb (1 + m) 1
    go true e = let l = leb-true m 0 e in sym (le-leb (1 + m) 1 (omega arith))
    go false e = let l = leb-false m 0 e in sym (lt-leb (1 + m) 1 (omega arith))

module _ (p : ℕ → Bool) (i : ℕ) where
  abbrev early : List ℕ → Bool
  early ks = all (λ (j : ℕ). ltb j i) ks

  abbrev holes : List ℕ → ℕ
  holes ks = count_true (map p ks)

  -- after a child with a hole no second one
  after_hole : (k g : ℕ) (ks : List ℕ) → kids_say p i k (suc g) ks ≡ cond (early ks && leb (holes ks) 0) (Some (suc g)) None
  unfolding kids_say all count_true
  after_hole k g [] = refl
  after_hole k g (j ∷ js) = go (ltb j i) (p j) (after_hole (suc k) g js)
    where
      go : (b c : Bool) → kids_say p i (suc k) (suc g) js ≡ cond (early js && leb (holes js) 0) (Some (suc g)) None →
          cond b (cond c (cond (eqb (suc g) 0) (kids_say p i (suc k) (suc k) js) None) (kids_say p i (suc k) (suc g) js)) None ≡
          cond ((b && early js) && leb (cond c 1 0 + holes js) 0) (Some (suc g)) None
      go false c h = refl
      go true true h = rw (ne_eqb (suc g) 0 (λ e. omega arith), lt-leb (1 + holes js) 0 (omega arith), and_false (early js))
      go true false h = h ∙ rw (zero-add (holes js))

  before_hole : (k : ℕ) (ks : List ℕ) → kids_say p i k 0 ks ≡ cond (early ks && leb (holes ks) 1) (Some (from_first k (place_code p ks))) None
  unfolding kids_say all count_true place_code
  before_hole k [] = refl
  before_hole k (j ∷ js) = go (ltb j i) (p j) (before_hole (suc k) js)
    where
      go : (b c : Bool) → kids_say p i (suc k) 0 js ≡ cond (early js && leb (holes js) 1) (Some (from_first (suc k) (place_code p js))) None →
          cond b (cond c (cond (eqb 0 0) (kids_say p i (suc k) (suc k) js) None) (kids_say p i (suc k) 0 js)) None ≡
          cond ((b && early js) && leb (cond c 1 0 + holes js) 1) (Some (from_first k (cond c 1 (one_further (place_code p js))))) None
      go false c h = refl
      go true true h =
          let e : suc k ≡ suc (k + 0) = omega arith in
          after_hole (suc k) k js ∙ (λ t. cond (early js && one_more (holes js) t) (Some (e t)) None)
      go true false h = h ∙ (λ t. cond (early js && leb (sym (zero-add (holes js)) t) 1) (Some (further k (place_code p js) t)) None)

  pub kids_say_law : (ks : List ℕ) → kids_say p i 0 0 ks ≡ cond (early ks && leb (holes ks) 1) (Some (place_code p ks)) None
  kids_say_law ks = before_hole 0 ks ∙ (λ t. cond (early ks && leb (holes ks) 1) (Some (from_zero (place_code p ks) t)) None)

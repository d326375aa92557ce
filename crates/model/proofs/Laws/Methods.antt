-- What the methods of slices and iterators answer, in the words of specs/Base: a number sought, a test of every member, the place of a number, two lists compared.
-- By induction on the lists.
use Rattle.std.proofs.Common.{◌≡◌, refl, sym, ap, ◌∙◌, ℕ, suc, ◌+◌, ◌≤◌, List, [], ◌∷◌, length, Bool, true, false, cond, nat_eq, Option, arith}
use Rattle.std.specs.List.{list_any, list_all, position, position_or_len}
use Rattle.std.specs.Option.{unwrap_or}
use Rattle.std.proofs.lemmas.List.Sums.{prefix_len-le-length}
use Rattle.std.proofs.lemmas.Bool.Decides.{nat_tests}
use Rattle.std.proofs.lemmas.List.Recursion.{is_position_or_len}
use Rattle.std.specs.Cmp.Lexicographic.{pointwise}
use mathlib.Core.Bool.{◌&&◌, ◌||◌}
use lib.Dec.{eqb}
use borrow.Author.Tests.{eqb-true, eqb-false, eq-eqb, ne_eqb}
use Rattle.model.specs.Base.{all, same, among, all_among, place_of}

pub eqb_turned : (x y : ℕ) → eqb x y ≡ eqb y x
eqb_turned x y = turned (eqb y x) refl
  where
    turned : (b : Bool) → eqb y x ≡ b → eqb x y ≡ b
    turned true e = eq-eqb x y (sym (eqb-true y x e))
    turned false e = ne_eqb x y (λ p. eqb-false y x e (sym p))

-- `contains` of a slice, and `any` of an iterator
pub any_among : (x : ℕ) (xs : List ℕ) → list_any (λ y. eqb y x) xs ≡ among x xs
unfolding among
any_among x [] = refl
any_among x (y ∷ ys) = rw (any_among x ys, eqb_turned y x) refl

-- `all` of an iterator
pub all_all : (f : ℕ → Bool) (xs : List ℕ) → list_all f xs ≡ all f xs
unfolding all
all_all f [] = refl
all_all f (x ∷ xs) = ap (λ (b : Bool). f x && b) (all_all f xs)

pub all_all_among : (ys xs : List ℕ) → list_all (λ x. among x ys) xs ≡ all_among xs ys
unfolding all_among
all_all_among ys [] = refl
all_all_among ys (x ∷ xs) = ap (λ (b : Bool). among x ys && b) (all_all_among ys xs)

-- `position` of an iterator: the length of the list for none
pub place_from : (x n : ℕ) (xs : List ℕ) → place_of x n xs ≡ n + position_or_len (λ y. eqb y x) xs
unfolding place_of
place_from x n [] = omega arith
place_from x n (y ∷ ys) = step (eqb y x) refl (place_from x (suc n) ys)
  where
    step : (b : Bool) → eqb y x ≡ b → place_of x (suc n) ys ≡ suc n + position_or_len (λ z. eqb z x) ys → place_of x n (y ∷ ys) ≡ n + position_or_len (λ z. eqb z x) (y ∷ ys)
    step true e i = let t : eqb x y ≡ true = eqb_turned x y ∙ e in rw (t, e) (omega arith)
    step false e i = let t : eqb x y ≡ false = eqb_turned x y ∙ e in rw (t, e, i) (omega arith)

-- `==` of two slices
pub pointwise_same : (xs ys : List ℕ) → pointwise nat_eq xs ys ≡ same xs ys
unfolding same
pointwise_same [] [] = refl
pointwise_same [] (y ∷ ys) = refl
pointwise_same (x ∷ xs) [] = refl
pointwise_same (x ∷ xs) (y ∷ ys) = ap (λ (b : Bool). eqb x y && b) (pointwise_same xs ys)

pub place_found : (x : ℕ) (xs : List ℕ) (r : Option ℕ) → r ≡ position (λ y. eqb y x) xs → unwrap_or r (length xs) ≡ place_of x 0 xs
place_found x xs r e =
    let k = position_or_len (λ y. eqb y x) xs in
    let low : k ≤ length xs = prefix_len-le-length _ xs in
    rw (e, place_from x 0 xs) (grind (arith, nat_tests, low))

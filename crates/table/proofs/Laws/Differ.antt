-- Two rows of answers, place by place: they differ where both answers are known and not the same.
-- By induction on the rows.
use Rattle.std.proofs.Common.{◌≡◌, refl, ℕ, Bool, not, ◌&&◌, nat_eq, ltb, eqb, List, [], ◌∷◌, arith}
use Rattle.std.specs.List.{list_any, zip}
use Rattle.std.proofs.lemmas.Bool.Decides.{nat_tests}
use Rattle.model.specs.Sound.{differ_known}

abbrev pub differs : ℕ × ℕ → Bool
differs p = not (nat_eq p.0 0) && (not (nat_eq p.1 0) && not (nat_eq p.0 p.1))

differs_is : (x y : ℕ) → differs (x, y) ≡ ltb 0 x && ltb 0 y && not (eqb x y)
differs_is x y = grind (arith, nat_tests)

pub any_differs : (xs ys : List ℕ) → list_any differs (zip xs ys) ≡ differ_known xs ys
unfolding differ_known
any_differs [] ys = refl
any_differs (x ∷ xs) [] = refl
any_differs (x ∷ xs) (y ∷ ys) = rw (differs_is x y, any_differs xs ys) refl

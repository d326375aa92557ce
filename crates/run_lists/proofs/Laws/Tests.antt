-- The place of a number, one number of a list at a time: what is left of the list decides it.
-- By the clauses of `place_of` at a list that is split at its first number.
use mathlib.Core.Path.{◌≡◌, sym, ap}
use mathlib.Core.List.{List, []}
use Prim.Native.Nat.{ℕ, ◌+◌, ◌≤◌, ◌<◌}
use native.Mathlib.Numerals.{add-one}
use borrow.Author.Tests.{eq-eqb, ne_eqb}
use lib.ListN.{length, get_or, drop, drop_of_length-le}
use Rattle.model.specs.Base.{place_of}
use Rattle.model.proofs.Laws.Scans.{drop_next}

module _ (xs : List ℕ) (i : ℕ) (l : i < length xs) where
  pub place_here : (x k : ℕ) → get_or xs i 0 ≡ x → place_of x k (drop i xs) ≡ k
  unfolding place_of
  place_here x k e = rw (drop_next xs i l, eq-eqb x (get_or xs i 0) (sym e))

  pub place_later : (x k : ℕ) → (get_or xs i 0 ≡ x → ⊥) → place_of x k (drop i xs) ≡ place_of x (k + 1) (drop (i + 1) xs)
  unfolding place_of
  place_later x k e = rw (drop_next xs i l, ne_eqb x (get_or xs i 0) (λ p. e (sym p))) (ap (λ (m : ℕ). place_of x m (drop (i + 1) xs)) (sym (add-one k)))

pub place_end : (xs : List ℕ) (i : ℕ) → length xs ≤ i → (x k : ℕ) → place_of x k (drop i xs) ≡ k
unfolding place_of
place_end xs i l x k = rw (drop_of_length-le xs {i = i} l)

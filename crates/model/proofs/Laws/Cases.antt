-- The six cases of 33, one by one, say what the sum says that they replace. By the sum, a mark contradicts neither an unknown answer nor its own, and any other.
use mathlib.Core.Path.{◌≡◌, refl, sym, ◌∙◌}
use mathlib.Core.Logic.{◌≢◌, ◌⊎◌, inl, inr}
use mathlib.Core.Bool.{Bool, true, false, ◌&&◌, not, true≢false}
use Prim.Native.Nat.{ℕ, zero, suc, ◌+◌, ◌≤◌}
use native.Mathlib.Omega.{arith}
use borrow.Author.Tests.{eq-eqb, ne_eqb, eqb-true}
use lib.Dec.{eqb}
use Rattle.model.specs.Calls.{contradicts}
use Rattle.model.specs.Marks.{the_sum}

pub as_the_sum : (v m : ℕ) → v ≤ 2 → m ≤ 1 → contradicts v m ≡ the_sum v m
as_the_sum zero zero l k = refl
as_the_sum zero (suc zero) l k = refl
as_the_sum zero (suc (suc m)) l k = absurd (omega arith)
as_the_sum (suc zero) zero l k = refl
as_the_sum (suc zero) (suc zero) l k = refl
as_the_sum (suc zero) (suc (suc m)) l k = absurd (omega arith)
as_the_sum (suc (suc zero)) zero l k = refl
as_the_sum (suc (suc zero)) (suc zero) l k = refl
as_the_sum (suc (suc zero)) (suc (suc m)) l k = absurd (omega arith)
as_the_sum (suc (suc (suc v))) m l k = absurd (omega arith)

pub not_contradicts : (v m : ℕ) → v ≤ 2 → m ≤ 1 → contradicts v m ≡ false → (v ≡ 0) ⊎ (v ≡ m + 1)
not_contradicts v m l k e = go (eqb v 0) refl (eqb v (m + 1)) refl (sym (as_the_sum v m l k) ∙ e)
  where
    go : (a : Bool) → eqb v 0 ≡ a → (b : Bool) → eqb v (m + 1) ≡ b → not a && not b ≡ false → (v ≡ 0) ⊎ (v ≡ m + 1)
    go true p b q r = inl (eqb-true v 0 p)
    go false p true q r = inr (eqb-true v (m + 1) q)
    go false p false q r = absurd (true≢false r)

pub agrees : (v m : ℕ) → m ≤ 1 → (v ≡ 0) ⊎ (v ≡ m + 1) → contradicts v m ≡ false
agrees v m k (inl e) = let s : the_sum v m ≡ false = rw (eq-eqb v 0 e) in as_the_sum v m (omega (arith, e)) k ∙ s
agrees v m k (inr e) =
    let s : the_sum v m ≡ false = rw (ne_eqb v 0 (λ z. omega arith), eq-eqb v (m + 1) e) in
    as_the_sum v m (omega (arith, e, k)) k ∙ s

pub contradicted : (v m : ℕ) → v ≤ 2 → m ≤ 1 → v ≢ 0 → v ≢ m + 1 → contradicts v m ≡ true
contradicted v m l k n d = let s : the_sum v m ≡ true = rw (ne_eqb v 0 n, ne_eqb v (m + 1) d) in as_the_sum v m l k ∙ s

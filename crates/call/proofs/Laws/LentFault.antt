-- What refuses whatever is lent (§5.3): 18, then 30 for lists that do not fit; and what is known where nothing does.
-- By cases on the two tests.
use mathlib.Core.Path.{◌≡◌, refl, sym, ap, ◌∙◌}
use mathlib.Core.Bool.{Bool, true, false, cond}
use mathlib.Core.List.{List}
use Prim.Native.Nat.{ℕ}
use native.Mathlib.Omega.{arith}
use Rattle.model.specs.Calls.{Call, refuses, call}
use Rattle.model.specs.Entry.{size_fits, lent_fits, lent_fault, tables_of, call_by}
use Rattle.model.specs.declared.Lists.{Lists}

module _ (ws : List ℕ) (l : Lists) where
  pub lent_size : size_fits ws ≡ false → 18 ≡ lent_fault ws l
  lent_size a = sym (ap (λ (b : Bool). cond b (cond (lent_fits ws l) 0 30) 18) a)

  pub lent_lists : size_fits ws ≡ true → lent_fits ws l ≡ false → 30 ≡ lent_fault ws l
  lent_lists a b = sym (λ i. cond (a i) (cond (b i) 0 30) 18)

  pub lent_none : size_fits ws ≡ true → lent_fits ws l ≡ true → 0 ≡ lent_fault ws l
  lent_none a b = sym (λ i. cond (a i) (cond (b i) 0 30) 18)

  -- nothing refuses: both fit
  module _ (e : lent_fault ws l ≡ 0) where
    pub size_lent : size_fits ws ≡ true
    size_lent = go (size_fits ws) refl
      where
        go : (b : Bool) → size_fits ws ≡ b → b ≡ true
        go true p = refl
        go false p = absurd (omega (arith, e, lent_size p))

    pub lists_lent : lent_fits ws l ≡ true
    lists_lent = go (lent_fits ws l) refl
      where
        go : (b : Bool) → lent_fits ws l ≡ b → b ≡ true
        go true p = refl
        go false p = absurd (omega (arith, e, lent_lists size_lent p))

  -- something does: so the call is refused
  pub lent_refused : (k : Call) (n : ℕ) → n ≡ lent_fault ws l → (n ≡ 0 → ⊥) → call_by ws l k ≡ refuses n
  lent_refused k n e z = go (size_fits ws) (lent_fits ws l) refl refl
    where
      go : (a b : Bool) → size_fits ws ≡ a → lent_fits ws l ≡ b → call_by ws l k ≡ refuses n
      go false b p q = ap (λ (t : Bool). cond t (cond (lent_fits ws l) (call (tables_of ws l) k) (refuses 30)) (refuses 18)) p ∙ ap refuses (lent_size p ∙ sym e)
      go true false p q = (λ i. cond (p i) (cond (q i) (call (tables_of ws l) k) (refuses 30)) (refuses 18)) ∙ ap refuses (lent_lists p q ∙ sym e)
      go true true p q = absurd (z (e ∙ sym (lent_none p q)))

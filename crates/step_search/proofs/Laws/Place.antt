-- The place of a list's first member with a property is found one member after the other.
-- A member without the property leaves it to those behind it, one place further.
use Rattle.std.proofs.Common.{◌≡◌, refl, sym, ap, ◌∙◌, arith, ℕ, zero, suc, add-one, ◌+◌, ◌≤◌, ◌<◌, List, length, get_or, drop, drop-cons, drop_of_length-le, Bool, true, false, cond}
use Rattle.bank.specs.Bank.{place_code, one_further}

-- ONE MEMBER AFTER THE OTHER: the place among those from k on, counted from the first
abbrev pub shifted : (k code : ℕ) → ℕ
shifted k zero = 0
shifted k (suc c) = suc (k + c)

shifted_further : (k c : ℕ) → shifted k (one_further c) ≡ shifted (k + 1) c
shifted_further k zero = refl
shifted_further k (suc c) = omega arith

module _ (p : ℕ → Bool) (ks : List ℕ) (k c : ℕ) (left : shifted k (place_code p (drop k ks)) ≡ c) where
  step : k < length ks → place_code p (drop k ks) ≡ cond (p (get_or ks k 0)) 1 (one_further (place_code p (drop (k + 1) ks)))
  unfolding place_code
  step l = ap (place_code p) (drop-cons ks k 0 l) ∙ ap (λ (m : ℕ). cond (p (get_or ks k 0)) 1 (one_further (place_code p (drop m ks)))) (sym (add-one k))

  pub place_here : k < length ks → p (get_or ks k 0) ≡ true → k + 1 ≡ c
  place_here l e = omega arith ∙ ap (shifted k) (sym (step l ∙ ap (λ (b : Bool). cond b 1 (one_further (place_code p (drop (k + 1) ks)))) e)) ∙ left

  pub place_behind : k < length ks → p (get_or ks k 0) ≡ false → shifted (k + 1) (place_code p (drop (k + 1) ks)) ≡ c
  place_behind l e =
      sym (shifted_further k (place_code p (drop (k + 1) ks))) ∙ ap (shifted k) (sym (step l ∙ ap (λ (b : Bool). cond b 1 (one_further (place_code p (drop (k + 1) ks)))) e)) ∙ left

  pub place_nowhere : length ks ≤ k → 0 ≡ c
  unfolding place_code
  place_nowhere l = sym (ap (λ (l : List ℕ). shifted k (place_code p l)) (drop_of_length-le ks l)) ∙ left

-- Blocks in a row: one more rule is the next one behind those before, and a left side is sought among the first rules block by block.
-- By induction on the count of blocks.
use mathlib.Core.Path.{◌≡◌, refl, ap}
use mathlib.Core.List.{List, [], ◌∷◌, ◌++◌}
use Prim.Native.Nat.{ℕ, zero, suc, ◌+◌, ◌-◌, ◌<◌}
use native.Mathlib.Numerals.{add-one}
use native.Mathlib.Omega.{arith}
use lib.ListN.{length}
use Rattle.model.specs.Automata.{Rule}
use Rattle.model.specs.Listing.{body_at, behind, rule_in}
use Rattle.list.specs.Blocks.{rules_in, after}

pub length_rules_in : (n : ℕ) (bs : List ℕ) → length (rules_in n bs) ≡ n
unfolding rules_in
length_rules_in zero bs = refl
length_rules_in (suc n) bs = ap suc (length_rules_in n (behind bs))

-- at the end
after_suc : (n : ℕ) (bs : List ℕ) → after (suc n) bs ≡ behind (after n bs)
unfolding after
after_suc zero bs = refl
after_suc (suc n) bs = after_suc n (behind bs)

pub after_next : (n : ℕ) (bs : List ℕ) → after (n + 1) bs ≡ behind (after n bs)
after_next n bs = rw add-one (after_suc n bs)

rules_suc : (n : ℕ) (bs : List ℕ) → rules_in (suc n) bs ≡ rules_in n bs ++ (rule_in (body_at (after n bs)) ∷ [])
unfolding rules_in after
rules_suc zero bs = refl
rules_suc (suc n) bs = ap (λ (rs : List Rule). rule_in (body_at bs) ∷ rs) (rules_suc n (behind bs))

pub rules_in_next : (n : ℕ) (bs : List ℕ) → rules_in (n + 1) bs ≡ rules_in n bs ++ (rule_in (body_at (after n bs)) ∷ [])
rules_in_next n bs = rw add-one (rules_suc n bs)

-- at the head
pub rules_in_head : (n : ℕ) (bs : List ℕ) → 0 < n → rules_in n bs ≡ rule_in (body_at bs) ∷ rules_in (n - 1) (behind bs)
unfolding rules_in
rules_in_head zero bs l = absurd (omega arith)
rules_in_head (suc n) bs l = let e : suc n - 1 ≡ n = omega arith in rw e

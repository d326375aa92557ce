-- A stack of rows in an array, against the definition's, which has the newest first: its top in order, what is under it, one row more.
-- The array in order is the definition's stack backwards, so each is a seam of `++`.
use mathlib.Core.Path.{◌≡◌, refl, sym, ap, ◌∙◌}
use mathlib.Core.List.{List, [], ◌∷◌, ◌++◌, append_assoc}
use Prim.Native.Nat.{ℕ, suc, ◌+◌, ◌-◌, ◌≤◌, ◌<◌}
use native.Mathlib.Numerals.{add-one}
use native.Mathlib.Omega.{arith}
use lib.ListN.{length, get_or, take, drop, set, replicate, length-drop}
use lib.Seq.{length-take-le, take-suc, take-suc-set, take-add, set_at}
use Rattle.model.specs.Limits.{most_listed}
use Rattle.model.specs.Base.{backwards, top}
use Rattle.model.specs.Store.{padded}
use Rattle.model.proofs.Laws.Stack.{length_backwards}
use Rattle.model.proofs.Laws.Backwards.{backwards_append, top_onto, drop_onto}
use Rattle.bank_listed.specs.Listed.{stack_of}

module _ (st : List ℕ) (height count : ℕ) (high : height ≤ length st) (enough : count ≤ height) where
  parts : stack_of st height ≡ backwards (take count (drop (height - count) st)) (stack_of st (height - count))
  parts =
      let e : height - count + count ≡ height = omega arith in
      ap (λ (n : ℕ). backwards (take n st) []) (sym e) ∙ ap (λ (l : List ℕ). backwards l []) (take-add (height - count) count st) ∙
      backwards_append (take (height - count) st) (take count (drop (height - count) st)) []

  long : length (take count (drop (height - count) st)) ≡ count
  long = length-take-le count (drop (height - count) st) (rw length-drop (omega arith))

  pub stack_top : top count (stack_of st height) ≡ take count (drop (height - count) st)
  stack_top = ap (top count) parts ∙ top_onto (take count (drop (height - count) st)) (stack_of st (height - count)) count long

  pub stack_under : drop count (stack_of st height) ≡ stack_of st (height - count)
  stack_under = ap (drop count) parts ∙ drop_onto (take count (drop (height - count) st)) (stack_of st (height - count)) count long

  pub stack_push : (row : ℕ) → height - count < length st → stack_of (set st (height - count) row) (height - count + 1) ≡ row ∷ drop count (stack_of st height)
  unfolding backwards
  stack_push i h =
      ap (λ (n : ℕ). stack_of (set st (height - count) i) n) (add-one (height - count)) ∙
      ap (λ (l : List ℕ). backwards l []) (take-suc-set st (height - count) i h) ∙ backwards_append (take (height - count) st) (i ∷ []) [] ∙
      ap (λ (l : List ℕ). i ∷ l) (sym stack_under)

pub stack_length : (st : List ℕ) (height : ℕ) → height ≤ length st → length (stack_of st height) ≡ height
stack_length st height h = let r = length_backwards (take height st) [] in let l = length-take-le height st h in omega arith

-- one row stands there: the first
pub stack_one : (st : List ℕ) → 1 ≤ length st → stack_of st 1 ≡ get_or st 0 0 ∷ []
unfolding backwards
stack_one [] h = absurd (omega arith)
stack_one (i ∷ st) h = refl

-- what the methods of `Stack` say, by its value
module _ (st : List ℕ) (height : ℕ) {is : List ℕ} (e : stack_of st height ≡ is) (l : length st ≡ most_listed) (h : height ≤ most_listed) where
  pub stack_high : length is ≡ height
  stack_high = sym (ap length e) ∙ stack_length st height (omega (arith, l, h))

  pub stack_put : (count row : ℕ) → count ≤ length is → length is - count < most_listed → stack_of (set st (height - count) row) (height - count + 1) ≡ row ∷ drop count is
  stack_put count row c r =
      stack_push st height count (omega (arith, l, h)) (omega (arith, stack_high, c)) row (omega (arith, stack_high, l, r)) ∙ ap (λ (js : List ℕ). row ∷ drop count js) e

  pub stack_root : length is ≡ 1 → is ≡ get_or st 0 0 ∷ []
  stack_root o =
      let one : height ≡ 1 = omega (arith, stack_high, o) in
      sym e ∙ ap (stack_of st) one ∙ stack_one st (omega (arith, l))

-- CHILD PLACES, one after the other
pub places_more : (ks : List ℕ) (k : ℕ) → k < length ks → k < 4 → set (padded (take k ks)) k (get_or ks k 0) ≡ padded (take (k + 1) ks)
places_more ks k h l =
    let a : length (take k ks) ≡ k = length-take-le k ks (omega arith) in
    let b : 4 - length (take k ks) ≡ suc (4 - (k + 1)) = omega arith in
    let c : take (k + 1) ks ≡ take k ks ++ (get_or ks k 0 ∷ []) = ap (λ (n : ℕ). take n ks) (add-one k) ∙ take-suc ks k 0 h in
    let d : 4 - length (take (k + 1) ks) ≡ 4 - (k + 1) = ap (λ (n : ℕ). 4 - n) (length-take-le (k + 1) ks (omega arith)) in
    ap (λ (n : ℕ). set (take k ks ++ replicate n 0) k (get_or ks k 0)) b ∙ set_at (take k ks) 0 (replicate (4 - (k + 1)) 0) (get_or ks k 0) k a ∙
    sym (append_assoc (take k ks) (get_or ks k 0 ∷ []) (replicate (4 - (k + 1)) 0)) ∙ (λ t. sym c t ++ replicate (sym d t) 0)

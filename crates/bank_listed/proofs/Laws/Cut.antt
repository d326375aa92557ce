-- A size that is cut tells what callers want to know: the size itself up to 1,024, and whether it is more.
-- A sum cut once is the sum with its parts cut before, for a part past the cut takes the sum past it.
use mathlib.Core.Path.{◌≡◌, refl, sym, ◌∙◌}
use mathlib.Core.Bool.{Bool, true, false, cond}
use Prim.Native.Nat.{ℕ, ◌+◌, ◌≤◌, ◌<◌, min}
use native.Mathlib.Omega.{arith}
use lib.Dec.{leb}
use borrow.Author.Tests.{leb-true, leb-false, le-leb}
use Rattle.model.specs.Limits.{most_listed}
use Rattle.model.specs.Terms.{most_counted, cut}

-- up to the cut, and from it on
pub cut_low : (n : ℕ) → n ≤ most_counted → cut n ≡ n
cut_low n l = rw (le-leb n most_counted l)

pub cut_high : (n : ℕ) → most_counted ≤ n → cut n ≡ most_counted
cut_high n l = go (leb n most_counted) refl
  where
    go : (b : Bool) → leb n most_counted ≡ b → cond b n most_counted ≡ most_counted
    go true e = let h = leb-true n most_counted e in omega arith
    go false e = refl

pub cut_most : (n : ℕ) → cut n ≤ most_counted
cut_most n = go (leb n most_counted) refl
  where
    go : (b : Bool) → leb n most_counted ≡ b → cond b n most_counted ≤ most_counted
    go true e = leb-true n most_counted e
    go false e = omega arith

-- the cut size is the smaller of two
pub cut_least : (n : ℕ) → min n most_counted ≡ cut n
cut_least n = go (leb n most_counted) refl
  where
    go : (b : Bool) → leb n most_counted ≡ b → min n most_counted ≡ cond b n most_counted
    go true e = let h = leb-true n most_counted e in omega arith
    go false e = let h = leb-false n most_counted e in omega arith

-- WHAT IT TELLS: the size of a record that can be listed; else that it is larger, and only then
pub cut_same : (n : ℕ) → n ≤ most_listed → cut n ≡ n
cut_same n l = cut_low n (omega arith)

pub cut_larger : (n : ℕ) → most_listed < n → cut n ≡ most_counted
cut_larger n l = cut_high n (omega arith)

pub larger_cut : (n : ℕ) → cut n ≡ most_counted → most_listed < n
larger_cut n e = go (leb n most_counted) refl
  where
    go : (b : Bool) → leb n most_counted ≡ b → most_listed < n
    go true f = let h = cut_low n (leb-true n most_counted f) in omega arith
    go false f = let h = leb-false n most_counted f in omega arith

pub cut_tells : (n : ℕ) → cut n ≤ most_listed → cut n ≡ n
cut_tells n l = go (leb n most_counted) refl
  where
    go : (b : Bool) → leb n most_counted ≡ b → cut n ≡ n
    go true e = cut_low n (leb-true n most_counted e)
    go false e = let h = leb-false n most_counted e in let k = cut_high n (omega arith) in absurd (omega arith)

-- A PART CUT before the sum is
pub cut_part : (a b c : ℕ) → cut (a + (b + c)) ≡ cut (a + (cut b + c))
cut_part a b c = go (leb b most_counted) refl
  where
    go : (t : Bool) → leb b most_counted ≡ t → cut (a + (b + c)) ≡ cut (a + (cond t b most_counted + c))
    go true e = refl
    go false e = let h = leb-false b most_counted e in cut_high (a + (b + c)) (omega arith) ∙ sym (cut_high (a + (most_counted + c)) (omega arith))

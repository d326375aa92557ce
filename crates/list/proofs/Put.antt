-- Bytes put at places: one run behind another is the two as one, and at the beginning it is what stands over the rest.
-- By the seams of take and drop.
use mathlib.Core.Path.{◌≡◌, sym, ap, ◌∙◌}
use mathlib.Core.List.{List, ◌++◌, append_assoc}
use Prim.Native.Nat.{ℕ, ◌+◌, ◌≤◌}
use native.Mathlib.Omega.{arith}
use lib.ListN.{length, take, drop, length-append, length-drop}
use lib.Seq.{length-take-le, take_at, drop_at, drop-drop}
use Rattle.model.specs.Base.{over}
use Rattle.list.specs.Put.{put_at}

pub put_over : (new old : List ℕ) → put_at 0 new old ≡ over new old
put_over new old = let e : 0 + length new ≡ length new = omega arith in ap (λ (n : ℕ). new ++ drop n old) e

module _ (p : ℕ) (a old : List ℕ) (fits : p + length a ≤ length old) where
  head_long : length (take p old ++ a) ≡ p + length a
  head_long = let l = length-append (take p old) a in let t = length-take-le p old (omega arith) in omega arith

  pub put_length : length (put_at p a old) ≡ length old
  put_length =
      let h = head_long in
      let l = length-append (take p old ++ a) (drop (p + length a) old) in
      let d = length-drop (p + length a) old in
      omega arith

  pub put_put : (b : List ℕ) (q : ℕ) → q ≡ p + length a → put_at q b (put_at p a old) ≡ put_at p (a ++ b) old
  put_put b q is =
      let n : ℕ = p + length a in
      let now : List ℕ = put_at p a old in
      let t : take q now ≡ take p old ++ a = take_at (take p old ++ a) (drop n old) q (head_long ∙ sym is) in
      let d : drop q now ≡ drop n old = drop_at (take p old ++ a) (drop n old) q (head_long ∙ sym is) in
      let l = length-append a b in
      let e : n + length b ≡ p + length (a ++ b) = omega arith in
      let r : drop (q + length b) now ≡ drop (p + length (a ++ b)) old =
      sym (drop-drop (length b) q now) ∙ ap (drop (length b)) d ∙ drop-drop (length b) n old ∙ ap (λ (k : ℕ). drop k old) e in
      ap (λ (us : List ℕ). us ++ b ++ drop (q + length b) now) t ∙ ap (λ (us : List ℕ). take p old ++ a ++ b ++ us) r ∙
      ap (λ (us : List ℕ). us ++ drop (p + length (a ++ b)) old) (append_assoc (take p old) a b)

-- runs one behind the other, as calls leave them
pub put_two : (p q : ℕ) (a b o : List ℕ) {o₁ o₂ : List ℕ} → p + length a ≤ length o → q ≡ p + length a → o₁ ≡ put_at p a o → o₂ ≡ put_at q b o₁ → o₂ ≡ put_at p (a ++ b) o
put_two p q a b o fits is e f = f ∙ ap (put_at q b) e ∙ put_put p a o fits b q is

pub put_three : (p q r : ℕ) (a b d o : List ℕ) {o₁ o₂ o₃ : List ℕ} → p + length a + length b ≤ length o → q ≡ p + length a → r ≡ q + length b →
    o₁ ≡ put_at p a o → o₂ ≡ put_at q b o₁ → o₃ ≡ put_at r d o₂ → o₃ ≡ put_at p (a ++ b ++ d) o
put_three p q r a b d o fits is is' e f g =
    let l = length-append a b in
    put_two p r (a ++ b) d o (omega arith) (omega arith) (put_two p q a b o (omega arith) is e f) g

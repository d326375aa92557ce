-- Where the whole lines of an input end: behind its last newline. Newlines that come later move the place on, a byte of another kind does not, and
-- there the turns stop that have passed the end. By the clauses of `whole_from`, byte by byte, and because a newline ends each line that begins
-- before it.
use mathlib.Core.Path.{◌≡◌, refl, sym, ap, subst, ◌∙◌}
use mathlib.Core.Bool.{Bool, true, false, cond}
use mathlib.Core.List.{List, [], ◌∷◌, ◌++◌}
use Prim.Native.Nat.{ℕ, zero, suc, ◌+◌, ◌-◌, ◌≤◌, ◌<◌}
use native.Mathlib.Omega.{arith}
use lib.Dec.{eqb}
use borrow.Author.Tests.{eqb-true, eqb-false, eq-eqb, ne_eqb}
use lib.ListN.{length, get_or, take, drop, drop_of_length-le, length-drop, take-append-drop}
use lib.Seq.{length-take-le, take-take, get_or-drop, get_or-take}
use Rattle.model.proofs.Laws.Scans.{drop_next}
use Rattle.text.specs.Bytes.{newline}
use Rattle.text.specs.declared.Script.{Script}
use Rattle.script.specs.LineEnd.{line_length, line_end, whole_from}
use Rattle.script.specs.Turns.{Turns, begun, next, Reached}
use Rattle.script.proofs.Laws.{by_test}
use Rattle.script.proofs.Turns.{turns_kept}

pub whole_empty : 0 ≡ whole_from 0 0 []
unfolding whole_from
whole_empty = refl

pub whole_none : (bs : List ℕ) (i w : ℕ) → length bs ≤ i → whole_from i w (drop i bs) ≡ w
unfolding whole_from
whole_none bs i w l = ap (whole_from i w) (drop_of_length-le bs {i = i} l)

module _ (bs : List ℕ) (i w : ℕ) (l : i < length bs) where
  whole_next : whole_from i w (drop i bs) ≡ whole_from (i + 1) (cond (eqb (get_or bs i 0) newline) (i + 1) w) (drop (i + 1) bs)
  unfolding whole_from
  whole_next =
      let e : suc i ≡ i + 1 = omega arith in
      ap (whole_from i w) (drop_next bs i l) ∙ ap (λ (k : ℕ). whole_from k (cond (eqb (get_or bs i 0) newline) k w) (drop (i + 1) bs)) e

  pub whole_here : get_or bs i 0 ≡ newline → whole_from i w (drop i bs) ≡ whole_from (i + 1) (i + 1) (drop (i + 1) bs)
  whole_here e = whole_next ∙ ap (λ (t : Bool). whole_from (i + 1) (cond t (i + 1) w) (drop (i + 1) bs)) (eq-eqb (get_or bs i 0) newline e)

  pub whole_later : (get_or bs i 0 ≡ newline → ⊥) → whole_from i w (drop i bs) ≡ whole_from (i + 1) w (drop (i + 1) bs)
  whole_later e = whole_next ∙ ap (λ (t : Bool). whole_from (i + 1) (cond t (i + 1) w) (drop (i + 1) bs)) (ne_eqb (get_or bs i 0) newline e)

whole_append : (i w : ℕ) (xs ys : List ℕ) → whole_from i w (xs ++ ys) ≡ whole_from (i + length xs) (whole_from i w xs) ys
unfolding whole_from
whole_append i w [] ys = let e : i ≡ i + 0 = omega arith in ap (λ (k : ℕ). whole_from k w ys) e
whole_append i w (x ∷ xs) ys =
    let v : ℕ = cond (eqb x newline) (suc i) w in
    let e : suc i + length xs ≡ i + suc (length xs) = omega arith in
    whole_append (suc i) v xs ys ∙ ap (λ (k : ℕ). whole_from k (whole_from (suc i) v xs) ys) e

-- it moves on only, and stays within the bytes
pub whole_within : (i w : ℕ) (bs : List ℕ) → w ≤ i → (w ≤ whole_from i w bs) × (whole_from i w bs ≤ i + length bs)
unfolding whole_from
whole_within i w [] l = (omega arith, omega arith)
whole_within i w (b ∷ bs) l = go (eqb b newline) (λ v k. whole_within (suc i) v bs k)
  where
    go : (t : Bool) → ((v : ℕ) → v ≤ suc i → (v ≤ whole_from (suc i) v bs) × (whole_from (suc i) v bs ≤ suc i + length bs)) →
        (w ≤ whole_from (suc i) (cond t (suc i) w) bs) × (whole_from (suc i) (cond t (suc i) w) bs ≤ i + suc (length bs))
    go true f = let h = f (suc i) (omega arith) in (omega (arith, h.0), omega (arith, h.1))
    go false f = let h = f w (omega arith) in (omega (arith, h.0), omega (arith, h.1))

-- A NEWLINE comes before it
closed : (fuel : ℕ) (bs : List ℕ) (i w : ℕ) → i + fuel ≡ length bs → (0 < w → get_or bs (w - 1) 0 ≡ newline) →
    0 < whole_from i w (drop i bs) → get_or bs (whole_from i w (drop i bs) - 1) 0 ≡ newline
closed zero bs i w f h p =
    let e = whole_none bs i w (omega arith) in
    ap (λ (v : ℕ). get_or bs (v - 1) 0) e ∙ h (omega (arith, e))
closed (suc n) bs i w f h p =
    by_test (eqb (get_or bs i 0) newline)
    (λ t.
    let b = eqb-true (get_or bs i 0) newline t in
    let e = whole_here bs i w (omega arith) b in
    let k : i ≡ i + 1 - 1 = omega arith in
    ap (λ (v : ℕ). get_or bs (v - 1) 0) e ∙
    closed n bs (i + 1) (i + 1) (omega arith) (λ q. ap (λ (v : ℕ). get_or bs v 0) (sym k) ∙ b) (omega (arith, e, p)))
    (λ t.
    let e = whole_later bs i w (omega arith) (eqb-false (get_or bs i 0) newline t) in
    ap (λ (v : ℕ). get_or bs (v - 1) 0) e ∙ closed n bs (i + 1) w (omega arith) h (omega (arith, e, p)))

-- a newline ends each line that begins before it
length_newline : (bs : List ℕ) (k : ℕ) → k < length bs → get_or bs k 0 ≡ newline → line_length bs ≤ k
unfolding line_length
length_newline [] k l e = absurd (omega arith)
length_newline (b ∷ bs) zero l e = rw (eq-eqb b newline e) (omega arith)
length_newline (b ∷ bs) (suc k) l e = go (eqb b newline) (length_newline bs k (omega arith) e)
  where
    go : (t : Bool) → line_length bs ≤ k → cond t 0 (suc (line_length bs)) ≤ suc k
    go true h = omega arith
    go false h = omega arith

end_newline : (bs : List ℕ) (i k : ℕ) → i ≤ k → k < length bs → get_or bs k 0 ≡ newline → line_end bs i ≤ k
end_newline bs i k h l e =
    let d = length-drop i bs in
    let n : i + (k - i) ≡ k = omega arith in
    let o = length_newline (drop i bs) (k - i) (omega arith) (get_or-drop i bs (k - i) 0 ∙ ap (λ (j : ℕ). get_or bs j 0) n ∙ e) in
    omega arith

-- TURNS that have passed whole lines are just behind them
stop : (bs : List ℕ) {said ws : List ℕ} {z : Script} {at : ℕ} → (0 < length bs → get_or bs (length bs - 1) 0 ≡ newline) → Turns bs said ws z at →
    length bs ≤ at → at ≡ length bs
stop bs e begun l = omega arith
stop bs e (next {at = at} t k) l = let o = end_newline bs at (length bs - 1) (omega arith) (omega arith) (e (omega arith)) in omega arith

pub stop_whole : (bs : List ℕ) (end : ℕ) {ws : List ℕ} {z : Script} {at : ℕ} → end ≡ whole_from 0 0 bs → Reached (take end bs) ws z at →
    length (take end bs) ≤ at → at ≡ end
stop_whole bs end {at = at} e r l =
    let h = whole_within 0 0 bs (omega arith) in
    let n = length-take-le end bs (omega (arith, e, h.1)) in
    let q : 0 < end → get_or bs (end - 1) 0 ≡ newline =
    λ (p : 0 < end). ap (λ (v : ℕ). get_or bs (v - 1) 0) e ∙ closed (length bs) bs 0 0 (omega arith) (λ (o : 0 < 0). absurd (omega arith)) (omega (arith, e)) in
    let b : 0 < length (take end bs) → get_or (take end bs) (length (take end bs) - 1) 0 ≡ newline =
    λ (p : 0 < length (take end bs)).
    ap (λ (k : ℕ). get_or (take end bs) (k - 1) 0) n ∙ get_or-take end bs (end - 1) 0 (omega (arith, n)) ∙ q (omega (arith, n)) in
    stop (take end bs) b r.turns l ∙ n

-- MORE BYTES: the whole lines, from those known before
pub whole_more : (bs : List ℕ) (from at : ℕ) → from ≤ length bs → at ≡ whole_from 0 0 (take from bs) → whole_from from at (drop from bs) ≡ whole_from 0 0 bs
whole_more bs from at l e =
    let n = length-take-le from bs l in
    let f : from ≡ 0 + length (take from bs) = omega arith in
    (λ t. whole_from (f t) (e t) (drop from bs)) ∙
    sym (whole_append 0 0 (take from bs) (drop from bs)) ∙
    ap (whole_from 0 0) (take-append-drop from bs)

-- and the turns over them, where the bytes before the place have stayed
pub reached_more : (bs cs : List ℕ) (at end : ℕ) {ws : List ℕ} {z : Script} → at ≤ end → at ≤ length bs → take at cs ≡ take at bs →
    Reached (take at bs) ws z at → Reached (take end cs) ws z at
reached_more bs cs at end {ws} {z} l k e r =
    let n = length-take-le at bs k in
    let p : take at bs ++ drop at (take end cs) ≡ take end cs =
    ap (λ (xs : List ℕ). xs ++ drop at (take end cs)) (sym e ∙ sym (take-take at end cs l)) ∙ take-append-drop at (take end cs) in
    let t = turns_kept (take at bs) (drop at (take end cs)) r.said ws z at (omega arith) r.turns in
    record { said = r.said; turns = subst (λ (xs : List ℕ). Turns xs r.said ws z at) p t }

-- HOW FAR IT CAN BE ANSWERED: all of it if no more came
abbrev pub far : (bs : List ℕ) (at from : ℕ) → Bool → ℕ
far bs at from t = cond t from (whole_from from at (drop from bs))

pub ready_all : (bs : List ℕ) (at from : ℕ) → from ≡ length bs → from ≡ far bs at from (eqb from (length bs))
ready_all bs at from e = sym (ap (far bs at from) (eq-eqb from (length bs) e))

pub ready_lines : (bs : List ℕ) (at from : ℕ) → (from ≡ length bs → ⊥) → whole_from from at (drop from bs) ≡ far bs at from (eqb from (length bs))
ready_lines bs at from e = sym (ap (far bs at from) (ne_eqb from (length bs) e))

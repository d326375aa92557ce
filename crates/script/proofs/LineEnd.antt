-- An input cut at the ends of its lines gives the lines of the script: a line is what stands before its newline.
-- By induction on the bytes, with those of the line so far in front.
use mathlib.Core.Path.{◌≡◌, refl, ap, ◌∙◌}
use mathlib.Core.Bool.{Bool, true, false, cond}
use mathlib.Core.List.{List, [], ◌∷◌, ◌++◌, append_assoc}
use Prim.Native.Nat.{ℕ, suc, ◌+◌, ◌-◌, ◌<◌}
use native.Mathlib.Omega.{arith}
use lib.Dec.{eqb}
use lib.ListN.{length, take, drop, length-drop}
use lib.Seq.{drop-drop}
use Rattle.text.specs.Bytes.{newline}
use Rattle.text.specs.Script.{lines_from}
use Rattle.script.specs.LineEnd.{line_length, LinesCut}

-- the lines, of which so much of the first has been passed
abbrev cut : (passed bytes : List ℕ) → List (List ℕ)
cut ps bs = (ps ++ take (line_length bs) bs) ∷ lines_from [] (drop (suc (line_length bs)) bs)

pub append_nil : (ps : List ℕ) → ps ≡ ps ++ []
append_nil [] = refl
append_nil (p ∷ ps) = ap (λ (qs : List ℕ). p ∷ qs) (append_nil ps)

cut_next : (ps : List ℕ) (b : ℕ) (bs : List ℕ) → lines_from (ps ++ (b ∷ [])) bs ≡ cut (ps ++ (b ∷ [])) bs →
    cond (eqb b newline) (ps ∷ lines_from [] bs) (lines_from (ps ++ (b ∷ [])) bs) ≡ cut ps (b ∷ bs)
unfolding line_length
cut_next ps b bs h = go (eqb b newline)
  where
    go : (t : Bool) → cond t (ps ∷ lines_from [] bs) (lines_from (ps ++ (b ∷ [])) bs) ≡
        (ps ++ take (cond t 0 (suc (line_length bs))) (b ∷ bs)) ∷ lines_from [] (drop (suc (cond t 0 (suc (line_length bs)))) (b ∷ bs))
    go true = ap (λ (qs : List ℕ). qs ∷ lines_from [] bs) (append_nil ps)
    go false = h ∙ ap (λ (qs : List ℕ). qs ∷ lines_from [] (drop (suc (line_length bs)) bs)) (append_assoc ps (b ∷ []) (take (line_length bs) bs))

passed_cut : (p : ℕ) (ps bs : List ℕ) → lines_from (p ∷ ps) bs ≡ cut (p ∷ ps) bs
unfolding lines_from line_length
passed_cut p ps [] = ap (λ (qs : List ℕ). qs ∷ []) (append_nil (p ∷ ps))
passed_cut p ps (b ∷ bs) = cut_next (p ∷ ps) b bs (passed_cut p (ps ++ (b ∷ [])) bs)

first_cut : (bs : List ℕ) → 0 < length bs → lines_from [] bs ≡ cut [] bs
unfolding lines_from
first_cut [] l = absurd (omega arith)
first_cut (b ∷ bs) l = cut_next [] b bs (passed_cut b [] bs)

pub lines_cut : LinesCut
lines_cut bs at l =
    let n : ℕ = line_length (drop at bs) in
    let d = length-drop at bs in
    let e : n ≡ at + n - at = omega arith in
    let f : at + suc n ≡ at + n + 1 = omega arith in
    first_cut (drop at bs) (omega arith) ∙
    (λ t. take (e t) (drop at bs) ∷ lines_from [] ((drop-drop (suc n) at bs ∙ ap (λ (k : ℕ). drop k bs) f) t))

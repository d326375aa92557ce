-- A final byte for each of the first states: one more state is one more byte.
-- A representative's answer among the answers is the one in its words.
use mathlib.Core.Path.{◌≡◌, refl, sym, ap, ◌∙◌}
use mathlib.Core.Bool.{cond}
use mathlib.Core.List.{List, [], ◌∷◌, ◌++◌}
use Prim.Native.Nat.{ℕ, suc, ◌+◌, ◌<◌}
use native.Mathlib.Omega.{arith}
use lib.Dec.{eqb}
use lib.ListN.{length, get_or, set, take}
use lib.Seq.{take-suc, take-suc-set}
use Rattle.model.specs.Table.{finals_of}
use Rattle.model.specs.Entry.{answers_in}
use Rattle.bank.proofs.Laws.Words.{answer_in_law}
use Rattle.call_emit.specs.Proposal.{final_byte}

finals_append : (w xs ys : List ℕ) → finals_of w (xs ++ ys) ≡ finals_of w xs ++ finals_of w ys
finals_append w [] ys = refl
finals_append w (x ∷ xs) ys = ap (λ (l : List ℕ). finals_of w (x ∷ []) ++ l) (finals_append w xs ys)

pub finals_more : (ws : List ℕ) (u : ℕ) (s fs : List ℕ) (q v : ℕ) → q < length s → q < length fs → get_or s q 0 < u →
    take q fs ≡ finals_of (answers_in u ws) (take q s) → v ≡ final_byte ws (get_or s q 0) → take (q + 1) (set fs q v) ≡ finals_of (answers_in u ws) (take (q + 1) s)
finals_more ws u s fs q v l m h before e =
    let n : q + 1 ≡ suc q = omega arith in
    let a = answer_in_law u (get_or s q 0) ws h in
    let b : v ≡ cond (eqb (get_or (answers_in u ws) (get_or s q 0) 0) 2) 1 0 = e ∙ sym (ap (λ (k : ℕ). cond (eqb k 2) 1 0) a) in
    ap (λ (k : ℕ). take k (set fs q v)) n ∙ take-suc-set fs q v m ∙ (λ t. before t ++ (b t ∷ [])) ∙ sym (finals_append (answers_in u ws) (take q s) (get_or s q 0 ∷ [])) ∙
    sym (ap (finals_of (answers_in u ws)) (ap (λ (k : ℕ). take k s) n ∙ take-suc s q 0 l))

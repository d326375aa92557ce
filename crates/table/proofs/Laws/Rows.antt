-- A row of the table of answers: how long it is, its answers one by one, and what is left of it after some.
-- By the laws of take, drop and get_or: row k is the first m numbers from place `most_contexts * k` on.
use mathlib.Core.Path.{◌≡◌, sym, ap, ◌∙◌}
use mathlib.Core.List.{List, ◌∷◌}
use Prim.Native.Nat.{ℕ, suc, ◌+◌, ◌*◌, ◌≤◌, ◌<◌}
use native.Mathlib.Numerals.{add-one}
use native.Mathlib.Omega.{arith}
use lib.ListN.{length, get_or, drop, length-drop}
use lib.Seq.{get_or-take, get_or-drop, length-take-le, drop-cons}
use Rattle.model.specs.Limits.{most_contexts}
use Rattle.table.specs.Answers.{answers_at, Sized}

pub row_at : (tb : List ℕ) (m k j : ℕ) → j < m → get_or (answers_at tb m k) j 0 ≡ get_or tb (most_contexts * k + j) 0
row_at tb m k j l = get_or-take m (drop (most_contexts * k) tb) j 0 l ∙ get_or-drop (most_contexts * k) tb j 0

pub row_length : (tb : List ℕ) (m k : ℕ) → most_contexts * k + m ≤ length tb → length (answers_at tb m k) ≡ m
row_length tb m k h =
    length-take-le m (drop (most_contexts * k) tb) (let e = length-drop (most_contexts * k) tb in omega arith)

-- after the first j answers of a row
pub row_more : (tb : List ℕ) (m k j : ℕ) → most_contexts * k + m ≤ length tb → j < m → drop j (answers_at tb m k) ≡ get_or tb (most_contexts * k + j) 0 ∷ drop (j + 1) (answers_at tb m k)
row_more tb m k j h l =
    drop-cons (answers_at tb m k) j 0 (let e = row_length tb m k h in omega arith) ∙
    ap (λ (v : ℕ). v ∷ drop (suc j) (answers_at tb m k)) (row_at tb m k j l) ∙
    ap (λ (i : ℕ). get_or tb (most_contexts * k + j) 0 ∷ drop i (answers_at tb m k)) (sym (add-one j))

-- each row stands within the table; one that has room for n rows has room up to each of them
pub sized_to : {tb : List ℕ} {n m : ℕ} → Sized tb n m → (k : ℕ) → k < n → Sized tb (k + 1) m
sized_to z k l = record { long = omega arith; few_t = omega arith; few_c = z.few_c }

pub row_fits : (tb : List ℕ) (n m k : ℕ) → Sized tb n m → k < n → most_contexts * k + m ≤ length tb
row_fits tb n m k z l = omega arith

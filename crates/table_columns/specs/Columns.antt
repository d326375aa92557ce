-- Contexts, answers and the child with the hole, as the columns of answers read them.
use Rattle.std.specs.Prelude.{◌≡◌, true, List, ℕ, ◌-◌, ◌≤◌, ◌<◌, get_or}
use Rattle.model.specs.Store.{Store, is_context, kids_at}
use Rattle.bank.specs.Rows.{answer_in}
use Rattle.bank.specs.Index.{hole_of}

-- the child with the hole, by the mark of its place
abbrev pub hole_kid : Store → (index : List ℕ) → (row : ℕ) → ℕ
hole_kid x ix i = get_or (kids_at x i) (get_or ix (hole_of i) 0 - 1) 0

-- answers that T1 allows
abbrev pub Answered : (words : List ℕ) → (u : ℕ) → Type 0
Answered ws u = (i : ℕ) → i < u → answer_in ws i ≤ 2

-- the first n of a list are contexts; used rows
abbrev pub Contexts : Store → (rows : List ℕ) → (n : ℕ) → Type 0
Contexts x c n = (j : ℕ) → j < n → is_context x (get_or c j 0) ≡ true

abbrev pub Used : (u : ℕ) → (rows : List ℕ) → (n : ℕ) → Type 0
Used u t n = (k : ℕ) → k < n → get_or t k 0 < u

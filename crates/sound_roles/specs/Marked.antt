-- Records and contexts by the marks of holes, and the lists of a run tested by them.
use Rattle.std.specs.Prelude.{Bool, ◌&&◌, not, List, ℕ, ◌+◌, ltb, leb, eqb, length, get_or}
use Rattle.model.specs.Base.{all, no_repeats}
use Rattle.bank_t1.specs.Pass.{hole_by}

abbrev pub record_by : (index : List ℕ) → (used row : ℕ) → Bool
record_by ix u i = ltb i u && not (hole_by ix i)

abbrev pub context_by : (index : List ℕ) → (used row : ℕ) → Bool
context_by ix u i = ltb i u && hole_by ix i

abbrev pub records_by : (index : List ℕ) → (used : ℕ) → (rows : List ℕ) → Bool
records_by ix u = all (record_by ix u)

abbrev pub contexts_by : (index : List ℕ) → (used : ℕ) → (rows : List ℕ) → Bool
contexts_by ix u = all (context_by ix u)

-- T4's first clauses, as contexts_fit has them
abbrev pub contexts_fit_by : (index : List ℕ) → (used size : ℕ) → (contexts : List ℕ) → Bool
contexts_fit_by ix u n c =
    ltb 0 (length c) && eqb (get_or c 0 1) 0 && contexts_by ix u c && no_repeats c && leb (length c) (1 + n)

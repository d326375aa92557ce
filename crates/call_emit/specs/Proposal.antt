-- The proposed automaton as bytes: a final byte for each state, six bytes for each rule.
use Rattle.std.specs.Prelude.{◌≡◌, cond, List, ℕ, ◌+◌, ◌*◌, ◌<◌, leb, eqb, length, get_or, drop}
use Rattle.model.specs.Limits.{most_rules}
use Rattle.model.specs.Base.{In, Each, over}
use Rattle.model.specs.Store.{Store, used, kids_at}
use Rattle.model.specs.Listing.{Sheet, emitted}
use Rattle.model.specs.declared.Emitted.{Emitted}
use Rattle.bank.specs.Rows.{answer_in}
use Rattle.table_verdict.specs.Rules.{rule_by}
use Rattle.list.specs.Flat.{rule_width, flat_rule}

-- 1 for a state that is final, by its representative
abbrev pub final_byte : (words : List ℕ) → (rep : ℕ) → ℕ
final_byte ws i = cond (eqb (answer_in ws i) 2) 1 0

-- a row whose rule has bytes: its children and its representative are in S
pub record Transition (x : Store) (s reps : List ℕ) (row : ℕ) : Type 0 where
  pub some : 0 < row
  pub within : row < used x
  pub kids : Each (λ (k : ℕ). In k s) (kids_at x row)
  pub target : In (get_or reps row 0) s

-- the first n rules, six bytes each
pub record Flat (x : Store) (s t reps : List ℕ) (n : ℕ) (flat : List ℕ) : Type 0 where
  pub long : length flat ≡ rule_width * most_rules
  pub rule : (k : ℕ) → k < n → flat_rule x.counts (drop (rule_width * k) flat) ≡ rule_by x s reps (get_or t k 0)

-- the six bytes at a place, the others as they were
pub record SixAt (flat : List ℕ) (at : ℕ) (bytes after : List ℕ) : Type 0 where
  pub long : length after ≡ length flat
  pub here : (j : ℕ) → j < rule_width → get_or after (at + j) 0 ≡ get_or bytes j 0
  pub before : (j : ℕ) → j < at → get_or after j 0 ≡ get_or flat j 0

-- the list of a sheet put into an output: 20 and nothing where it does not fit
abbrev pub listed_seen : Sheet → (out : List ℕ) → Emitted
listed_seen a o =
    cond (leb (length (emitted a)) (length o)) (record { number = 0; size = length (emitted a) }) (record { number = 20; size = 0 })

abbrev pub listed_out : Sheet → (out : List ℕ) → List ℕ
listed_out a o = cond (leb (length (emitted a)) (length o)) (over (emitted a) o) o

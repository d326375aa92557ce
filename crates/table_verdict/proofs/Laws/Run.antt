-- The run on a listed record, with its stack of representatives: each symbol finds the next over the topmost ones, or the run stops there.
-- The rest parses with as many trees ready as the stack is high, so what is read of the stack is there.
use mathlib.Core.Path.{◌≡◌, refl, sym, ap, subst, ◌∙◌}
use mathlib.Core.Bool.{Bool, cond}
use mathlib.Core.List.{List, [], ◌∷◌}
use Prim.Native.Nat.{ℕ, suc, ◌+◌, ◌-◌, ◌≤◌, ◌<◌}
use native.Mathlib.Numerals.{add-one}
use native.Mathlib.Omega.{arith}
use lib.ListN.{length, get_or, drop, length-drop, drop_of_length-le}
use borrow.Author.Tests.{eq-eqb, ne_eqb}
use Rattle.model.specs.Limits.{most_listed}
use Rattle.model.specs.Base.{top}
use Rattle.model.specs.Store.{Store, count_of, padded, find_places, find_row}
use Rattle.model.specs.Facts.{Parses, parsed}
use Rattle.model.proofs.Laws.Scans.{drop_next}
use Rattle.model.proofs.Laws.Listed.{parts}
use Rattle.table_verdict.specs.Rules.{go_on_by, run_by}
use Rattle.std.specs.Prelude.{Result, Ok, Err}
use Rattle.model.specs.declared.Row.{Row}

-- BEFORE A SYMBOL, with the representatives on the stack
pub record Running (counts xs is : List ℕ) (at : ℕ) : Type 0 where
  pub parses : Parses counts (length is) (drop at xs)
  pub low : length is ≤ at
  pub within : at ≤ length xs
  pub few : length xs ≤ most_listed

-- what is left of the run
abbrev pub left : Store → (reps xs is : List ℕ) → (at : ℕ) → Result Row ℕ
left x reps xs is at = run_by x reps at (drop at xs) is

pub running_start : (counts xs : List ℕ) → Parses counts 0 xs → length xs ≤ most_listed → Running counts xs [] 0
running_start ns xs p f = record { parses = p; low = omega arith; within = omega arith; few = f }

one_left : {ns : List ℕ} {k : ℕ} → Parses ns k [] → k ≡ 1
one_left parsed = refl

module _ {ns xs is : List ℕ} {at : ℕ} (r : Running ns xs is at) where
  -- THE NEXT SYMBOL and its count
  module _ (more : at < length xs) where
    abbrev symbol : ℕ
    symbol = get_or xs at 0

    abbrev count : ℕ
    count = get_or ns symbol 0

    next : (symbol < length ns) × (count ≤ length is) × Parses ns (length is - count + 1) (drop (at + 1) xs)
    next = parts (subst (Parses ns (length is)) (drop_next xs at more) r.parses)

    pub known : get_or xs at 0 < length ns
    known = next.0

    pub enough : get_or ns (get_or xs at 0) 0 ≤ length is
    enough = next.1

    pub room : length is - get_or ns (get_or xs at 0) 0 < most_listed
    room = omega (arith, r.low, r.few)

    pub pushed : (k : ℕ) → Running ns xs (k ∷ drop (get_or ns (get_or xs at 0) 0) is) (at + 1)
    pushed k =
        let l = length-drop count is in
        let n : length (k ∷ drop count is) ≡ length is - count + 1 = omega (arith, l) in
        record {
          parses = subst (λ (h : ℕ). Parses ns h (drop (at + 1) xs)) (sym n) next.2;
          low = omega (arith, n, r.low, enough);
          within = omega arith;
          few = r.few;
        }

  -- THE END: one representative alone
  module _ (done : length xs ≤ at) where
    none_left : drop at xs ≡ []
    none_left = drop_of_length-le xs done

    pub alone : length is ≡ 1
    alone = one_left (subst (Parses ns (length is)) none_left r.parses)

    pub run_ends : (x : Store) (reps : List ℕ) {k : ℕ} → is ≡ k ∷ [] → left x reps xs is at ≡ Ok (record { 0 = k })
    unfolding run_by
    run_ends x reps last = λ t. run_by x reps at (none_left t) (last t)

module _ (x : Store) (reps : List ℕ) {xs is : List ℕ} {at : ℕ} (r : Running x.counts xs is at) (more : at < length xs) where
  abbrev letter : ℕ
  letter = get_or xs at 0

  abbrev n : ℕ
  n = count_of x letter

  abbrev found : ℕ
  found = get_or reps (find_row x letter (top n is)) 0

  abbrev onward : ℕ → Result Row ℕ
  onward k = run_by x reps (suc at) (drop (at + 1) xs) (k ∷ drop n is)

  run_next : left x reps xs is at ≡ go_on_by at found onward
  unfolding run_by
  run_next = ap (λ (l : List ℕ). run_by x reps at l is) (drop_next xs at more)

  -- WHAT IS FOUND by the places of the topmost representatives: nothing, and the run stops; or the next representative
  module _ (k : ℕ) (ps : List ℕ) (its : k ≡ get_or reps (find_places x (get_or xs at 0) ps) 0) (are : ps ≡ padded (top (count_of x (get_or xs at 0)) is)) where
    goes : left x reps xs is at ≡ go_on_by at k onward
    goes = run_next ∙ ap (λ (j : ℕ). go_on_by at j onward) (sym (its ∙ ap (λ (qs : List ℕ). get_or reps (find_places x letter qs) 0) are))

    pub run_stuck : k ≡ 0 → left x reps xs is at ≡ Err at
    run_stuck z = goes ∙ ap (λ (b : Bool). cond b (Err at) (onward k)) (eq-eqb k 0 z)

    pub run_on : (k ≡ 0 → ⊥) → left x reps xs is at ≡ left x reps xs (k ∷ drop (count_of x (get_or xs at 0)) is) (at + 1)
    run_on z =
        goes ∙ ap (λ (b : Bool). cond b (Err at) (onward k)) (ne_eqb k 0 z) ∙
        (λ i. run_by x reps (sym (add-one at) i) (drop (at + 1) xs) (k ∷ drop n is))

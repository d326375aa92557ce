-- A listed record read symbol by symbol, with the rows of its trees so far on a stack: what each symbol's row is asked with, and what is left to read.
-- The rest parses with as many trees ready as the stack is high, and each row there is a record, so model's laws of one symbol apply.
use mathlib.Core.Path.{◌≡◌, refl, sym, ap, subst, ◌∙◌}
use mathlib.Core.Bool.{cond}
use mathlib.Core.List.{List, [], ◌∷◌}
use Prim.Native.Nat.{ℕ, ◌+◌, ◌-◌, ◌≤◌, ◌<◌}
use native.Mathlib.Numerals.{add-one}
use native.Mathlib.Omega.{arith}
use lib.Dec.{eqb}
use borrow.Author.Tests.{eq-eqb, ne_eqb}
use lib.ListN.{length, get_or, take, drop, length-append, length-replicate, drop_of_length-le}
use lib.Seq.{drop-cons}
use Rattle.model.specs.Limits.{most_listed}
use Rattle.model.specs.Base.{Each, each_nil, each_cons, top}
use Rattle.model.specs.Store.{Store, Built, full, built, Extends, padded, count_of, has_hole, find_row, row_for, then_build}
use Rattle.model.specs.Terms.{store_from, known_from}
use Rattle.model.specs.Facts.{Good, IsRecord, Parses, parsed, RowAsked}
use Rattle.model.proofs.Laws.Stack.{each_backwards, each_take}
use Rattle.model.proofs.Laws.Rows.{unpad}
use Rattle.model.proofs.Laws.Listed.{kids_ask, symbol_row, stack_next as after_symbol, parts}
use Rattle.bank.specs.Bank.{place_code}
use Rattle.bank_fill.specs.Adding.{kids_of, PlacesAsked}

pub record Reading (x : Store) (xs is : List ℕ) (at : ℕ) : Type 0 where
  pub good : Good x
  pub parses : Parses x.counts (length is) (drop at xs)
  pub records : Each (IsRecord x) is
  pub low : length is ≤ at
  pub within : at ≤ length xs
  pub few : length xs ≤ most_listed

-- THE NEXT SYMBOL, its count, and its children on the stack
abbrev pub symbol_next : (xs : List ℕ) → (at : ℕ) → ℕ
symbol_next xs at = get_or xs at 0

abbrev pub count_next : Store → (xs : List ℕ) → (at : ℕ) → ℕ
count_next x xs at = count_of x (symbol_next xs at)

abbrev pub kids_next : Store → (xs is : List ℕ) → (at : ℕ) → List ℕ
kids_next x xs is at = top (count_next x xs at) is

-- the stack with a row in its children's place
abbrev pub stack_next : Store → (xs is : List ℕ) → (at row : ℕ) → List ℕ
stack_next x xs is at j = j ∷ drop (count_next x xs at) is

one_left : {ns : List ℕ} {k : ℕ} → Parses ns k [] → k ≡ 1
one_left parsed = refl

no_hole : (x : Store) {ks : List ℕ} → Each (IsRecord x) ks → place_code (has_hole x) ks ≡ 0
unfolding place_code
no_hole x each_nil = refl
no_hole x (each_cons p ps) = rw (p.clear, no_hole x ps)

module _ {x : Store} {xs is : List ℕ} {at : ℕ} (r : Reading x xs is at) where
  module _ (more : at < length xs) where
    left : drop at xs ≡ symbol_next xs at ∷ drop (at + 1) xs
    left = drop-cons xs at 0 more ∙ ap (λ (n : ℕ). symbol_next xs at ∷ drop n xs) (sym (add-one at))

    next : (symbol_next xs at < length x.counts) × (count_next x xs at ≤ length is) × Parses x.counts (length is - count_next x xs at + 1) (drop (at + 1) xs)
    next = parts (subst (Parses x.counts (length is)) left r.parses)

    pub known : symbol_next xs at < length x.counts
    known = next.0

    pub enough : count_next x xs at ≤ length is
    enough = next.1

    pub room : length is - count_next x xs at < most_listed
    room = omega (arith, r.low, r.few)

    pub asked : RowAsked x (symbol_next xs at) (kids_next x xs is at)
    asked = kids_ask x r.good (symbol_next xs at) is r.records known enough

    pub kids_back : kids_of x.counts (symbol_next xs at) (padded (kids_next x xs is at)) ≡ kids_next x xs is at
    kids_back = unpad (kids_next x xs is at) (count_next x xs at) asked.arity

    pub places_asked : PlacesAsked x (symbol_next xs at) (padded (kids_next x xs is at)) 0
    places_asked =
        let w = r.good.wide (symbol_next xs at) in
        let l = asked.arity in
        record {
          four = simp (length-append, length-replicate) (omega arith);
          asked = rw kids_back asked;
          unused = ap padded (sym kids_back);
          hole_place = rw kids_back (sym (no_hole x (each_backwards (take (count_next x xs at) is) [] (each_take (count_next x xs at) is r.records) each_nil)));
        }

    -- its row on the stack in its children's place
    pub pushed : (j : ℕ) (y : Store) → row_for x (symbol_next xs at) (kids_next x xs is at) ≡ built j y →
        Extends x y × Reading y xs (stack_next x xs is at j) (at + 1)
    pushed j y e =
        let w = symbol_row x r.good (symbol_next xs at) is r.records known enough j y e in
        let n = after_symbol x r.good (symbol_next xs at) is r.records known enough (length is) refl (drop (at + 1) xs) next.2 j y e in (
          w.0.ext,
          record {
            good = w.0.good;
            parses = subst (λ (k : ℕ). Parses y.counts k (drop (at + 1) xs)) (sym n.1) n.2;
            records = n.0;
            low = omega (arith, n.1, r.low, enough);
            within = omega arith;
            few = r.few;
          },
        )

    -- WHAT IS LEFT to store
    store_next : store_from x (drop at xs) is ≡
        then_build (row_for x (symbol_next xs at) (kids_next x xs is at)) (λ (j : ℕ) (y : Store). store_from y (drop (at + 1) xs) (stack_next x xs is at j))
    unfolding store_from
    store_next = ap (λ (l : List ℕ). store_from x l is) left

    pub store_full : row_for x (symbol_next xs at) (kids_next x xs is at) ≡ full → store_from x (drop at xs) is ≡ full
    store_full e = store_next ∙ ap (λ (b : Built). then_build b (λ (j : ℕ) (y : Store). store_from y (drop (at + 1) xs) (stack_next x xs is at j))) e

    pub store_built : (j : ℕ) (y : Store) → row_for x (symbol_next xs at) (kids_next x xs is at) ≡ built j y →
        store_from x (drop at xs) is ≡ store_from y (drop (at + 1) xs) (stack_next x xs is at j)
    store_built j y e = store_next ∙ ap (λ (b : Built). then_build b (λ (j : ℕ) (y : Store). store_from y (drop (at + 1) xs) (stack_next x xs is at j))) e

    -- and to find
    known_next : known_from x (drop at xs) is ≡
        cond (eqb (find_row x (symbol_next xs at) (kids_next x xs is at)) 0) 0
        (known_from x (drop (at + 1) xs) (stack_next x xs is at (find_row x (symbol_next xs at) (kids_next x xs is at))))
    unfolding known_from
    known_next = ap (λ (l : List ℕ). known_from x l is) left

    pub known_none : find_row x (symbol_next xs at) (kids_next x xs is at) ≡ 0 → known_from x (drop at xs) is ≡ 0
    known_none e = known_next ∙ rw (eq-eqb (find_row x (symbol_next xs at) (kids_next x xs is at)) 0 e)

    pub known_found : (j : ℕ) → j ≡ find_row x (symbol_next xs at) (kids_next x xs is at) → (j ≡ 0 → ⊥) →
        known_from x (drop at xs) is ≡ known_from x (drop (at + 1) xs) (stack_next x xs is at j)
    known_found j e n =
        known_next ∙ ap (λ (i : ℕ). cond (eqb i 0) 0 (known_from x (drop (at + 1) xs) (stack_next x xs is at i))) (sym e) ∙ rw (ne_eqb j 0 n)

    pub found : (j : ℕ) → j ≡ find_row x (symbol_next xs at) (kids_next x xs is at) → (j ≡ 0 → ⊥) → row_for x (symbol_next xs at) (kids_next x xs is at) ≡ built j x
    found j e n = rw (← e, ne_eqb j 0 n)

  -- THE END: the record's row alone
  module _ (done : length xs ≤ at) where
    none_left : drop at xs ≡ []
    none_left = drop_of_length-le xs done

    pub alone : length is ≡ 1
    alone = one_left (subst (Parses x.counts (length is)) none_left r.parses)

    module _ {i : ℕ} (last : is ≡ i ∷ []) where
      pub store_end : store_from x (drop at xs) is ≡ built i x
      unfolding store_from
      store_end = λ t. store_from x (none_left t) (last t)

      pub known_end : known_from x (drop at xs) is ≡ i
      unfolding known_from
      known_end = λ t. known_from x (none_left t) (last t)

-- THE START: nothing read, the stack empty
pub reading_start : (x : Store) (xs : List ℕ) → Good x → Parses x.counts 0 xs → length xs ≤ most_listed → Reading x xs [] 0
reading_start x xs g p f = record { good = g; parses = p; records = each_nil; low = omega arith; within = omega arith; few = f }

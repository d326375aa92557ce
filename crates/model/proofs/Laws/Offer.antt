-- An offer taken: its rows and its mark leave the proposal as it was, and it is a record that the proposal gets wrong.
-- No answer of T at C is missing, so none changes; the stored row has the state that the symbols have.
use mathlib.Core.Path.{◌≡◌, refl, sym, ap, ◌∙◌}
use mathlib.Core.Logic.{◌≢◌, ◌⊎◌, inl, inr}
use mathlib.Core.Bool.{true≢false, false, not}
use mathlib.Core.List.{List, []}
use mathlib.Core.Option.{Option, none, some}
use Prim.Native.Nat.{ℕ, ◌-◌, ◌≤◌, ◌<◌}
use native.Mathlib.Omega.{arith}
use native.Mathlib.Decide.{ℕ_discrete}
use lib.Dec.{eqb}
use lib.ListN.{get_or, set, length-set, get_or-eq_default, length}
use lib.Seq.{get_or-set_same, get_or-set_other}
use Rattle.model.specs.Base.{In, each_nil}
use Rattle.model.specs.Store.{has_hole, Store, built, filled_row, frames_of, used}
use Rattle.model.specs.Terms.{eval_from, known_from, store_from}
use Rattle.model.specs.Automata.{is_final, Rule, led_by, row_state, states_of}
use Rattle.model.specs.Table.{Tables, answer_in, answers_of, rules_of, tables}
use Rattle.model.specs.Steps.{blanked, search, searched}
use Rattle.model.specs.Facts.{IsRecord, Parses}
use Rattle.model.specs.TableFacts.{Few, Tidy, Core, HandFits, Held, Whole, proposed_state, proposed_verdict}
use Rattle.model.proofs.Laws.Fill.{ext_refl}
use Rattle.model.proofs.Laws.Listed.{Stored, stored, known_or_new}
use Rattle.model.proofs.Laws.Proposal.{finals_same}
use Rattle.model.proofs.Laws.Flags.{tidy_with}
use Rattle.model.proofs.Laws.Settle.{past, keeps_blanked, blank_keeps}
use Rattle.model.proofs.Laws.Unchanged.{full_of, held_same, shaped_same, rules_kept, stored_whole, stored_rules}
use Rattle.model.proofs.Laws.Advance.{HandOk, hand_ok}

-- A MARK at a row: the others keep their answers, and all stay small
pub marked_bound : (w : List ℕ) (i v : ℕ) → i < length w → v ≤ 2 → ((n : ℕ) → get_or w n 0 ≤ 2) → (n : ℕ) → get_or (set w i v) n 0 ≤ 2
marked_bound w i v u l b n = go (ℕ_discrete n i)
  where
    go : Dec (n ≡ i) → get_or (set w i v) n 0 ≤ 2
    go (yes p) = rw (p, get_or-set_same w i v 0 u) l
    go (no d) = rw (get_or-set_other w i n v 0 d) (b n)

-- A MARK on a record that had none, or that one
module _ (x : Tables) (f : Whole x) (i : ℕ) (r : IsRecord x.store i) (v : ℕ) (some-mark : v ≢ 0) (small-mark : v ≤ 2) (was : (get_or x.answers i 0 ≡ 0) ⊎ (get_or x.answers i 0 ≡ v)) (hand : ℕ) where
  abbrev marked : List ℕ
  marked = set x.answers i v

  k : Core x
  k = f.core

  at_i : get_or marked i 0 ≡ v
  at_i = let u = r.within in let l = k.counted in get_or-set_same x.answers i v 0 (omega arith)

  off_i : (n : ℕ) → n ≢ i → get_or marked n 0 ≡ get_or x.answers n 0
  off_i n d = get_or-set_other x.answers i n v 0 d

  keeps : (n : ℕ) → get_or x.answers n 0 ≢ 0 → get_or marked n 0 ≡ get_or x.answers n 0
  keeps n z = go (ℕ_discrete n i)
    where
      at : n ≡ i → (get_or x.answers i 0 ≡ 0) ⊎ (get_or x.answers i 0 ≡ v) → get_or marked n 0 ≡ get_or x.answers n 0
      at p (inl q) = absurd (z (ap (λ (m : ℕ). get_or x.answers m 0) p ∙ q))
      at p (inr q) = ap (λ (m : ℕ). get_or marked m 0) p ∙ at_i ∙ sym q ∙ ap (λ (m : ℕ). get_or x.answers m 0) (sym p)

      go : Dec (n ≡ i) → get_or marked n 0 ≡ get_or x.answers n 0
      go (no d) = off_i n d
      go (yes p) = at p was

  same_at : (j c : ℕ) → In j x.t → In c x.c → answer_in x.store marked c j ≡ answer_in x.store x.answers c j
  same_at j c a b = keeps (filled_row x.store (frames_of x.store c) j) (f.known j c a b)

  pub told_held : Held x.store marked x.s x.t x.c
  told_held = held_same x.store x.store k.good k.good (ext_refl x.store) x.answers marked x.s x.t x.c k.held same_at (λ n q. q) (λ n q. q)

  pub told_whole : Whole (tables x.store marked x.s x.t x.c hand 0 false)
  told_whole =
      record {
        core =
            record {
              good = k.good;
              counted = length-set x.answers i v ∙ k.counted;
              first = (let z = r.some in off_i 0 (λ p. omega arith)) ∙ k.first;
              bound = let u = r.within in let l = k.counted in marked_bound x.answers i v (omega arith) small-mark k.bound;
              held = told_held;
            };
        known = λ j c a b z. f.known j c a b (sym (same_at j c a b) ∙ z);
        shaped = shaped_same x.store x.store k.good k.good (ext_refl x.store) x.answers marked x.s x.t x.c k.held same_at (λ n q. q) (λ n q. q) f.shaped;
        hole_in = f.hole_in;
      }

  pub told_tidy : Tidy x → Tidy (tables x.store marked x.s x.t x.c hand 0 false)
  told_tidy d = tidy_with x d x.store marked refl (λ n u h. off_i n (λ p. true≢false (sym h ∙ ap (has_hole x.store) p ∙ r.clear)) ∙ d.blank n u h) hand 0 false

  pub told_state : (n : ℕ) → proposed_state x.store marked x.s x.t x.c n ≡ proposed_state x.store x.answers x.s x.t x.c n
  told_state n =
      ap (λ (ds : List Rule). row_state ds x.store n)
      (rules_kept x.store x.store k.good k.good (ext_refl x.store) x.answers marked x.s x.t x.c k.held same_at (λ n q. q) (λ n q. q))

-- AN OFFER: 11 to 15, 32 and 33 not given, and the rows found room
module _ (x : Tables) (f : Whole x) (xs : List ℕ) (ps : Parses x.store.counts 0 xs) (v : ℕ) (some-mark : v ≢ 0) (small-mark : v ≤ 2)
    (agrees : (get_or x.answers (known_from x.store xs []) 0 ≡ 0) ⊎ (get_or x.answers (known_from x.store xs []) 0 ≡ v))
    (other_verdict : proposed_verdict x.store x.answers x.s x.t x.c
    (eval_from (λ (a : ℕ) (qs : List (Option ℕ)). led_by (rules_of x.store (answers_of x.store x.answers x.c) x.s x.t) a (states_of qs)) none x.store.counts xs []) ≡ not (eqb v 2))
    (i : ℕ) (y : Store) (e : store_from x.store xs [] ≡ built i y) where
  put : Stored x.store xs [] i y
  put = stored xs x.store f.core.good 0 [] each_nil refl ps i y e

  abbrev blank_answers : List ℕ
  blank_answers = blanked x.store y x.answers

  -- the stored answer is the one that 33 looked at
  pub its_answer : get_or blank_answers i 0 ≡ get_or x.answers (known_from x.store xs []) 0
  its_answer = past x.answers (used y - used x.store) i ∙ go (known_or_new xs x.store f.core.good 0 [] each_nil refl ps i y e)
    where
      go : ((y ≡ x.store) × (i ≡ known_from x.store xs [])) ⊎ ((known_from x.store xs [] ≡ 0) × (used x.store ≤ i)) → get_or x.answers i 0 ≡ get_or x.answers (known_from x.store xs []) 0
      go (inl p) = ap (λ (n : ℕ). get_or x.answers n 0) p.1
      go (inr p) =
          let l = f.core.counted in
          let u = p.1 in
          get_or-eq_default x.answers 0 (omega arith) ∙ sym f.core.first ∙ ap (λ (n : ℕ). get_or x.answers n 0) (sym p.0)

  abbrev stored_tables : Tables
  stored_tables = tables y blank_answers x.s x.t x.c i 0 false

  stored_is_whole : Whole stored_tables
  stored_is_whole = stored_whole x f y put.good put.ext i

  its_mark : (get_or blank_answers i 0 ≡ 0) ⊎ (get_or blank_answers i 0 ≡ v)
  its_mark = go agrees
    where
      go : (get_or x.answers (known_from x.store xs []) 0 ≡ 0) ⊎ (get_or x.answers (known_from x.store xs []) 0 ≡ v) → (get_or blank_answers i 0 ≡ 0) ⊎ (get_or blank_answers i 0 ≡ v)
      go (inl p) = inl (its_answer ∙ p)
      go (inr p) = inr (its_answer ∙ p)

  abbrev offer_tables : Tables
  offer_tables = tables y (set blank_answers i v) x.s x.t x.c i 0 false

  pub offer_whole : Whole offer_tables
  offer_whole = told_whole stored_tables stored_is_whole i put.is_record_law v some-mark small-mark its_mark i

  abbrev algebra : ℕ → List (Option ℕ) → Option ℕ
  algebra a qs = led_by (rules_of x.store (answers_of x.store x.answers x.c) x.s x.t) a (states_of qs)

  pub its_state : proposed_state y (set blank_answers i v) x.s x.t x.c i ≡ eval_from algebra none x.store.counts xs []
  its_state =
      told_state stored_tables stored_is_whole i put.is_record_law v some-mark small-mark its_mark i i ∙ ap (λ (ds : List Rule). row_state ds y i) (stored_rules x f y put.good put.ext i) ∙ put.value algebra none

  at_rep : (n : ℕ) → In n x.s → get_or (set blank_answers i v) n 0 ≡ get_or x.answers n 0
  at_rep n a =
      let p = past x.answers (used y - used x.store) n in
      keeps stored_tables stored_is_whole i put.is_record_law v some-mark small-mark its_mark i n (λ z. (full_of x f).known n a (sym p ∙ z)) ∙ p

  verdict_same : (o : Option ℕ) → proposed_verdict y (set blank_answers i v) x.s x.t x.c o ≡ proposed_verdict x.store x.answers x.s x.t x.c o
  verdict_same o = ap (λ (fs : List ℕ). is_final fs o) (finals_same x.answers (set blank_answers i v) x.s at_rep)

  pub offer_fits : HandFits y (set blank_answers i v) x.s x.t x.c i
  offer_fits =
      let a = at_i stored_tables stored_is_whole i put.is_record_law v some-mark small-mark its_mark i in
      record {
        record_row = put.is_record_law;
        known = λ z. some-mark (sym a ∙ z);
        small = rw a small-mark;
        against_it = ap (proposed_verdict y (set blank_answers i v) x.s x.t x.c) its_state ∙ verdict_same (eval_from algebra none x.store.counts xs []) ∙ other_verdict ∙ ap (λ (n : ℕ). not (eqb n 2)) (sym a);
      }

  pub offer_tidy : Tidy x → Tidy offer_tables
  offer_tidy d =
      told_tidy stored_tables stored_is_whole i put.is_record_law v some-mark small-mark its_mark i
      (tidy_with x d y blank_answers put.ext.counts (blank_keeps x stored_tables f.core (keeps_blanked x y put.ext x.s x.t x.c i 0) d.blank) i 0 false)

  -- an offer that is taken ends in one of the three ways
  pub offer_ok : Tidy x → Few x → HandOk offer_tables (searched offer_tables (search y (set blank_answers i v) x.s x.t x.c i))
  offer_ok d w = hand_ok offer_tables offer_whole (offer_tidy d) w i offer_fits

-- What was said, taken into sound tables (§3.4, §3.5): the tables that the step is given, by the row and the store that were built for the mark.
-- By cases on what was said: for an answer the row and the store are those that there are, for an offer those of the record stored. From there on the two are one.
use mathlib.Core.Path.{◌≡◌, refl, sym, ap, subst, ◌∙◌}
use mathlib.Core.Logic.{◌≢◌, ◌⊎◌, inl, inr}
use mathlib.Core.Bool.{false}
use mathlib.Core.List.{List, [], ◌++◌, append-nil}
use Prim.Native.Nat.{ℕ, ◌+◌, ◌-◌, ◌≤◌}
use native.Mathlib.Omega.{arith}
use lib.ListN.{get_or, set, replicate}
use Rattle.model.specs.Base.{each_nil}
use Rattle.model.specs.Store.{Store, Extends, used, Built, full, built}
use Rattle.model.specs.Terms.{store_from, known_from}
use Rattle.model.specs.Table.{Tables, tables}
use Rattle.model.specs.Steps.{Ended, short, of_rows, blanked, advance, taken_by}
use Rattle.model.specs.Calls.{answer_fault, offer_fault, fault_of, end_of, done_by}
use Rattle.model.specs.Facts.{Good, IsRecord}
use Rattle.model.specs.TableFacts.{Core, Tidy, Whole, HandFits, Open}
use Rattle.model.specs.Phase.{Phase, idle, holding, filling, Sounds}
use Rattle.model.proofs.Laws.Tests.{by_equal}
use Rattle.model.proofs.Laws.Fill.{ext_refl}
use Rattle.model.proofs.Laws.Listed.{stored}
use Rattle.model.proofs.Laws.Settle.{settled_ok}
use Rattle.model.proofs.Laws.Advance.{hand_ok}
use Rattle.model.proofs.Laws.Offer.{its_answer, offer_whole, offer_fits, offer_tidy}
use Rattle.model.proofs.Laws.Answer.{answered_core, answered_tidy, answered_whole, answered_fits}
use Rattle.model.proofs.Laws.Step.{Offering, offering, answering, StepOk, by_hand, by_settling, held_advance, none_advance, mark_some, mark_small}
use Rattle.model.proofs.Laws.Took.{idle_facts, whole_few}
use Rattle.call.specs.declared.Said.{Said}
use Rattle.call.specs.Said.{call_of}
use Rattle.call_take.specs.Taken.{mark_of, built_for}

-- the record in hand: the one that there is, or the one offered
abbrev pub hand_for : Said → (hand row : ℕ) → ℕ
hand_for (Said.Answer m) h i = h
hand_for (Said.Offer m) h i = i

-- the tables with the mark stored, over these answers
abbrev pub marked_tables : Tables → Said → (row : ℕ) → Store → (answers : List ℕ) → Tables
marked_tables x k i y w = tables y (set w i (mark_of k + 1)) x.s x.t x.c (hand_for k x.hand i) 0 false

-- THE TABLES THAT THE STEP IS GIVEN, and how it ends
abbrev pub given_tables : Tables → Said → (row : ℕ) → Store → Tables
given_tables x k i y = marked_tables x k i y (blanked x.store y x.answers)

abbrev pub taken_for : Tables → Said → Built → Ended
taken_for x k full = short of_rows
taken_for x k (built i y) = advance (given_tables x k i y)

-- no new rows, no blanks
blanked_none : (x : Store) (w : List ℕ) → blanked x x w ≡ w
blanked_none x w = let e : used x - used x ≡ 0 = omega arith in ap (λ (n : ℕ). w ++ replicate n 0) e ∙ append-nil w

pub taken_done : (x : Tables) (k : Said) (xs : List ℕ) → done_by x (call_of k xs) ≡ end_of (taken_for x k (built_for x k xs))
taken_done x (Said.Answer m) xs =
    ap (λ (w : List ℕ). end_of (advance (tables x.store (set w x.asked (m + 1)) x.s x.t x.c x.hand 0 false))) (sym (blanked_none x.store x.answers))
taken_done x (Said.Offer m) xs = go (store_from x.store xs [])
  where
    go : (b : Built) → end_of (taken_by x m b) ≡ end_of (taken_for x (Said.Offer m) b)
    go full = refl
    go (built i y) = refl

-- WHAT HOLDS OF THEM: the row had no answer, or this one; a record in hand is against the automaton; with none the store is the one that there was
pub record Begins (x : Tables) (k : Said) (i : ℕ) (y : Store) (w : List ℕ) : Type 0 where
  pub ext : Extends x.store y
  pub good : Good y
  pub row : IsRecord y i
  pub was : (get_or w i 0 ≡ 0) ⊎ (get_or w i 0 ≡ mark_of k + 1)
  pub core : Core (marked_tables x k i y w)
  pub tidy : Tidy (marked_tables x k i y w)
  pub held : hand_for k x.hand i ≢ 0 → Whole x × Whole (marked_tables x k i y w) × HandFits y (set w i (mark_of k + 1)) x.s x.t x.c (hand_for k x.hand i)
  pub empty : hand_for k x.hand i ≡ 0 → (y ≡ x.store) × (w ≡ x.answers) × (get_or x.answers i 0 ≡ 0)

module _ (x : Tables) (s : Sounds x) where
  core : Core x
  core = s.nearly.core

  tidy : Tidy x
  tidy = s.nearly.tidy

  answer_begins : (m : ℕ) → answer_fault x m ≡ 0 → Begins x (Said.Answer m) x.asked x.store x.answers
  answer_begins m e = go s.nearly.phase
    where
      asking : (x.asked ≢ 0) × (m ≤ 1)
      asking = answering x m e

      at : Open x → (x.hand ≢ 0 → Whole x × HandFits x.store x.answers x.s x.t x.c x.hand) → Begins x (Said.Answer m) x.asked x.store x.answers
      at o h =
          let small = mark_small m asking.1 in
          record {
            ext = ext_refl x.store;
            good = core.good;
            row = o.0;
            was = inl o.1;
            core = answered_core x core x.asked o.0 o.1 (m + 1) small;
            tidy = answered_tidy x core x.asked o.0 o.1 (m + 1) small tidy;
            held = λ d. let p = h d in (
              p.0,
              answered_whole x p.0 x.hand p.1 x.asked o.0 o.1 (m + 1) (mark_some m) small,
              answered_fits x p.0 x.hand p.1 x.asked o.0 o.1 (m + 1) (mark_some m) small,
            );
            empty = λ z. (refl, refl, o.1);
          }

      go : Phase x → Begins x (Said.Answer m) x.asked x.store x.answers
      go (idle a h w) = absurd (asking.0 a)
      go (holding o r w f) = at o (λ d. (w, f))
      go (filling o r h q) = at o (λ d. absurd (d h))

  offer_begins : (xs : List ℕ) (m : ℕ) → offer_fault x xs m ≡ 0 → (i : ℕ) (y : Store) → store_from x.store xs [] ≡ built i y → Begins x (Said.Offer m) i y (blanked x.store y x.answers)
  offer_begins xs m e i y p =
      let put = stored xs x.store core.good 0 [] each_nil refl o.parsed i y p in
      record {
        ext = put.ext;
        good = put.good;
        row = put.is_record_law;
        was = was o.agrees;
        core = (offer_whole x whole xs o.parsed (m + 1) (mark_some m) small o.agrees o.other_verdict i y p).core;
        tidy = offer_tidy x whole xs o.parsed (m + 1) (mark_some m) small o.agrees o.other_verdict i y p tidy;
        held = λ d. (
          whole,
          offer_whole x whole xs o.parsed (m + 1) (mark_some m) small o.agrees o.other_verdict i y p,
          offer_fits x whole xs o.parsed (m + 1) (mark_some m) small o.agrees o.other_verdict i y p,
        );
        empty = λ z. absurd (omega (arith, z, put.is_record_law.some));
      }
    where
      o : Offering x xs m
      o = offering x core.bound xs m e

      whole : Whole x
      whole = (idle_facts x s o.idle_now).0

      small : m + 1 ≤ 2
      small = mark_small m o.mark

      known : get_or (blanked x.store y x.answers) i 0 ≡ get_or x.answers (known_from x.store xs []) 0
      known = its_answer x whole xs o.parsed (m + 1) (mark_some m) small o.agrees o.other_verdict i y p

      was : (get_or x.answers (known_from x.store xs []) 0 ≡ 0) ⊎ (get_or x.answers (known_from x.store xs []) 0 ≡ m + 1) →
          (get_or (blanked x.store y x.answers) i 0 ≡ 0) ⊎ (get_or (blanked x.store y x.answers) i 0 ≡ m + 1)
      was (inl q) = inl (known ∙ q)
      was (inr q) = inr (known ∙ q)

  pub begins : (k : Said) (xs : List ℕ) → fault_of x (call_of k xs) ≡ 0 → (i : ℕ) (y : Store) → built_for x k xs ≡ built i y → Begins x k i y (blanked x.store y x.answers)
  begins (Said.Answer m) xs e i y p =
      let a : x.asked ≡ i = cc in
      let b : x.store ≡ y = cc in
      let c = subst (Begins x (Said.Answer m) x.asked x.store) (sym (blanked_none x.store x.answers)) (answer_begins m e) in
      subst (λ (j : ℕ). Begins x (Said.Answer m) j y (blanked x.store y x.answers)) a
      (subst (λ (z : Store). Begins x (Said.Answer m) x.asked z (blanked x.store z x.answers)) b c)
  begins (Said.Offer m) xs e i y p = offer_begins xs m e i y p

  -- the step goes as model's laws say
  pub begins_step : (k : Said) (i : ℕ) (y : Store) (w : List ℕ) → Begins x k i y w → StepOk (marked_tables x k i y w) (advance (marked_tables x k i y w))
  begins_step k i y w b =
      let z : Tables = marked_tables x k i y w in
      by_equal z.hand 0 (λ e. rw (none_advance z e) (by_settling e (settled_ok z b.core b.tidy)))
      (λ d. let h = b.held d in let few = whole_few x h.0 s.few in rw (held_advance z d) (by_hand few (hand_ok z h.1 b.tidy few z.hand h.2)))

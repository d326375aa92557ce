-- Where the search with a record in hand ended: the record then in hand, the row at its spot and the way down to it, as the next step needs them.
-- The search ends at a record that the proposal gets wrong; the notes made on the way hold the spot and the way down of every row.
use mathlib.Core.Path.{◌≡◌, refl, sym, ap, subst, ◌∙◌}
use mathlib.Core.List.{List}
use Prim.Native.Nat.{ℕ, ◌≤◌, ◌<◌}
use native.Mathlib.Omega.{arith}
use lib.ListN.{length, get_or}
use Rattle.model.specs.Base.{In}
use Rattle.model.specs.Store.{Store, Spot, spot_of, fill}
use Rattle.model.specs.Table.{Tables}
use Rattle.model.specs.Steps.{at_new_transition, at_unknown, at_difference, search, opened, put_down, searched, advance}
use Rattle.model.specs.Facts.{IsRecord, Fits}
use Rattle.model.specs.TableFacts.{SearchEnd, ends_new, ends_unknown, ends_different}
use Rattle.model.specs.Entry.{tables_of}
use Rattle.model.specs.declared.Lists.{Lists}
use Rattle.model.specs.declared.Row.{Row}
use Rattle.model.proofs.Laws.Search.{in_hand_ends}
use Rattle.model.proofs.Laws.Unchanged.{full_of}
use Rattle.model.proofs.Laws.Step.{held_advance}
use Rattle.bank.specs.Bank.{path_of}
use Rattle.bank.proofs.Laws.Words.{used_of}
use Rattle.run_lists.specs.Members.{counts_in}
use Rattle.run_lists.specs.Run.{Run}
use Rattle.step_search.specs.declared.Found.{Found}
use Rattle.step_search.specs.Spots.{Descended, search_by}
use Rattle.step_search.proofs.Laws.Steps.{path_around, path_fits}
use Rattle.step_search.proofs.Laws.Descent.{down_rows}
use Rattle.std.specs.Prelude.{Result}
use Rattle.model.specs.declared.refusal.Refusal.{Refusal}
use Rattle.step_settle.proofs.Laws.Ends.{Ends, ends_by, handed}
use Rattle.step.specs.InHand.{InHand}

-- the record in hand and the row at its spot are records, and a representative is one of S
record EndRows (x : Store) (h : ℕ) (p : Spot) : Type 0 where
  pub record_row : IsRecord x h
  pub spot_row : IsRecord x p.row

module _ {x : Store} {w s t cs : List ℕ} {h : ℕ} {p : Spot} where
  end_new : SearchEnd x w s t cs (at_new_transition h p) → EndRows x h p
  end_new (ends_new a o n y) = record { record_row = a.record_row; spot_row = o.record_row }

  end_unknown : {rep : ℕ} → SearchEnd x w s t cs (at_unknown h p rep) → EndRows x h p × In rep s
  end_unknown (ends_unknown a o n m y z) = (record { record_row = a.record_row; spot_row = o.record_row }, m)

  end_different : {rep j : ℕ} → SearchEnd x w s t cs (at_difference h p rep j) → EndRows x h p
  end_different (ends_different a o n m y d u v) = record { record_row = a.record_row; spot_row = o.record_row }

-- THE END OF THE SEARCH
pub record Ending (ws : List ℕ) (l : Lists) (reps ds at ex : List ℕ) (f : Found) : Type 0 where
  pub run : Run ws l
  pub hand : InHand ws l reps
  pub descended : Descended (tables_of ws l).s reps (tables_of ws l).store ds at ex l.used
  pub end : search_by (tables_of ws l).s reps (tables_of ws l).store f ≡
      search (tables_of ws l).store (tables_of ws l).answers (tables_of ws l).s (tables_of ws l).t (tables_of ws l).c l.hand

-- the record in hand then, and the row read at its spot
pub record Held (ws : List ℕ) (l : Lists) (ds : List ℕ) (h i : ℕ) : Type 0 where
  pub record_row : IsRecord (tables_of ws l).store h
  pub spot_row : IsRecord (tables_of ws l).store i
  pub low : h < l.used
  pub spot_low : i < l.used
  pub spot_is : i ≡ (spot_of (tables_of ws l).s (tables_of ws l).store h).row
  pub around : path_of ds (tables_of ws l).store h ≡ (spot_of (tables_of ws l).s (tables_of ws l).store h).around
  pub fits : Fits (tables_of ws l).store (path_of ds (tables_of ws l).store h)

module _ {ws : List ℕ} {l : Lists} {reps ds at ex : List ℕ} {f : Found} (q : Ending ws l reps ds at ex f) where
  ends_as : {g : Found} → f ≡ g →
      SearchEnd (tables_of ws l).store (tables_of ws l).answers (tables_of ws l).s (tables_of ws l).t (tables_of ws l).c (search_by (tables_of ws l).s reps (tables_of ws l).store g)
  ends_as {g} e =
      let x : Tables = tables_of ws l in
      subst (SearchEnd x.store x.answers x.s x.t x.c) (sym q.end ∙ ap (search_by x.s reps x.store) e)
      (in_hand_ends x.store x.answers x.s x.t x.c (full_of x q.hand.whole) l.hand q.hand.fits)

  row_low : {i : ℕ} → IsRecord (tables_of ws l).store i → i < l.used
  row_low {i} z = omega (arith, z.within, used_of ws (counts_in l) l.used)

  held : (h i : ℕ) → i ≡ get_or at h 0 → EndRows (tables_of ws l).store h (spot_of (tables_of ws l).s (tables_of ws l).store h) → Held ws l ds h i
  held h i r z =
      let n = used_of ws (counts_in l) l.used in
      let g = q.run.orderly.good in
      let b = row_low z.record_row in
      let e = r ∙ q.descended.turns.at_is h b in
      let spot = subst (IsRecord (tables_of ws l).store) (sym e) z.spot_row in
      record {
        record_row = z.record_row;
        spot_row = spot;
        low = b;
        spot_low = row_low spot;
        spot_is = e;
        around = path_around g q.descended (omega (arith, n)) h b;
        fits = path_fits g q.descended (omega (arith, n)) h b z.record_row;
      }

  pub down_used : l.used ≤ length ds
  down_used = down_rows ws (counts_in l) l.used q.descended

  -- at a row that is no transition
  module _ {h : Row} (e : f ≡ Found.NewTransition h) where
    pub held_new : (i : ℕ) → i ≡ get_or at h.0 0 → Held ws l ds h.0 i
    held_new i r = held h.0 i r (end_new (ends_as e))

    pub ended_new : (i : ℕ) → i ≡ get_or at h.0 0 → (r : Result Lists Refusal) (us : List ℕ) →
        Ends ws l (searched (tables_of ws l) (at_new_transition h.0 (record { row = i; around = path_of ds (tables_of ws l).store h.0 }))) r us →
        Ends ws l (searched (tables_of ws l) (search_by (tables_of ws l).s reps (tables_of ws l).store f)) r us
    ended_new i a r us d =
        let x : Tables = tables_of ws l in
        let z = held_new i a in
        let p : at_new_transition h.0 (spot_of x.s x.store h.0) ≡ at_new_transition h.0 (record { row = i; around = path_of ds x.store h.0 }) =
        λ k. at_new_transition h.0 (record { row = sym z.spot_is k; around = sym z.around k }) in
        ends_by (ap (λ (k : Found). searched x (search_by x.s reps x.store k)) e ∙ ap (searched x) p) d

  -- at an unknown answer
  module _ {h : Row} (e : f ≡ Found.Unknown h) where
    pub held_unknown : (i : ℕ) → i ≡ get_or at h.0 0 → Held ws l ds h.0 i
    held_unknown i r = held h.0 i r (end_unknown (ends_as e)).0

    -- with the representative read there
    module _ (i : ℕ) (a : i ≡ get_or at h.0 0) (j : ℕ) (b : j ≡ get_or reps i 0) where
      rep_is : j ≡ get_or reps (spot_of (tables_of ws l).s (tables_of ws l).store h.0).row 0
      rep_is = b ∙ ap (λ (k : ℕ). get_or reps k 0) (held_unknown i a).spot_is

      pub rep_low : j < l.used
      rep_low =
          let o = q.run.orderly in
          let k : ℕ = get_or reps (spot_of (tables_of ws l).s (tables_of ws l).store h.0).row 0 in
          omega (arith, rep_is, row_low (o.row k (o.among k (end_unknown (ends_as e)).1)))

      pub ended_unknown : (r : Result Lists Refusal) (us : List ℕ) → Ends ws l (opened (handed ws l h.0) (fill (tables_of ws l).store (path_of ds (tables_of ws l).store h.0) j)) r us →
          Ends ws l (searched (tables_of ws l) (search_by (tables_of ws l).s reps (tables_of ws l).store f)) r us
      ended_unknown r us d =
          let x : Tables = tables_of ws l in
          ends_by
          (ap (λ (k : Found). searched x (search_by x.s reps x.store k)) e ∙
          (λ k. opened (handed ws l h.0) (fill x.store (sym (held_unknown i a).around k) (sym rep_is k))))
          d

  -- at an answer that differs
  module _ {h : Row} (e : f ≡ Found.Difference h) where
    pub held_different : Held ws l ds h.0 (get_or at h.0 0)
    held_different = held h.0 (get_or at h.0 0) refl (end_different (ends_as e))

    pub ended_different : (r : Result Lists Refusal) (us : List ℕ) → Ends ws l (put_down (tables_of ws l) (path_of ds (tables_of ws l).store h.0)) r us →
        Ends ws l (searched (tables_of ws l) (search_by (tables_of ws l).s reps (tables_of ws l).store f)) r us
    ended_different r us d =
        let x : Tables = tables_of ws l in
        ends_by (ap (λ (k : Found). searched x (search_by x.s reps x.store k)) e ∙ ap (put_down x) (sym held_different.around)) d

-- the step with a record in hand is what the end of its search asks for
pub ended_hand : (ws : List ℕ) (l : Lists) (reps : List ℕ) (f : Found) → (l.hand ≡ 0 → ⊥) →
    search_by (tables_of ws l).s reps (tables_of ws l).store f ≡ search (tables_of ws l).store (tables_of ws l).answers (tables_of ws l).s (tables_of ws l).t (tables_of ws l).c l.hand →
    (r : Result Lists Refusal) (us : List ℕ) → Ends ws l (searched (tables_of ws l) (search_by (tables_of ws l).s reps (tables_of ws l).store f)) r us → Ends ws l (advance (tables_of ws l)) r us
ended_hand ws l reps f n e r us d = ends_by (held_advance (tables_of ws l) n ∙ ap (searched (tables_of ws l)) (sym e)) d

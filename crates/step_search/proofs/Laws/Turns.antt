-- The search by the array of representatives: each way in which a turn ends it, and a turn that goes on.
-- A spot with representative 0 is no transition; for any other the array holds what the search exchanges it for.
use mathlib.Core.Path.{◌≡◌, refl, sym, ap, subst, ◌∙◌}
use mathlib.Core.Bool.{Bool, true, false, cond}
use mathlib.Core.List.{List}
use Prim.Native.Nat.{ℕ, ◌<◌}
use native.Mathlib.Omega.{arith}
use native.Mathlib.Decide.{ℕ_discrete}
use lib.Dec.{eqb}
use borrow.Author.Tests.{eq-eqb, ne_eqb}
use lib.ListN.{get_or}
use Rattle.model.specs.Base.{In}
use Rattle.model.specs.Store.{Store, used, filled_row, outside, spot_of}
use Rattle.model.specs.Table.{answer_at}
use Rattle.model.specs.Steps.{Search, at_new_transition, at_unknown, at_difference, against, search}
use Rattle.model.specs.TableFacts.{HandFits, SpotAt}
use Rattle.model.proofs.Laws.Lists.{in_member}
use Rattle.model.proofs.Laws.Frames.{leads_within}
use Rattle.model.proofs.Laws.Filled.{filled_leads}
use Rattle.model.proofs.Laws.Search.{hand_outside, spot_is}
use Rattle.step_search.specs.Spots.{Noted, exchanged_row}
use Rattle.step_search.proofs.Laws.Reps.{rep_of_law, no_transition}
use Rattle.step_search.proofs.Laws.Search.{after, Turned, turns, search_turn}

when_true : {c : Bool} (a b : Search) → c ≡ true → cond c a b ≡ a
when_true a b e = rw e

when_false : {c : Bool} (a b : Search) → c ≡ false → cond c a b ≡ b
when_false a b e = rw e

-- the record in hand after some turns: the search from it is the search from the first
pub record InHand (x : Store) (w s t cs : List ℕ) (first h : ℕ) : Type 0 where
  pub fits : HandFits x w s t cs h
  pub same : search x w s t cs h ≡ search x w s t cs first

pub starts : {x : Store} {w s t cs : List ℕ} {h : ℕ} → HandFits x w s t cs h → InHand x w s t cs h h
starts f = record { fits = f; same = refl }

module _ {x : Store} {w s t cs reps : List ℕ} (f : Noted x w s t cs reps) (first h : ℕ) (q : InHand x w s t cs first h) where
  abbrev u : ℕ
  u = (spot_of s x h).row

  spot : SpotAt x w s t cs h (spot_of s x h)
  spot = spot_is x w s t cs f.full h q.fits.record_row (hand_outside x w s t cs f.full h q.fits)

  pub hand_used : h < used x
  hand_used = q.fits.record_row.within

  pub spot_used : (spot_of s x h).row < used x
  spot_used = spot.record_row.within

  -- no transition: the search ends
  pub ends_new : get_or reps (spot_of s x h).row 0 ≡ 0 → at_new_transition h (spot_of s x h) ≡ search x w s t cs first
  ends_new e = sym (search_turn x w s t cs f.full h q.fits ∙ rw (no_transition f u e)) ∙ q.same

  module _ (m : In (spot_of s x h).row t) where
    after_is : after x w s t cs h ≡ exchanged_row s reps x h
    after_is = ap (filled_row x (spot_of s x h).around) (sym (f.of_t u m))

    pub exchanged_used : exchanged_row s reps x h < used x
    exchanged_used = go (ℕ_discrete (exchanged_row s reps x h) 0)
      where
        go : Dec (exchanged_row s reps x h ≡ 0) → exchanged_row s reps x h < used x
        go (yes e) = let z = f.full.good.start in omega arith
        go (no e) =
            let r = rep_of_law f u m in
            let l = filled_leads x f.full.good (spot_of s x h).around spot.fits (get_or reps u 0) r.some e in
            leads_within x (spot_of s x h).around (get_or reps u 0) (exchanged_row s reps x h) (f.full.shaped.row (get_or reps u 0) (f.full.shaped.among (get_or reps u 0) r.in_s)).1 l

    -- the turn, by the array
    abbrev j : ℕ
    j = exchanged_row s reps x h

    abbrev unknown : Search
    unknown = at_unknown h (spot_of s x h) (get_or reps u 0)

    abbrev different : Search
    different = at_difference h (spot_of s x h) (get_or reps u 0) j

    abbrev known : Search
    known = cond (eqb (answer_at w j) (answer_at w h)) (search x w s t cs j) different

    turn : cond (eqb (answer_at w j) 0) unknown known ≡ search x w s t cs first
    turn =
        (λ i. against x w s t cs h (spot_of s x h) (f.of_t u m i) (sym after_is i) (search x w s t cs (sym after_is i))) ∙
        sym (search_turn x w s t cs f.full h q.fits ∙ rw (in_member u m)) ∙ q.same

    pub ends_unknown : answer_at w (exchanged_row s reps x h) ≡ 0 → at_unknown h (spot_of s x h) (get_or reps (spot_of s x h).row 0) ≡ search x w s t cs first
    ends_unknown e = sym (when_true unknown known (eq-eqb (answer_at w j) 0 e)) ∙ turn

    module _ (z : answer_at w (exchanged_row s reps x h) ≡ 0 → ⊥) where
      known_turn : known ≡ search x w s t cs first
      known_turn = sym (when_false unknown known (ne_eqb (answer_at w j) 0 z)) ∙ turn

      pub ends_different : (answer_at w (exchanged_row s reps x h) ≡ answer_at w h → ⊥) →
          at_difference h (spot_of s x h) (get_or reps (spot_of s x h).row 0) (exchanged_row s reps x h) ≡ search x w s t cs first
      ends_different e = sym (when_false (search x w s t cs j) different (ne_eqb (answer_at w j) (answer_at w h) e)) ∙ known_turn

      -- an equal answer: the search goes on from the exchanged record, which has fewer occurrences outside S
      module _ (e : answer_at w (exchanged_row s reps x h) ≡ answer_at w h) where
        turned : Turned x w s t cs f.full h
        turned = turns x w s t cs f.full h q.fits m (ap (answer_at w) after_is ∙ e)

        pub goes_on : InHand x w s t cs first (exchanged_row s reps x h)
        goes_on =
            record {
              fits = subst (HandFits x w s t cs) after_is turned.fits;
              same = sym (when_true (search x w s t cs j) different (eq-eqb (answer_at w j) (answer_at w h) e)) ∙ known_turn;
            }

        pub goes_down : outside s x (exchanged_row s reps x h) < outside s x h
        goes_down = subst (λ (k : ℕ). outside s x k < outside s x h) after_is turned.less

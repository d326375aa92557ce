-- A turn of the search as the words and the arrays show it: the spot's entry, the exchanged row's entry, and both answers.
-- The entries are right for all used rows, the record in hand is one, and the answers of used rows are those of the words.
use mathlib.Core.Path.{◌≡◌, sym, ap, subst, ◌∙◌}
use mathlib.Core.Bool.{not}
use mathlib.Core.List.{List}
use Prim.Native.Nat.{ℕ, ◌≤◌, ◌<◌}
use native.Mathlib.Omega.{arith}
use lib.ListN.{length, get_or}
use Rattle.model.specs.Limits.{most_rows}
use Rattle.model.specs.Base.{In, among}
use Rattle.model.specs.Store.{used, outside, spot_of}
use Rattle.model.specs.Table.{answer_at}
use Rattle.model.specs.Steps.{at_new_transition, at_unknown, at_difference, search}
use Rattle.model.specs.Entry.{store_of, answers_in}
use Rattle.bank.specs.Rows.{answer_in}
use Rattle.bank.proofs.Laws.Words.{used_of, answer_in_law}
use Rattle.step_search.specs.Spots.{Noted, not_own, TurnsBy, exchanged_row}
use Rattle.step_search.proofs.Laws.Reps.{transition, reps_rows}
use Rattle.step_search.proofs.Laws.Among.{outside_own, outside_among, turns_among}
use Rattle.step_search.proofs.Laws.Descent.{at_rows, exchanged_rows}
use Rattle.step_search.proofs.Laws.Turns.{InHand, hand_used, spot_used, exchanged_used, ends_new, ends_unknown, ends_different, goes_on, goes_down}

pub record Walking (ws ns : List ℕ) (n : ℕ) (s t cs reps at ex : List ℕ) (first h : ℕ) : Type 0 where
  pub few : n ≤ most_rows
  pub turns : TurnsBy (not_own reps) reps (store_of ws ns n) at ex n
  pub noted : Noted (store_of ws ns n) (answers_in n ws) s t cs reps
  pub hand : InHand (store_of ws ns n) (answers_in n ws) s t cs first h

module _ {ws ns : List ℕ} {n : ℕ} {s t cs reps at ex : List ℕ} {first h : ℕ} (a : Walking ws ns n s t cs reps at ex first h) where
  rows_few : used (store_of ws ns n) ≤ most_rows
  rows_few = omega (arith, used_of ws ns n, a.few)

  by_s : TurnsBy (λ (k : ℕ). not (among k s)) reps (store_of ws ns n) at ex n
  by_s = turns_among a.noted rows_few (omega (arith, used_of ws ns n)) a.turns

  pub in_hand : h < n
  in_hand = let u = hand_used a.noted first h a.hand in omega (arith, used_of ws ns n)

  spot_at : get_or at h 0 ≡ (spot_of s (store_of ws ns n) h).row
  spot_at = by_s.at_is h in_hand

  row_at : get_or ex h 0 ≡ exchanged_row s reps (store_of ws ns n) h
  row_at = by_s.exchanged_is h in_hand

  spot_row : get_or at h 0 < n
  spot_row = let u = spot_used a.noted first h a.hand in omega (arith, used_of ws ns n, spot_at)

  pub spot_few : get_or at h 0 < most_rows
  spot_few = omega (arith, spot_row, a.few)

  -- entries that the arrays have
  pub within_at : h < length at
  within_at = let u = in_hand in omega (arith, at_rows ws ns n a.turns)

  pub within_exchanged : h < length ex
  within_exchanged = let u = in_hand in omega (arith, exchanged_rows ws ns n a.turns)

  pub within_reps : get_or at h 0 < length reps
  within_reps = let u = spot_row in omega (arith, reps_rows ws ns n a.noted)

  pub stops_new : get_or reps (get_or at h 0) 0 ≡ 0 → at_new_transition h (spot_of s (store_of ws ns n) h) ≡ search (store_of ws ns n) (answers_in n ws) s t cs first
  stops_new e = ends_new a.noted first h a.hand (ap (λ (u : ℕ). get_or reps u 0) (sym spot_at) ∙ e)

  -- the spot is a transition
  module _ (z : get_or reps (get_or at h 0) 0 ≡ 0 → ⊥) where
    its : In (spot_of s (store_of ws ns n) h).row t
    its = subst (λ (u : ℕ). In u t) spot_at (transition a.noted (get_or at h 0) spot_few z)

    pub next_used : get_or ex h 0 < n
    next_used = let u = exchanged_used a.noted first h a.hand its in omega (arith, used_of ws ns n, row_at)

    answer_there : answer_at (answers_in n ws) (exchanged_row s reps (store_of ws ns n) h) ≡ answer_in ws (get_or ex h 0)
    answer_there = ap (answer_at (answers_in n ws)) (sym row_at) ∙ answer_in_law n (get_or ex h 0) ws next_used

    module _ (v : ℕ) (y : v ≡ answer_in ws (get_or ex h 0)) where
      pub stops_unknown : v ≡ 0 → at_unknown h (spot_of s (store_of ws ns n) h) (get_or reps (spot_of s (store_of ws ns n) h).row 0) ≡ search (store_of ws ns n) (answers_in n ws) s t cs first
      stops_unknown e = ends_unknown a.noted first h a.hand its (answer_there ∙ sym y ∙ e)

      -- the exchanged record has a known answer
      module _ (k : v ≡ 0 → ⊥) (w : ℕ) (b : w ≡ answer_in ws h) where
        known : answer_at (answers_in n ws) (exchanged_row s reps (store_of ws ns n) h) ≡ 0 → ⊥
        known e = k (y ∙ sym answer_there ∙ e)

        answer_here : answer_at (answers_in n ws) h ≡ w
        answer_here = answer_in_law n h ws in_hand ∙ sym b

        pub stops_different : (v ≡ w → ⊥) →
            at_difference h (spot_of s (store_of ws ns n) h) (get_or reps (spot_of s (store_of ws ns n) h).row 0) (exchanged_row s reps (store_of ws ns n) h) ≡ search (store_of ws ns n) (answers_in n ws) s t cs first
        stops_different e = ends_different a.noted first h a.hand its known (λ p. e (y ∙ sym answer_there ∙ p ∙ answer_here))

        module _ (e : v ≡ w) where
          equal : answer_at (answers_in n ws) (exchanged_row s reps (store_of ws ns n) h) ≡ answer_at (answers_in n ws) h
          equal = answer_there ∙ sym y ∙ e ∙ sym answer_here

          pub steps : InHand (store_of ws ns n) (answers_in n ws) s t cs first (get_or ex h 0)
          steps = subst (InHand (store_of ws ns n) (answers_in n ws) s t cs first) (sym row_at) (goes_on a.noted first h a.hand its known equal)

          pub steps_less : outside_own reps (store_of ws ns n) (get_or ex h 0) < outside_own reps (store_of ws ns n) h
          steps_less =
              let l = subst (λ (j : ℕ). outside s (store_of ws ns n) j < outside s (store_of ws ns n) h) (sym row_at) (goes_down a.noted first h a.hand its known equal) in
              let i = outside_among a.noted rows_few (get_or ex h 0) (omega (arith, next_used, used_of ws ns n)) in
              let j = outside_among a.noted rows_few h (omega (arith, in_hand, used_of ws ns n)) in
              omega arith

-- The record in hand (§4.1): for each row the way down to its leftmost innermost row outside S, and the row after the exchange.
use Rattle.std.specs.Prelude.{◌≡◌, Bool, ◌&&◌, not, List, ℕ, ◌≤◌, ◌<◌, eqb, length, get_or, Option, None, Some, ◌+◌}
use Rattle.model.specs.Limits.{most_rows}
use Rattle.model.specs.Base.{In, among}
use Rattle.model.specs.Store.{Store, Spot, used, kids_at, filled_row, down, spot_of}
use Rattle.model.specs.Steps.{Search, at_new_transition, at_unknown, at_difference, rep_of, search}
use Rattle.model.specs.TableFacts.{Full, HandFits}
use Rattle.bank.specs.Bank.{place_code}
use Rattle.step_search.specs.declared.Found.{Found}

-- T1 to T6 with nothing missing, and the representative of each transition; other rows have 0
pub record Noted (x : Store) (w s t cs reps : List ℕ) : Type 0 where
  pub full : Full x w s t cs
  pub long : x.room ≤ length reps
  pub of_t : (u : ℕ) → In u t → get_or reps u 0 ≡ rep_of x w s t cs u
  pub others : (u : ℕ) → u < most_rows → (In u t → ⊥) → get_or reps u 0 ≡ 0

-- WHAT BECOMES OF A ROW when the row at its spot is exchanged for its representative; 0 where that is not stored. The spot is by a property of rows
abbrev pub exchanged_by : (strange : ℕ → Bool) → (reps : List ℕ) → Store → (row : ℕ) → ℕ
exchanged_by p reps x i = filled_row x (down p x i).around (get_or reps (down p x i).row 0)

-- the first n rows: the row at the spot, the exchanged row
pub record TurnsBy (strange : ℕ → Bool) (reps : List ℕ) (x : Store) (at exchanged : List ℕ) (n : ℕ) : Type 0 where
  pub at_long : used x ≤ length at
  pub exchanged_long : used x ≤ length exchanged
  pub at_is : (i : ℕ) → i < n → get_or at i 0 ≡ (down strange x i).row
  pub exchanged_is : (i : ℕ) → i < n → get_or exchanged i 0 ≡ exchanged_by strange reps x i

-- and the place down
pub record DescendedBy (strange : ℕ → Bool) (reps : List ℕ) (x : Store) (down at exchanged : List ℕ) (n : ℕ) : Type 0 where
  pub down_long : used x ≤ length down
  pub down_is : (i : ℕ) → i < n → get_or down i 0 ≡ place_code strange (kids_at x i)
  pub turns : TurnsBy strange reps x at exchanged n

-- BY THE ARRAY: rows that are not their own representatives
abbrev pub own_rep : (reps : List ℕ) → (row : ℕ) → Bool
own_rep reps i = not (eqb i 0) && eqb (get_or reps i 0) i

abbrev pub not_own : (reps : List ℕ) → (row : ℕ) → Bool
not_own reps i = not (own_rep reps i)

-- a place as the notes have it: plus one, and 0 for none
abbrev pub code_of : Option ℕ → ℕ
code_of None = 0
code_of (Some k) = k + 1

-- of a row's first such child
abbrev pub outside_by : (reps : List ℕ) → Store → (row : ℕ) → ℕ
outside_by reps x i = place_code (not_own reps) (kids_at x i)

abbrev pub spot_by : (reps : List ℕ) → Store → (row : ℕ) → Spot
spot_by reps x i = down (not_own reps) x i

-- BY S: rows outside it
abbrev pub exchanged_row : (s reps : List ℕ) → Store → (row : ℕ) → ℕ
exchanged_row s reps x i = exchanged_by (λ (k : ℕ). not (among k s)) reps x i

abbrev pub Descended : (s reps : List ℕ) → Store → (down at exchanged : List ℕ) → (n : ℕ) → Type 0
Descended s reps x ds at ex n = DescendedBy (λ (k : ℕ). not (among k s)) reps x ds at ex n

-- where the search ends, by the record that is then in hand
abbrev pub search_by : (s reps : List ℕ) → Store → Found → Search
search_by s reps x (Found.NewTransition h) = at_new_transition h.0 (spot_of s x h.0)
search_by s reps x (Found.Unknown h) = at_unknown h.0 (spot_of s x h.0) (get_or reps (spot_of s x h.0).row 0)
search_by s reps x (Found.Difference h) =
    at_difference h.0 (spot_of s x h.0) (get_or reps (spot_of s x h.0).row 0) (exchanged_row s reps x h.0)

-- a record that the proposal of full tables gets wrong, in hand with their representatives
pub record Handed (x : Store) (w reps : List ℕ) (hand : ℕ) : Type 0 where
  pub s : List ℕ
  pub t : List ℕ
  pub cs : List ℕ
  pub noted : Noted x w s t cs reps
  pub fits : HandFits x w s t cs hand

-- where the search with it ends, by whatever tables the representatives are of
abbrev pub EndsAt : Store → (w reps : List ℕ) → (hand : ℕ) → Found → Type 0
EndsAt x w reps h f =
    (s t cs : List ℕ) → Noted x w s t cs reps → HandFits x w s t cs h → search_by s reps x f ≡ search x w s t cs h

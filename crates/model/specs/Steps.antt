-- The steps (§4) in their order of choices, and how each ends.
use Rattle.std.specs.Prelude.{Bool, true, false, ◌&&◌, ◌||◌, not, cond, List, [], ◌∷◌, ◌++◌, ℕ, zero, suc, ◌+◌, ◌-◌, ltb, leb, eqb, length, get_or, set, replicate}
use Rattle.std.proofs.Math.Option.{Option, none, some}
use Rattle.model.specs.Limits.{most_states, most_rules}
use Rattle.model.specs.Base.{among}
use Rattle.model.specs.Store.{Store, used, Frame, Built, full, built, fill, filled_row, frames_of, outside, Spot, spot_of}
use Rattle.model.specs.Terms.{store_from}
use Rattle.model.specs.Table.{Tables, tables, answer_at, answer_in, answers_of, state_from}

-- WHAT MAY RUN SHORT in mid-step (§5.2). The search in hand never runs out of turns: promised as SearchEnds
pub data Shortage : Type 0 where
  of_rows : Shortage
  of_states : Shortage
  of_transitions : Shortage
  of_turns : Shortage

abbrev pub shortage_number : Shortage → ℕ
shortage_number of_rows = 34
shortage_number of_states = 35
shortage_number of_transitions = 36
shortage_number of_turns = 255

-- A STEP ENDS short, with a question open, or with a proposal
pub data Ended : Type 0 where
  short : Shortage → Ended
  asks : Tables → Ended
  proposes : Tables → Ended

-- new rows are unknown
abbrev pub blanked : (old new : Store) → (answers : List ℕ) → List ℕ
blanked x y w = w ++ replicate (used y - used x) 0

-- IN HAND (§4.1): a search that changes nothing but the record in hand, and how it ends:
-- at a spot that is no transition; at an unknown answer with the representative in the spot's place; or at an answer that differs there
pub data Search : Type 0 where
  lost : Search
  at_new_transition : (hand : ℕ) → Spot → Search
  at_unknown : (hand : ℕ) → Spot → (rep : ℕ) → Search
  at_difference : (hand : ℕ) → Spot → (rep row : ℕ) → Search

module _ (x : Store) (w s t cs : List ℕ) where
  abbrev pub rep_of : (transition : ℕ) → ℕ
  rep_of u = get_or s (state_from (answers_of x w cs) (answers_of x w cs u) 0 s) 0

  -- the record in hand against the one with the representative in the spot's place
  abbrev pub against : (hand : ℕ) → Spot → (rep row : ℕ) → Search → Search
  against h p rep j next =
      cond (eqb (answer_at w j) 0) (at_unknown h p rep) (cond (eqb (answer_at w j) (answer_at w h)) next (at_difference h p rep j))

  unfoldable pub search_from : (fuel hand : ℕ) → Search
  search_from zero h = lost
  search_from (suc n) h =
      cond (among (spot_of s x h).row t)
      (against h (spot_of s x h) (rep_of (spot_of s x h).row) (filled_row x (spot_of s x h).around (rep_of (spot_of s x h).row))
      (search_from n (filled_row x (spot_of s x h).around (rep_of (spot_of s x h).row))))
      (at_new_transition h (spot_of s x h))

  -- fuel: the occurrences outside S, of which each turn takes at least one away
  abbrev pub search : (hand : ℕ) → Search
  search h = search_from (outside s x h) h

-- THE FIRST UNKNOWN (§4.2): T in order, and for each T record C in order
pub data Sought : Type 0 where
  none_unknown : Sought
  unknown : (context row : ℕ) → Sought

unfoldable pub seek_in : Store → (answers contexts : List ℕ) → (row : ℕ) → Sought → Sought
seek_in x w [] i next = next
seek_in x w (c ∷ cs) i next = cond (eqb (answer_in x w c i) 0) (unknown c i) (seek_in x w cs i next)

unfoldable pub seek : Store → (answers contexts records : List ℕ) → Sought
seek x w cs [] = none_unknown
seek x w cs (i ∷ is) = seek_in x w cs i (seek x w cs is)

-- NONE UNKNOWN (§4.3): T in order, append to S each record whose row no S record has; none for a 33rd state
unfoldable pub grow : (row_of : ℕ → List ℕ) → (s records : List ℕ) → Option (List ℕ)
grow r s [] = some s
grow r s (i ∷ is) =
    cond (ltb (state_from r (r i) 0 s) (length s)) (grow r s is) (cond (leb most_states (length s)) none (grow r (s ++ (i ∷ [])) is))

abbrev pub opened : Tables → Built → Ended
opened x full = short of_rows
opened x (built j y) = asks (tables y (blanked x.store y x.answers) x.s x.t x.c x.hand j false)

abbrev pub proposed : Tables → Option (List ℕ) → Ended
proposed x none = short of_states
proposed x (some s) = proposes (tables x.store x.answers s x.t x.c 0 0 false)

abbrev pub settled_by : Tables → Sought → Ended
settled_by x none_unknown = proposed x (grow (answers_of x.store x.answers x.c) x.s x.t)
settled_by x (unknown c i) = opened x (fill x.store (frames_of x.store c) i)

abbrev pub settled : Tables → Ended
settled x = settled_by x (seek x.store x.answers x.c x.t)

-- PUT DOWN with the context around the spot: its rows added, appended to C if absent
abbrev pub with_context : (context : ℕ) → (c : List ℕ) → List ℕ
with_context c cs = cond (among c cs) cs (cs ++ (c ∷ []))

abbrev pub put_tables : Tables → (transitions : List ℕ) → (context : ℕ) → Store → Tables
put_tables x t c y = tables y (blanked x.store y x.answers) x.s t (with_context c x.c) 0 0 false

abbrev pub put_by : Tables → Built → Ended
put_by x full = short of_rows
put_by x (built c y) = settled (put_tables x x.t c y)

abbrev pub put_down : Tables → List Frame → Ended
put_down x fs = put_by x (fill x.store fs 0)

abbrev pub searched : Tables → Search → Ended
searched x lost = short of_turns
searched x (at_new_transition h p) =
    cond (leb most_rules (length x.t)) (short of_transitions)
    (put_down (tables x.store x.answers x.s (x.t ++ (p.row ∷ [])) x.c h 0 false) p.around)
searched x (at_unknown h p rep) =
    opened (tables x.store x.answers x.s x.t x.c h 0 false) (fill x.store p.around rep)
searched x (at_difference h p rep j) = put_down x p.around

abbrev pub advance : Tables → Ended
advance x =
    cond (eqb x.hand 0) (settled x) (searched x (search x.store x.answers x.s x.t x.c x.hand))

-- AN OFFER TAKEN (§3.4): its rows and its mark stored, taken in hand
abbrev pub offered_tables : Tables → (mark row : ℕ) → Store → Tables
offered_tables x m i y = tables y (set (blanked x.store y x.answers) i (m + 1)) x.s x.t x.c i 0 false

abbrev pub taken_by : Tables → (mark : ℕ) → Built → Ended
taken_by x m full = short of_rows
taken_by x m (built i y) = advance (offered_tables x m i y)

abbrev pub offered : Tables → (symbols : List ℕ) → (mark : ℕ) → Ended
offered x xs m = taken_by x m (store_from x.store xs [])

-- AN ANSWER TAKEN (§3.5): stored, and the question closed
abbrev pub answered_tables : Tables → (mark : ℕ) → Tables
answered_tables x m = tables x.store (set x.answers x.asked (m + 1)) x.s x.t x.c x.hand 0 false

abbrev pub answered : Tables → (mark : ℕ) → Ended
answered x m = advance (answered_tables x m)

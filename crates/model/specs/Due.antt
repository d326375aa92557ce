-- What 34, 35 and 36 tell of sound tables (§5.2): rows, states or transitions really run short, and where.
use Rattle.std.specs.Prelude.{◌≡◌, ◌≢◌, List, [], ◌∷◌, ℕ, suc, ◌≤◌, ◌<◌, length}
use Rattle.std.proofs.Math.Option.{none}
use Rattle.model.specs.Limits.{most_states, most_rules}
use Rattle.model.specs.Base.{In}
use Rattle.model.specs.Store.{used, Spot}
use Rattle.model.specs.Table.{Tables, row_of}
use Rattle.model.specs.TableFacts.{Known}
use Rattle.model.specs.Steps.{at_new_transition, grow}
use Rattle.model.specs.Calls.{Call, refuses, leaves, number_of, call}
use Rattle.model.specs.Room.{with_room, left_with_room}
use Rattle.model.specs.Reached.{Begins, Settles, search_of}

-- records of which no two have the same row of answers
pub data OwnRows (row_of : ℕ → List ℕ) : List ℕ → Type 0 where
  own_nil : OwnRows row_of []
  own_cons : {i : ℕ} {is : List ℕ} → ((j : ℕ) → In j is → row_of i ≢ row_of j) → OwnRows row_of is → OwnRows row_of (i ∷ is)

-- 35: the step settles tables in which no answer is missing; S cannot grow, for 33 transitions have different rows of answers
pub record StatesShort (x : Tables) (k : Call) : Type 0 where
  pub begun : Tables
  pub begins : Begins x k begun
  pub reached : Tables
  pub settles : Settles begun reached
  pub known : Known reached
  pub no_place : grow (row_of reached) reached.s reached.t ≡ none
  pub different : List ℕ
  pub many : length different ≡ suc most_states
  pub there : (i : ℕ) → In i different → In i reached.t
  pub own : OwnRows (row_of reached) different

-- 36: T is full, and the search for the record in hand ends at a spot that is no transition
pub record TransitionsShort (x : Tables) (k : Call) : Type 0 where
  pub reached : Tables
  pub begins : Begins x k reached
  pub many : length reached.t ≡ most_rules
  pub in_hand : reached.hand ≢ 0
  pub hand : ℕ
  pub spot : Spot
  pub wanted : search_of reached ≡ at_new_transition hand spot
  pub new : In spot.row reached.t → ⊥

-- all rows are used: in the tables that a call leaves, or in those in which it met another shortage
pub data UsesAll (x : Tables) (k : Call) (rows : ℕ) : Type 0 where
  in_left : (y : Tables) → call x k ≡ leaves y → used y.store ≡ rows → UsesAll x k rows
  at_states : call x k ≡ refuses 35 → (s : StatesShort x k) → used s.reached.store ≡ rows → UsesAll x k rows
  at_transitions : call x k ≡ refuses 36 → (s : TransitionsShort x k) → used s.reached.store ≡ rows → UsesAll x k rows

-- 34: more rows are needed than are lent. With any room below that number the call gets 34, with that number or more it does not,
-- and with just that number it uses them all
pub record RowsShort (x : Tables) (k : Call) : Type 0 where
  pub needed : ℕ
  pub above : x.store.room < needed
  pub too_few : (room : ℕ) → used x.store ≤ room → room < needed → call (with_room room x) k ≡ refuses 34
  pub enough : (room : ℕ) → needed ≤ room → number_of (call (with_room room x) k) ≢ 34
  pub all_used : UsesAll (with_room needed x) k needed

-- rows that are lent and not needed change nothing: a call that is not refused with 34 does the same with more of them, on any tables
abbrev pub RoomAlone : Type 0
RoomAlone =
    (x : Tables) (room : ℕ) (k : Call) → used x.store ≤ x.store.room → x.store.room ≤ room → number_of (call x k) ≢ 34 →
    call (with_room room x) k ≡ left_with_room room (call x k)

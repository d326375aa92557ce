-- The table of answers (§1.5) that a call works out: `most_contexts` numbers for each transition, one for each context; S as places in T.
use Rattle.std.specs.Prelude.{◌≡◌, Bool, true, false, cond, List, [], ◌∷◌, map, ℕ, zero, suc, ◌*◌, ◌≤◌, ◌<◌, eqb, length, get_or, take, drop, Option, None, Some}
use Rattle.std.proofs.Math.Option as maybe
use Rattle.std.proofs.Math.Option.{none, some}
use Rattle.model.specs.Limits.{most_rules, most_contexts, most_states}
use Rattle.model.specs.Base.{among}
use Rattle.model.specs.Store.{Store}
use Rattle.model.specs.Table.{answers_of, state_from}
use Rattle.model.specs.Steps.{Sought, none_unknown, unknown, grow}
use Rattle.model.specs.declared.Context.{Context}
use Rattle.table.specs.declared.Gap.{Gap}
use Rattle.table.specs.declared.Places.{Places}

-- the first m answers of the k-th transition
abbrev pub answers_at : (table : List ℕ) → (m k : ℕ) → List ℕ
answers_at tb m k = take m (drop (most_contexts * k) tb)

-- within the table, which has room for n rows
pub record Sized (table : List ℕ) (n m : ℕ) : Type 0 where
  pub long : most_contexts * n ≤ length table
  pub few_t : n ≤ most_rules
  pub few_c : m ≤ most_contexts

-- THE FIRST UNKNOWN (§4.2) by places: transitions in order, and for each the contexts in order
unfoldable pub unknown_in : (row : List ℕ) → (from : ℕ) → maybe.Option ℕ
unknown_in [] j = none
unknown_in (v ∷ vs) j = cond (eqb v 0) (some j) (unknown_in vs (suc j))

-- the context at the place of the first unknown one
abbrev pub context_by : maybe.Option ℕ → Option Context
context_by none = None
context_by (some j) = Some (record { 0 = j })

abbrev pub gap_by : (k : ℕ) → maybe.Option ℕ → Option Gap → Option Gap
gap_by k none next = next
gap_by k (some j) next = Some (record { rule = k; context = record { 0 = j } })

unfoldable pub gap_from : (table : List ℕ) → (m k count : ℕ) → Option Gap
gap_from tb m k zero = None
gap_from tb m k (suc n) = gap_by k (unknown_in (answers_at tb m k) 0) (gap_from tb m (suc k) n)

-- THE STATE of the k-th transition: S holds places in T
abbrev pub state_at : (table : List ℕ) → (m : ℕ) → (s : List ℕ) → (k : ℕ) → ℕ
state_at tb m s k = state_from (answers_at tb m) (answers_at tb m k) 0 s

-- GROWTH of S (§4.3) by places: what is left of T is the places from k on
unfoldable pub places_from : (from count : ℕ) → List ℕ
places_from k zero = []
places_from k (suc n) = k ∷ places_from (suc k) n

abbrev pub grown_by : (s : maybe.Option (List ℕ)) → Option Places → Type 0
grown_by none r = r ≡ None
grown_by (some s) None = ⊥
grown_by (some s) (Some p) = (take p.states p.s ≡ s) × (p.states ≡ length s)

abbrev pub grow_at : (table : List ℕ) → (m n : ℕ) → (s : List ℕ) → maybe.Option (List ℕ)
grow_at tb m n s = grow (answers_at tb m) s (places_from 0 n)

-- TIED to a store: the first n rows hold the answers of the first n of T at the first m of C
pub record Observed (x : Store) (w t : List ℕ) (n : ℕ) (c : List ℕ) (m : ℕ) (table : List ℕ) : Type 0 where
  pub sized : Sized table n m
  pub rows : (k : ℕ) → k < n → answers_at table m k ≡ answers_of x w (take m c) (get_or t k 0)

-- the same for the first r of n transitions: all of them, or up to one with an unknown answer
pub record ToGap (x : Store) (w t : List ℕ) (n : ℕ) (c : List ℕ) (m : ℕ) (table : List ℕ) (r : ℕ) : Type 0 where
  pub few : r ≤ n
  pub observed : Observed x w t r c m table
  pub whole : gap_from table m 0 r ≡ None → r ≡ n

-- a table of which only rows without an unknown answer are trusted: each of those is right
pub record KnownRows (x : Store) (w t : List ℕ) (n : ℕ) (c : List ℕ) (m : ℕ) (table : List ℕ) : Type 0 where
  pub sized : Sized table n m
  pub right : (k : ℕ) → k < n → among 0 (answers_at table m k) ≡ false → answers_at table m k ≡ answers_of x w (take m c) (get_or t k 0)

-- the first answer of each of the first n rows is unknown
pub record Forgotten (n : ℕ) (table : List ℕ) : Type 0 where
  pub first : (k : ℕ) → k < n → get_or table (most_contexts * k) 0 ≡ 0

-- the first q places name the first q of S among the first n of T
abbrev pub Placed : (t : List ℕ) → (n : ℕ) → (s : List ℕ) → (q : ℕ) → (s_in_t : List ℕ) → Type 0
Placed t n s q ps = (i : ℕ) → i < q → (get_or ps i 0 < n) × (get_or t (get_or ps i 0) 0 ≡ get_or s i 0)

-- places of representatives, as a call carries them: rows of a table of n
pub record Placing (s_in_t : List ℕ) (q n : ℕ) : Type 0 where
  pub long : length s_in_t ≡ most_states
  pub few : q ≤ most_states
  pub within : (i : ℕ) → i < q → get_or s_in_t i 0 < n

-- the question at a gap, and whether there is one
abbrev pub sought_by : (t c : List ℕ) → Option Gap → Sought
sought_by t c None = none_unknown
sought_by t c (Some gap) = unknown (get_or c gap.context.0 0) (get_or t gap.rule 0)

abbrev pub is_open : Option Gap → Bool
is_open None = false
is_open (Some gap) = true

-- the members of T at places
abbrev pub rows_at : (t s_in_t : List ℕ) → List ℕ
rows_at t ps = map (λ (p : ℕ). get_or t p 0) ps

-- The rules of the table as facts (§2.3), for the laws and for the contracts between our crates; as tests they are in Sound.
use Rattle.std.specs.Prelude.{◌≡◌, ◌≢◌, ◌⊎◌, Bool, true, false, not, List, [], ◌∷◌, ℕ, ◌+◌, ◌≤◌, ◌<◌, eqb, length, get_or}
use Rattle.std.proofs.Math.Option.{Option, none}
use Rattle.model.specs.Limits.{most_states, most_rules}
use Rattle.model.specs.Base.{In, Each, Distinct}
use Rattle.model.specs.Store.{Store, used, kids_at, has_hole, filled_row, Spot}
use Rattle.model.specs.Automata.{Rule, is_final, row_state}
use Rattle.model.specs.Table.{Tables, size, answer_at, answer_in, answers_of, row_of, finals_of, rules_of}
use Rattle.model.specs.Sound.{alphabet_fits}
use Rattle.model.specs.Steps.{Search, lost, at_new_transition, at_unknown, at_difference}
use Rattle.model.specs.Facts.{Good, IsRecord, IsContext, Fits, Leads}

-- ROWS OF ANSWERS: two records differ where both answers are known; a record has a known yes
abbrev pub Differ : Store → (answers contexts : List ℕ) → (i j : ℕ) → Type 0
Differ x w cs i j =
    (c : ℕ) × In c cs × (answer_in x w c i ≢ 0) × (answer_in x w c j ≢ 0) × (answer_in x w c i ≢ answer_in x w c j)

abbrev pub Yes : Store → (answers contexts : List ℕ) → (i : ℕ) → Type 0
Yes x w cs i = (c : ℕ) × In c cs × (answer_in x w c i ≡ 2)

-- T2, T3 and T6 as the proposal needs them: r gives a record's row of answers
pub record Shaped (x : Store) (r : ℕ → List ℕ) (s t : List ℕ) : Type 0 where
  pub row : (i : ℕ) → In i t → (0 < i) × (i < used x)
  pub kids : (i : ℕ) → In i t → Each (λ (k : ℕ). In k s) (kids_at x i)
  pub among : (i : ℕ) → In i s → In i t
  pub differ : (i j : ℕ) → In i s → In j s → r i ≡ r j → i ≡ j
  pub covered : (i : ℕ) → In i t → (j : ℕ) × In j s × (r i ≡ r j)

-- T2, T3 and T5: contexts and records, S in T, children in S, representatives that differ, transitions with a yes
pub record Held (x : Store) (w s t cs : List ℕ) : Type 0 where
  pub context : (c : ℕ) → In c cs → IsContext x c
  pub row : (i : ℕ) → In i t → IsRecord x i
  pub kids : (i : ℕ) → In i t → Each (λ (k : ℕ). In k s) (kids_at x i)
  pub among : (i : ℕ) → In i s → In i t
  pub differ : (i j : ℕ) → In i s → In j s → i ≢ j → Differ x w cs i j
  pub yes : (i : ℕ) → In i t → Yes x w cs i
  pub one : Distinct s
  pub each_one : Distinct t

-- T1, T2, T3 and T5, without their numbers
pub record Core (x : Tables) : Type 0 where
  pub good : Good x.store
  pub counted : length x.answers ≡ used x.store
  pub first : answer_at x.answers 0 ≡ 0
  pub bound : (i : ℕ) → answer_at x.answers i ≤ 2
  pub held : Held x.store x.answers x.s x.t x.c

-- what T1 to T4 say besides, but for T4's last clause
pub record Tidy (x : Tables) : Type 0 where
  pub alphabet : alphabet_fits x.store.counts ≡ true
  pub blank : (i : ℕ) → i < used x.store → has_hole x.store i ≡ true → answer_at x.answers i ≡ 0
  pub few_t : length x.t ≤ most_rules
  pub few_s : length x.s ≤ most_states
  pub some_c : 1 ≤ length x.c
  pub hole_first_law : get_or x.c 0 1 ≡ 0
  pub one_c : Distinct x.c
  pub few_c : length x.c ≤ 1 + size x

-- no answer of T at C is missing; one is
abbrev pub Known : Tables → Type 0
Known x = (i c : ℕ) → In i x.t → In c x.c → answer_in x.store x.answers c i ≢ 0

abbrev pub Missing : Tables → Type 0
Missing x = (i : ℕ) × (c : ℕ) × In i x.t × In c x.c × (answer_in x.store x.answers c i ≡ 0)

-- T1 to T6 with no answer missing
pub record Whole (x : Tables) : Type 0 where
  pub core : Core x
  pub known : Known x
  pub shaped : Shaped x.store (row_of x) x.s x.t
  pub hole_in : In 0 x.c

-- T4's last clause: as many contexts as S and T have members, or the hole alone
abbrev pub Few : Tables → Type 0
Few x = (length x.c ≤ 1) ⊎ (length x.c ≤ size x)

-- T8: an open question
abbrev pub Open : Tables → Type 0
Open x = IsRecord x.store x.asked × (answer_at x.answers x.asked ≡ 0)

-- ANY AUTOMATON that agrees with the answers
pub record Agree (rules : List Rule) (finals : List ℕ) (x : Store) (w : List ℕ) : Type 0 where
  pub bound : (i : ℕ) → answer_at w i ≤ 2
  pub hole : answer_at w 0 ≡ 0
  pub says : (i : ℕ) → 0 < i → i < used x → has_hole x i ≡ false → answer_at w i ≢ 0 → is_final finals (row_state rules x i) ≡ eqb (answer_at w i) 2

-- THE SEARCH IN HAND: what it needs, and what holds where it ends
module _ (x : Store) (w s t cs : List ℕ) where
  abbrev pub proposed_state : (row : ℕ) → Option ℕ
  proposed_state i = row_state (rules_of x (answers_of x w cs) s t) x i

  abbrev pub proposed_verdict : Option ℕ → Bool
  proposed_verdict o = is_final (finals_of w s) o

  -- T7
  pub record HandFits (h : ℕ) : Type 0 where
    pub record_row : IsRecord x h
    pub known : answer_at w h ≢ 0
    pub small : answer_at w h ≤ 2
    pub against_it : proposed_verdict (proposed_state h) ≡ not (eqb (answer_at w h) 2)

  -- T1 to T6 with nothing missing, as far as the search uses them
  pub record Full : Type 0 where
    pub good : Good x
    pub shaped : Shaped x (answers_of x w cs) s t
    pub clear : (i : ℕ) → In i t → IsRecord x i
    pub known : (i : ℕ) → In i s → answer_at w i ≢ 0
    pub hole : answer_at w 0 ≡ 0
    pub bound : (i : ℕ) → answer_at w i ≤ 2

  pub record SpotAt (h : ℕ) (p : Spot) : Type 0 where
    pub fits : Fits x p.around
    pub leads : Leads x p.around p.row h
    pub record_row : IsRecord x p.row
    pub kids : Each (λ (k : ℕ). In k s) (kids_at x p.row)
    pub outside_s : In p.row s → ⊥

  pub data SearchEnd : Search → Type 0 where
    ends_new : {h : ℕ} {p : Spot} → HandFits h → SpotAt h p → (In p.row t → ⊥) → answer_at w h ≡ 2 → SearchEnd (at_new_transition h p)
    ends_unknown : {h : ℕ} {p : Spot} {rep : ℕ} → HandFits h → SpotAt h p → In p.row t → In rep s → answers_of x w cs p.row ≡ answers_of x w cs rep →
        answer_at w (filled_row x p.around rep) ≡ 0 → SearchEnd (at_unknown h p rep)
    ends_different : {h : ℕ} {p : Spot} {rep j : ℕ} → HandFits h → SpotAt h p → In p.row t → In rep s → answers_of x w cs p.row ≡ answers_of x w cs rep →
        Leads x p.around rep j → answer_at w j ≢ 0 → answer_at w j ≢ answer_at w h → SearchEnd (at_difference h p rep j)

-- The observation table (§1.5): stored records with their answers, S, T and C, and the automaton that it proposes.
use Rattle.std.specs.Prelude.{Bool, true, false, ◌&&◌, ◌||◌, not, cond, List, [], ◌∷◌, map, ℕ, zero, suc, ◌+◌, eqb, length, get_or}
use Rattle.model.specs.Base.{same, among, place_of}
use Rattle.model.specs.Store.{Store, symbol_at, kids_at, filled_row, frames_of}
use Rattle.model.specs.Automata.{Rule, Automaton}

-- A RUN's tables: the store, one answer for each used row (0 unknown, 1 no, 2 yes), representatives, transitions, contexts,
-- the record in hand and the open question (0 for none), accepted or not
pub record Tables : Type 0 where
  pub store : Store
  pub answers : List ℕ
  pub s : List ℕ
  pub t : List ℕ
  pub c : List ℕ
  pub hand : ℕ
  pub asked : ℕ
  pub accepted : Bool

abbrev pub tables : Store → (answers s t c : List ℕ) → (hand asked : ℕ) → (accepted : Bool) → Tables
tables x w s t c h o z =
    record { store = x; answers = w; s = s; t = t; c = c; hand = h; asked = o; accepted = z }

abbrev pub size : Tables → ℕ
size x = length x.s + length x.t

-- ANSWERS: of a row; of a record at a context; the row of a record
abbrev pub answer_at : (answers : List ℕ) → (row : ℕ) → ℕ
answer_at w i = get_or w i 0

abbrev pub answer_in : Store → (answers : List ℕ) → (context row : ℕ) → ℕ
answer_in x w c i = answer_at w (filled_row x (frames_of x c) i)

abbrev pub answers_of : Store → (answers contexts : List ℕ) → (row : ℕ) → List ℕ
answers_of x w cs i = map (λ (c : ℕ). answer_in x w c i) cs

unfoldable pub any_missing : (row_of : ℕ → List ℕ) → (records : List ℕ) → Bool
any_missing r [] = false
any_missing r (i ∷ is) = among 0 (r i) || any_missing r is

-- THE STATE of a row of answers: the place of the first representative that has it, past S for none
unfoldable pub state_from : (row_of : ℕ → List ℕ) → (row : List ℕ) → (from : ℕ) → (s : List ℕ) → ℕ
state_from r v n [] = n
state_from r v n (s ∷ ss) = cond (same v (r s)) n (state_from r v (suc n) ss)

-- THE PROPOSAL: a state for each representative, final if it got a yes; a rule for each transition, in T's order
abbrev pub finals_of : (answers s : List ℕ) → List ℕ
finals_of w s = map (λ (i : ℕ). cond (eqb (answer_at w i) 2) 1 0) s

abbrev pub rule_of : Store → (row_of : ℕ → List ℕ) → (s : List ℕ) → (transition : ℕ) → Rule
rule_of x r s i =
    record { symbol = symbol_at x i; states = map (λ (k : ℕ). place_of k 0 s) (kids_at x i); target = state_from r (r i) 0 s }

abbrev pub rules_of : Store → (row_of : ℕ → List ℕ) → (s t : List ℕ) → List Rule
rules_of x r s t = map (rule_of x r s) t

-- the same words of a run's tables
abbrev pub row_of : Tables → (row : ℕ) → List ℕ
row_of x i = answers_of x.store x.answers x.c i

abbrev pub is_missing : Tables → Bool
is_missing x = any_missing (row_of x) x.t

abbrev pub automaton_of : Tables → Automaton
automaton_of x =
    record {
      counts = x.store.counts;
      finals = finals_of x.answers x.s;
      rules = rules_of x.store (row_of x) x.s x.t;
    }

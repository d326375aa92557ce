-- The hypothesis by its representatives: a state is told by the row of its representative, and 0 is none.
-- Runs and verdicts are defined over the representatives alone; where they are those of rules (Ruled), the laws say that these are model's.
use Rattle.std.specs.Prelude.{◌≡◌, Bool, ◌&&◌, ◌||◌, not, cond, List, [], ◌∷◌, map, ℕ, suc, ◌≤◌, ◌<◌, eqb, length, get_or, take, drop, Result, Ok, Err}
use Rattle.std.proofs.Math.Option.{Option, none, some}
use Rattle.model.specs.Limits.{most_rows, most_states}
use Rattle.model.specs.Base.{In, Each, Distinct, among, place_of, top}
use Rattle.model.specs.Store.{Store, used, symbol_at, count_of, kids_at, fold, find_row}
use Rattle.model.specs.Automata.{Rule, Automaton, RunEnd, gives, stuck}
use Rattle.model.specs.Table.{answer_at, finals_of}
use Rattle.model.specs.Entry.{store_of, answers_in}
use Rattle.model.specs.declared.Verdict.{Verdict}
use Rattle.table.specs.Answers.{state_at}
use Rattle.model.specs.declared.Row.{Row}

-- THE REPRESENTATIVE of each transition, by the table of answers: of the first state with its row, 0 for none; rows that are no transition have 0
pub record RepsBy (table : List ℕ) (m : ℕ) (places s t reps : List ℕ) : Type 0 where
  pub right : (i : ℕ) → i < most_rows → get_or reps i 0 ≡ cond (among i t) (get_or s (state_at table m places (place_of i 0 t)) 0) 0

-- REPRESENTATIVES to read: one for each of the first n rows, itself one of them, or 0
pub record RepsIn (n : ℕ) (reps : List ℕ) : Type 0 where
  pub long : n ≤ length reps
  pub within : (i : ℕ) → i < n → get_or reps i 0 < n

-- A ROW'S REPRESENTATIVE: that of the row with its symbol over its children's representatives; 0 for row 0 and where a child has none
abbrev pub rep_over : Store → (reps : List ℕ) → (row symbol : ℕ) → (kids : List ℕ) → ℕ
rep_over x reps i a ks = cond (eqb i 0 || among 0 ks) 0 (get_or reps (find_row x a ks) 0)

abbrev pub rep_row : Store → (reps : List ℕ) → (row : ℕ) → ℕ
rep_row x reps i = fold (rep_over x reps) 0 x i

-- A RUN on a listed record, by a stack of representatives; it stops at the first symbol that finds none, and says its place
abbrev pub go_on_by : (place rep : ℕ) → (ℕ → Result Row ℕ) → Result Row ℕ
go_on_by p r next = cond (eqb r 0) (Err p) (next r)

unfoldable pub run_by : Store → (reps : List ℕ) → (place : ℕ) → (symbols stack : List ℕ) → Result Row ℕ
run_by x reps p [] [] = Err p
run_by x reps p [] (k ∷ ks) = Ok (record { 0 = k })
run_by x reps p (a ∷ xs) ks =
    go_on_by p (get_or reps (find_row x a (top (count_of x a) ks)) 0) (λ (r : ℕ). run_by x reps (suc p) xs (r ∷ drop (count_of x a) ks))

abbrev pub led_list : Store → (reps symbols : List ℕ) → Result Row ℕ
led_list x reps xs = run_by x reps 0 xs []

-- VERDICTS: by the answer of the representative, which is yes at a final state
abbrev pub accepts_by : Store → (answers reps : List ℕ) → (row : ℕ) → Bool
accepts_by x w reps i = not (eqb (rep_row x reps i) 0) && eqb (answer_at w (rep_row x reps i)) 2

abbrev pub led_verdict : (answers : List ℕ) → Result Row ℕ → Verdict
led_verdict w (Ok k) = cond (eqb (answer_at w k.0) 2) Verdict.Accepted Verdict.NotFinal
led_verdict w (Err p) = Verdict.NoRule p

abbrev pub verdict_list_by : Store → (answers reps symbols : List ℕ) → Verdict
verdict_list_by x w reps xs = led_verdict w (led_list x reps xs)

-- A RULE for each transition: its target is the place of its representative
abbrev pub rule_by : Store → (s reps : List ℕ) → (transition : ℕ) → Rule
rule_by x s reps i =
    record { symbol = symbol_at x i; states = map (λ (k : ℕ). place_of k 0 s) (kids_at x i); target = place_of (get_or reps i 0) 0 s }

abbrev pub rules_by : Store → (s t reps : List ℕ) → List Rule
rules_by x s t reps = map (rule_by x s reps) t

-- the hypothesis over lent words: the first q of S, the first n of T
abbrev pub hypothesis : (words counts : List ℕ) → (u : ℕ) → (s : List ℕ) → (q : ℕ) → (t : List ℕ) → (n : ℕ) → (reps : List ℕ) → Automaton
hypothesis ws ns u s q t n reps =
    record { counts = ns; finals = finals_of (answers_in u ws) (take q s); rules = rules_by (store_of ws ns u) (take q s) (take n t) reps }

-- WHAT A RUN NEEDS: T2, T3, and a representative in S for each transition
pub record Ruled (x : Store) (s t reps : List ℕ) : Type 0 where
  pub long : x.room ≤ length reps
  pub row : (i : ℕ) → In i t → (0 < i) × (i < used x)
  pub kids : (i : ℕ) → In i t → Each (λ (k : ℕ). In k s) (kids_at x i)
  pub among : (i : ℕ) → In i s → In i t
  pub one : Distinct s
  pub few : length s ≤ most_states
  pub covered : (i : ℕ) → In i t → In (get_or reps i 0) s
  pub others : (i : ℕ) → i < most_rows → (In i t → ⊥) → get_or reps i 0 ≡ 0

-- a state by its representative
abbrev pub rep_of : (s : List ℕ) → Option ℕ → ℕ
rep_of s none = 0
rep_of s (some q) = get_or s q 0

-- a run on a listed record: the representative of its state, or the place of the first symbol without a rule
abbrev pub led_by : (s : List ℕ) → RunEnd → Result Row ℕ
led_by s (gives q) = Ok (record { 0 = get_or s q 0 })
led_by s (stuck p) = Err p

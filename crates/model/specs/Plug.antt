-- Filling over trees (§1.3): a record in the place of a context's hole, and what filled rows, rows of answers and questions are by it.
use Rattle.std.specs.Prelude.{◌≡◌, ◌≢◌, true, cond, List, [], ◌∷◌, ◌++◌, map, ℕ, ◌+◌, ◌<◌, eqb}
use Rattle.model.specs.Limits.{hole_symbol}
use Rattle.model.specs.Base.{In}
use Rattle.model.specs.Store.{Store, used, is_record, is_context, built, fill, Frame, filled_row, frames_of, Spot}
use Rattle.model.specs.Terms.{Tree, tree_with, hole_tree, eval_tree, tree_at}
use Rattle.model.specs.Table.{Tables, answer_at, answer_in}
use Rattle.model.specs.Sound.{is_sound}
use Rattle.model.specs.Steps.{at_unknown, unknown, seek}
use Rattle.model.specs.Calls.{Call, leaves, call}
use Rattle.model.specs.Entry.{start_number}
use Rattle.model.specs.Run.{meant, started_run, after, said, said_in}
use Rattle.model.specs.Reached.{Begins, Settles, search_of}
use Rattle.model.specs.declared.Lists.{Lists}

-- A CONTEXT with a tree in the place of its hole
abbrev pub plug : (context t : Tree) → Tree
plug c t = eval_tree (λ (a : ℕ) (ts : List Tree). cond (eqb a hole_symbol) t (tree_with a ts)) c

-- frames around a tree; around the hole they are a context
unfoldable pub framed : Store → List Frame → Tree → Tree
framed x [] t = t
framed x (f ∷ fs) t = tree_with f.symbol (map (tree_at x) f.before ++ (framed x fs t ∷ map (tree_at x) f.behind))

abbrev pub context_of : Store → List Frame → Tree
context_of x fs = framed x fs hole_tree

abbrev pub plug_at : Store → (context row : ℕ) → Tree
plug_at x c i = plug (tree_at x c) (tree_at x i)

-- WHAT IS STORED about a record: the answer of its row, 0 where it has none
pub data StoredAbout (x : Tables) (t : Tree) : ℕ → Type 0 where
  in_row : (i : ℕ) → i < used x.store → tree_at x.store i ≡ t → StoredAbout x t (answer_at x.answers i)
  nowhere : ((i : ℕ) → i < used x.store → tree_at x.store i ≢ t) → StoredAbout x t 0

-- A CONTEXT FILLED, on sound tables: the row made has the plugged tree; the row found is 0 exactly if no used row has it;
-- the answer of a record at a context is what is stored about the plugged tree. A row is found for records, made for the hole as well
pub record Plugged (x : Tables) : Type 0 where
  pub made : (c i j : ℕ) (y : Store) → is_context x.store c ≡ true → i < used x.store → fill x.store (frames_of x.store c) i ≡ built j y →
      tree_at y j ≡ plug_at x.store c i
  pub found : (c i : ℕ) → is_context x.store c ≡ true → is_record x.store i ≡ true → filled_row x.store (frames_of x.store c) i ≢ 0 →
      let j = filled_row x.store (frames_of x.store c) i in
      (j < used x.store) × (tree_at x.store j ≡ plug_at x.store c i)
  pub absent : (c i : ℕ) → is_context x.store c ≡ true → is_record x.store i ≡ true → filled_row x.store (frames_of x.store c) i ≡ 0 →
      (j : ℕ) → j < used x.store → tree_at x.store j ≢ plug_at x.store c i
  pub answer : (c i : ℕ) → is_context x.store c ≡ true → is_record x.store i ≡ true →
      StoredAbout x (plug_at x.store c i) (answer_in x.store x.answers c i)

abbrev pub FillsTrees : Type 0
FillsTrees = (x : Tables) → is_sound x ≡ true → Plugged x

-- A QUESTION OPENED by a step: the record in hand with a representative in the place of the spot; or a member of T in a member of C
pub data AsksFor (begun : Tables) (asked : Tree) : Type 0 where
  of_search : {hand rep : ℕ} {p : Spot} → begun.hand ≢ 0 → search_of begun ≡ at_unknown hand p rep →
      tree_at begun.store hand ≡ plug (context_of begun.store p.around) (tree_at begun.store p.row) →
      asked ≡ plug (context_of begun.store p.around) (tree_at begun.store rep) → AsksFor begun asked
  of_seek : {c i : ℕ} (y : Tables) → Settles begun y → seek y.store y.answers y.c y.t ≡ unknown c i → asked ≡ plug_at y.store c i →
      AsksFor begun asked

abbrev pub AsksPlugs : Type 0
AsksPlugs =
    (x begun y : Tables) (k : Call) → is_sound x ≡ true → Begins x k begun → call x k ≡ leaves y → y.asked ≢ 0 → AsksFor begun (tree_at y.store y.asked)

-- THE ROW OF ANSWERS in a run from start: what was said of the record in each context, and nothing where nothing was said
pub record RowSaid (ws ns : List ℕ) (old : Lists) (ks : List Call) (c i : ℕ) : Type 0 where
  pub known : let x = meant (after (started_run ws ns old) ks) in
      (answer_in x.store x.answers c i ≢ 0) →
      (m : ℕ) × In (said (plug_at x.store c i) m) (said_in (started_run ws ns old) ks) × (answer_in x.store x.answers c i ≡ m + 1)
  pub stored : let x = meant (after (started_run ws ns old) ks) in
      (m : ℕ) → In (said (plug_at x.store c i) m) (said_in (started_run ws ns old) ks) → answer_in x.store x.answers c i ≡ m + 1

abbrev pub RowsSaid : Type 0
RowsSaid =
    (ws ns : List ℕ) (old : Lists) (ks : List Call) (c i : ℕ) → start_number ws ns ≡ 0 →
    let x = meant (after (started_run ws ns old) ks) in
    In c x.c → is_record x.store i ≡ true → RowSaid ws ns old ks c i

-- What is promised of records as text (§8.4): read exactly if written, and a round trip.
use Rattle.std.specs.Prelude.{◌≡◌, ◌≢◌, true, List, [], ◌∷◌, ℕ, ◌≤◌, ◌<◌, length, get_or}
use Rattle.std.proofs.Math.Option.{none}
use Rattle.model.specs.Limits.{most_children}
use Rattle.model.specs.Base.{Distinct, Each}
use Rattle.model.specs.Store.{Store, used}
use Rattle.model.specs.Terms.{Tree, Over, tree_at, tree_of, symbols_of}
use Rattle.model.specs.Automata.{state_of}
use Rattle.model.specs.Table.{automaton_of}
use Rattle.model.specs.Sound.{alphabet_fits}
use Rattle.model.specs.Calls.{offers}
use Rattle.model.specs.Facts.{Good, IsRecord}
use Rattle.model.specs.Entry.{tables_of, start_number, call_number}
use Rattle.model.specs.Run.{started_run, after}
use Rattle.model.specs.Verdicts.{NoRuleAt}
use Rattle.text.specs.Bytes.{is_letter}
use Rattle.text.specs.Alphabet.{alphabet, alphabet_of}
use Rattle.text.specs.Written.{text_of, row_text}
use Rattle.text.specs.Reading.{read_text}
use Rattle.text.specs.Lines.{calls, refused_text, place_text}
use Rattle.text.specs.Script.{heard, replied_to, calls_in, left_after}
use Rattle.text.specs.declared.Script.{Script}

-- letters and counts as a first line gives them
pub record Lettered (letters counts : List ℕ) : Type 0 where
  pub paired : length letters ≡ length counts
  pub distinct : Distinct letters
  pub letter : Each (λ (b : ℕ). is_letter b ≡ true) letters
  pub few : (symbol : ℕ) → get_or counts symbol 0 ≤ most_children

-- A FIRST LINE that start takes gives such letters and counts
pub record FirstLine : Type 0 where
  pub lettered : (line letters counts : List ℕ) → alphabet_of line ≡ alphabet letters counts → alphabet_fits counts ≡ true → Lettered letters counts

-- A TEXT IS READ EXACTLY IF it is the written form of a record over the alphabet; what is read are its symbols, children before parent
pub record ReadExactly : Type 0 where
  pub written_is_read : (letters counts : List ℕ) → Lettered letters counts → (t : Tree) → Over counts t →
      read_text letters counts (text_of letters t) ≡ symbols_of t
  pub read_is_written : (letters counts text : List ℕ) → Lettered letters counts → read_text letters counts text ≢ [] →
      (t : Tree) × Over counts t × (text ≡ text_of letters t) × (read_text letters counts text ≡ symbols_of t)

-- WHAT IS PRINTED, read again, is the record
pub record RoundTrip : Type 0 where
  pub printed : (letters : List ℕ) (x : Store) → Good x → (row : ℕ) → row < used x → row_text letters x row ≡ text_of letters (tree_at x row)
  pub over : (x : Store) → Good x → (row : ℕ) → IsRecord x row → Over x.counts (tree_at x row)
  pub listed : (counts : List ℕ) (t : Tree) → Over counts t → tree_of counts (symbols_of t) ≡ t
  pub back : (letters : List ℕ) (x : Store) → Good x → Lettered letters x.counts → (row : ℕ) → IsRecord x row →
      tree_of x.counts (read_text letters x.counts (row_text letters x row)) ≡ tree_at x row

-- A SCRIPT IS A RUN from start: a first line that start takes, then the calls of the lines behind it; what is promised of runs holds of scripts
pub record ScriptIsRun : Type 0 where
  pub left : (words : List ℕ) (z : Script) (line letters counts : List ℕ) (lines : List (List ℕ)) → z.stage ≡ 0 → alphabet_of line ≡ alphabet letters counts →
      start_number words counts ≡ 0 →
      left_after words z (line ∷ lines) ≡
      after (started_run words counts z.lists) (calls_in (replied_to words z line).words (replied_to words z line).script lines)

-- 32 IN A SCRIPT is told with the place of the leftmost innermost symbol that found no rule; with none where the rules give the root a state
pub record PlaceTold : Type 0 where
  pub no_rule_law : (words : List ℕ) (z : Script) (xs : List ℕ) (m p : ℕ) → call_number words z.lists (offers xs m) ≡ 32 →
      NoRuleAt (automaton_of (tables_of words z.lists)) xs p → (heard words z (calls (offers xs m))).text ≡ place_text p
  pub with_state_law : (words : List ℕ) (z : Script) (xs : List ℕ) (m : ℕ) → call_number words z.lists (offers xs m) ≡ 32 →
      let d = automaton_of (tables_of words z.lists) in
      state_of d (tree_of d.counts xs) ≢ none → (heard words z (calls (offers xs m))).text ≡ refused_text 32

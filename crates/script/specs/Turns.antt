-- The turns of the script program (§8.1): each answers the line that begins at a place, and moves behind it. Those of a whole input say its output.
use Rattle.std.specs.Prelude.{◌≡◌, true, List, [], ◌++◌, ℕ, ◌+◌, ◌*◌, ◌≤◌, ◌<◌, length, replicate}
use Rattle.model.specs.Limits.{row_width}
use Rattle.model.specs.Base.{over}
use Rattle.text.specs.Bytes.{most_input}
use Rattle.text.specs.Script.{Reply, replied_to, script_rows, fresh_script, output_of}
use Rattle.text.specs.declared.Script.{Script}
use Rattle.script.specs.declared.Turned.{Turned}
use Rattle.script.specs.declared.Left.{Left}
use Rattle.script.specs.LineEnd.{line_end, line_at}

-- A TURN: the reply to the line at a place, and the place behind the line's end
pub record TurnAs (p : Reply) (end : ℕ) (r : Turned) (words' out out' : List ℕ) : Type 0 where
  pub size : r.size ≡ length p.text
  pub script : r.script ≡ p.script
  pub next : r.next ≡ end + 1
  pub words : words' ≡ p.words
  pub bytes : out' ≡ over p.text out

abbrev pub reply_at : (input words : List ℕ) → Script → (at : ℕ) → Reply
reply_at bs ws z at = replied_to ws z (line_at bs at)

-- THE TURNS over an input: they begin with the fresh script over zeros, 2,730 rows of them; what they say, what they leave, and the place reached
pub data Turns (input : List ℕ) : (said words : List ℕ) → Script → (at : ℕ) → Type 0 where
  begun : Turns input [] (replicate (row_width * script_rows) 0) fresh_script 0
  next : {said ws : List ℕ} {z : Script} {at : ℕ} → Turns input said ws z at → at < length input →
      Turns input (said ++ (reply_at input ws z at).text) (reply_at input ws z at).words (reply_at input ws z at).script (line_end input at + 1)

-- turns lead to these words, this script and this place
pub record Reached (input words : List ℕ) (z : Script) (at : ℕ) : Type 0 where
  pub said : List ℕ
  pub turns : Turns input said words z at

-- LINES ANSWERED, all of them unless a write failed
pub record Answered (input words' : List ℕ) (r : Left) : Type 0 where
  pub reached : Reached input words' r.script r.at
  pub passed : r.written ≡ true → length input ≤ r.at

-- AN INPUT ANSWERED: turns have passed its end, and what they said is its output
pub record AllSaid (input words : List ℕ) : Type 0 where
  pub said : List ℕ
  pub script : Script
  pub at : ℕ
  pub turns : Turns input said words script at
  pub passed : length input ≤ at
  pub output : said ≡ output_of input

-- TURNS THAT PASS THE END of an input have said its output; every input has such turns
pub record TurnsAnswer : Type 0 where
  pub say : (input said words : List ℕ) (z : Script) (at : ℕ) → length input ≤ most_input → Turns input said words z at → length input ≤ at → said ≡ output_of input
  pub end : (input : List ℕ) → length input ≤ most_input → (words : List ℕ) × AllSaid input words

-- BYTES THAT COME LATER change no turn over whole lines before them
abbrev pub TurnsKept : Type 0
TurnsKept =
    (input more said words : List ℕ) (z : Script) (at : ℕ) → at ≤ length input → Turns input said words z at → Turns (input ++ more) said words z at

-- The lines of a script: what a later line asks for (§8.3), and the line that tells a call's outcome (§8.5).
use Rattle.std.specs.Prelude.{Bool, ◌&&◌, ◌||◌, cond, List, [], ◌∷◌, ◌++◌, ℕ, leb, eqb, length, get_or, drop}
use Rattle.model.specs.Limits.{most_listed}
use Rattle.model.specs.Base.{same}
use Rattle.model.specs.Store.{Store}
use Rattle.model.specs.Calls.{Call, offers, answers, accept}
use Rattle.model.specs.declared.Seen.{Seen}
use Rattle.model.specs.declared.Judged.{Judged}
use Rattle.model.specs.Terms.{size_of}
use Rattle.text.specs.Bytes.{newline, space, plus, minus, decimal, accepted_word, ask_word, propose_word, refused_word, row_word, unread_word, yes_word, no_word, ok_word, most_input}
use Rattle.text.specs.Written.{row_text}
use Rattle.text.specs.Reading.{read_text}

-- A LATER LINE
pub data Line : Type 0 where
  unread_line : Line
  calls : Call → Line

-- a sign and a space
abbrev pub is_offer : (line : List ℕ) → Bool
is_offer bs = (eqb (get_or bs 0 0) plus || eqb (get_or bs 0 0) minus) && eqb (get_or bs 1 0) space

abbrev pub sign_mark : (line : List ℕ) → ℕ
sign_mark bs = cond (eqb (get_or bs 0 0) plus) 1 0

abbrev pub offering : (symbols : List ℕ) → (mark : ℕ) → Line
offering [] m = unread_line
offering (a ∷ xs) m = calls (offers (a ∷ xs) m)

abbrev pub line_of : (letters counts line : List ℕ) → Line
line_of ls ns bs =
    cond (same bs yes_word) (calls (answers 1))
    (cond (same bs no_word) (calls (answers 0))
    (cond (same bs ok_word) (calls accept)
    (cond (is_offer bs && leb (length bs) most_input) (offering (read_text ls ns (drop 2 bs)) (sign_mark bs)) unread_line)))

-- AN OUTPUT LINE ends with a newline
abbrev pub ended : (text : List ℕ) → List ℕ
ended t = t ++ (newline ∷ [])

abbrev pub numbered : (text : List ℕ) → (number : ℕ) → List ℕ
numbered t n = t ++ (space ∷ decimal n)

abbrev pub unread_text : List ℕ
unread_text = ended unread_word

abbrev pub accepted_text : List ℕ
accepted_text = ended accepted_word

abbrev pub refused_text : (number : ℕ) → List ℕ
refused_text n = ended (numbered refused_word n)

-- an offer that got 32, by the verdict asked next: beside outcome 3 the place of the symbol that found no rule (§3.8)
abbrev pub place_text : (place : ℕ) → List ℕ
place_text p = ended (numbered (numbered refused_word 32) p)

abbrev pub agreed_text : Judged → List ℕ
agreed_text v = cond (eqb v.outcome 3) (place_text v.place) (refused_text 32)

abbrev pub propose_text : (states rules contexts : ℕ) → List ℕ
propose_text s t c = ended (numbered (numbered (numbered propose_word s) t) c)

-- a record of at most 1,024 symbols is written out
abbrev pub question_text : (letters : List ℕ) → Store → (row : ℕ) → List ℕ
question_text ls x i = cond (leb (size_of x i) most_listed) (row_text ls x i) (numbered row_word i)

abbrev pub ask_text : (letters : List ℕ) → Store → (row : ℕ) → List ℕ
ask_text ls x i = ended (ask_word ++ (space ∷ question_text ls x i))

-- what was seen of a call that left this store
abbrev pub seen_text : (letters : List ℕ) → Store → Seen → List ℕ
seen_text ls x v =
    cond (eqb v.number 0)
    (cond (eqb v.phase 2) accepted_text (cond (eqb v.phase 1) (ask_text ls x v.row) (propose_text v.states v.rules v.contexts)))
    (refused_text v.number)

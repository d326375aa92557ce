-- The script (§8) as a function from a line and what stands between two lines to the reply and what stands after it.
use Rattle.std.specs.Prelude.{cond, List, [], ◌∷◌, ◌++◌, ℕ, ◌*◌, ltb, eqb, take, replicate}
use Rattle.model.specs.Limits.{row_width, most_symbols}
use Rattle.model.specs.Base.{over}
use Rattle.model.specs.Calls.{Call, offers, answers, accept, looks, emits, judges}
use Rattle.model.specs.Entry.{tables_of, zero_lists, start_seen, start_words, start_lists, start_number, call_number, call_seen, call_words, call_lists, judge_seen}
use Rattle.model.specs.Run.{Lent}
use Rattle.model.specs.declared.Lists.{Lists}
use Rattle.model.specs.declared.Seen.{Seen}
use Rattle.text.specs.Bytes.{newline, most_input, reply_room}
use Rattle.text.specs.Alphabet.{Alphabet, no_alphabet, alphabet, alphabet_of}
use Rattle.text.specs.Lines.{Line, unread_line, calls, line_of, unread_text, agreed_text, seen_text}
use Rattle.text.specs.declared.Script.{Script}

-- WHAT A LINE GETS: the output line, [] for none, and what stands after it
pub record Reply : Type 0 where
  pub text : List ℕ
  pub words : List ℕ
  pub script : Script

abbrev pub reply : (text words : List ℕ) → Script → Reply
reply t ws z = record { text = t; words = ws; script = z }

abbrev pub script : (stage : ℕ) → (letters : List ℕ) → Lists → Script
script k ls l = record { stage = k; letters = ls; lists = l }

-- the letters and counts of the symbols
abbrev pub letters_of : Script → List ℕ
letters_of z = take z.lists.letters z.letters

abbrev pub counts_of : Script → List ℕ
counts_of z = take z.lists.letters z.lists.counts

-- what was seen of a call that left these words and this script
abbrev pub told : (words : List ℕ) → Script → Seen → Reply
told ws z v = reply (seen_text (letters_of z) (tables_of ws z.lists).store v) ws z

-- THE FIRST LINE (§8.2): unread or refused, it ends the script
abbrev pub opened : (words : List ℕ) → Script → Alphabet → Reply
opened ws z no_alphabet = reply unread_text ws (script 2 z.letters z.lists)
opened ws z (alphabet ls ns) =
    cond (eqb (start_number ws ns) 0)
    (told (start_words ws ns) (script 1 (over ls z.letters) (start_lists ws ns z.lists)) (start_seen ws ns))
    (told ws (script 2 z.letters z.lists) (start_seen ws ns))

-- an offer: where it got 32 the verdict on its record is asked, which changes nothing, and that is told
abbrev pub offer_told : (words : List ℕ) → Script → (symbols : List ℕ) → Seen → Reply
offer_told ws z xs v = cond (eqb v.number 32) (reply (agreed_text (judge_seen ws z.lists xs)) ws z) (told ws z v)

-- any call: an offer is told in its own way, all others alike
abbrev pub call_told : (words : List ℕ) → Script → Call → Seen → Reply
call_told ws z (offers xs m) v = offer_told ws z xs v
call_told ws z (answers m) v = told ws z v
call_told ws z accept v = told ws z v
call_told ws z looks v = told ws z v
call_told ws z (emits r) v = told ws z v
call_told ws z (judges xs) v = told ws z v

-- A LATER LINE (§8.3): unread, it is no call
abbrev pub heard : (words : List ℕ) → Script → Line → Reply
heard ws z unread_line = reply unread_text ws z
heard ws z (calls k) =
    call_told (call_words ws z.lists k) (script z.stage z.letters (call_lists ws z.lists k)) k (call_seen ws z.lists k)

-- ANY LINE: nothing is said and nothing changes once the script has ended, nor where a reply may not fit
abbrev pub replied_to : (words : List ℕ) → Script → (line : List ℕ) → Reply
replied_to ws z bs =
    cond (eqb z.stage 0) (opened ws z (alphabet_of bs))
    (cond (eqb z.stage 1) (heard ws z (line_of (letters_of z) (counts_of z) bs)) (reply [] ws z))

abbrev pub reply_to : (words : List ℕ) → Script → (line : List ℕ) → (room : ℕ) → Reply
reply_to ws z bs r = cond (ltb r reply_room) (reply [] ws z) (replied_to ws z bs)

-- THE WHOLE SCRIPT (§8.1): the lines of the first 65,536 bytes, one after the other, over 2,730 rows
unfoldable pub lines_from : (line bytes : List ℕ) → List (List ℕ)
lines_from [] [] = []
lines_from (b ∷ line) [] = (b ∷ line) ∷ []
lines_from line (b ∷ bs) = cond (eqb b newline) (line ∷ lines_from [] bs) (lines_from (line ++ (b ∷ [])) bs)

unfoldable pub replies_to : (words : List ℕ) → Script → (lines : List (List ℕ)) → List ℕ
replies_to ws z [] = []
replies_to ws z (l ∷ ls) = (replied_to ws z l).text ++ replies_to (replied_to ws z l).words (replied_to ws z l).script ls

abbrev pub script_rows : ℕ
script_rows = 2730

abbrev pub fresh_script : Script
fresh_script = script 0 (replicate most_symbols 0) zero_lists

abbrev pub output_of : (input : List ℕ) → List ℕ
output_of bs = replies_to (replicate (row_width * script_rows) 0) fresh_script (lines_from [] (take most_input bs))

-- A SCRIPT AS A RUN: the calls of its later lines in order, and the tables that lines leave. An unread line makes no call, an offer that got 32 two
abbrev pub verdict_after : (number : ℕ) → Call → List Call
verdict_after n (offers xs m) = cond (eqb n 32) (judges xs ∷ []) []
verdict_after n (answers m) = []
verdict_after n accept = []
verdict_after n looks = []
verdict_after n (emits r) = []
verdict_after n (judges xs) = []

abbrev pub call_in : (words : List ℕ) → Script → Line → List Call
call_in ws z unread_line = []
call_in ws z (calls k) = k ∷ verdict_after (call_number ws z.lists k) k

unfoldable pub calls_in : (words : List ℕ) → Script → (lines : List (List ℕ)) → List Call
calls_in ws z [] = []
calls_in ws z (l ∷ ls) = call_in ws z (line_of (letters_of z) (counts_of z) l) ++ calls_in (replied_to ws z l).words (replied_to ws z l).script ls

abbrev pub lent_of : (words : List ℕ) → Script → Lent
lent_of ws z = record { words = ws; lists = z.lists }

unfoldable pub left_after : (words : List ℕ) → Script → (lines : List (List ℕ)) → Lent
left_after ws z [] = lent_of ws z
left_after ws z (l ∷ ls) = left_after (replied_to ws z l).words (replied_to ws z l).script ls

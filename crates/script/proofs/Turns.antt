-- The turns of an input that have passed its end have said its output, and every input has such turns; bytes that come later change none.
-- What the turns have said, with the replies to what is left, is always the output: a turn moves the first line of what is left over to what was
-- said. A line whose newline is there ends at the same place, whatever follows.
use mathlib.Core.Path.{◌≡◌, refl, sym, ap, subst, ◌∙◌}
use mathlib.Core.Bool.{Bool, true, false, cond}
use mathlib.Core.List.{List, [], ◌∷◌, ◌++◌, append_assoc}
use Prim.Native.Nat.{ℕ, zero, suc, ◌+◌, ◌-◌, ◌*◌, ◌≤◌, ◌<◌}
use native.Mathlib.Omega.{arith}
use lib.Dec.{ltb, eqb}
use borrow.Author.Tests.{ltb-true, ltb-false}
use lib.ListN.{length, take, drop, replicate, length-append, length-drop, drop_of_length-le}
use lib.Seq.{take_all, take-append-le, drop-append-le}
use Rattle.model.specs.Limits.{row_width}
use Rattle.text.specs.Bytes.{newline, most_input}
use Rattle.text.specs.Script.{lines_from, replied_to, replies_to, script_rows, fresh_script, output_of}
use Rattle.text.specs.declared.Script.{Script}
use Rattle.script.specs.LineEnd.{line_length, line_end, line_at}
use Rattle.script.specs.declared.Turned.{Turned}
use Rattle.script.specs.Turns.{TurnAs, reply_at, Turns, begun, next, Reached, AllSaid, TurnsAnswer, TurnsKept}
use Rattle.script.proofs.Laws.{by_test}
use Rattle.script.proofs.LineEnd.{append_nil, lines_cut}

-- the replies to the lines from a place on
abbrev left : (input words : List ℕ) → Script → (at : ℕ) → List ℕ
left bs ws z at = replies_to ws z (lines_from [] (drop at bs))

left_next : (bs ws : List ℕ) (z : Script) (at : ℕ) → at < length bs →
    left bs ws z at ≡ (reply_at bs ws z at).text ++ left bs (reply_at bs ws z at).words (reply_at bs ws z at).script (line_end bs at + 1)
unfolding replies_to
left_next bs ws z at l = ap (replies_to ws z) (lines_cut bs at l)

left_none : (bs ws : List ℕ) (z : Script) (at : ℕ) → length bs ≤ at → left bs ws z at ≡ []
unfolding replies_to lines_from
left_none bs ws z at l = ap (λ (cs : List ℕ). replies_to ws z (lines_from [] cs)) (drop_of_length-le bs {i = at} l)

-- what has been said and what is left to say are always the same together
said_left : {bs said ws : List ℕ} {z : Script} {at : ℕ} → Turns bs said ws z at →
    said ++ left bs ws z at ≡ left bs (replicate (row_width * script_rows) 0) fresh_script 0
said_left begun = refl
said_left {bs} (next {said} {ws} {z} {at} t l) =
    append_assoc said (reply_at bs ws z at).text (left bs (reply_at bs ws z at).words (reply_at bs ws z at).script (line_end bs at + 1)) ∙
    sym (ap (λ (xs : List ℕ). said ++ xs) (left_next bs ws z at l)) ∙
    said_left t

say : (bs said ws : List ℕ) (z : Script) (at : ℕ) → length bs ≤ most_input → Turns bs said ws z at → length bs ≤ at → said ≡ output_of bs
say bs said ws z at m t l =
    append_nil said ∙ sym (ap (λ (xs : List ℕ). said ++ xs) (left_none bs ws z at l)) ∙ said_left t ∙
    sym (ap (λ (cs : List ℕ). replies_to (replicate (row_width * script_rows) 0) fresh_script (lines_from [] cs)) (take_all most_input bs m))

pub all_said : {bs said ws : List ℕ} {z : Script} {at : ℕ} → length bs ≤ most_input → Turns bs said ws z at → length bs ≤ at → AllSaid bs ws
all_said {bs} {said} {ws} {z} {at} m t l = record { said = said; script = z; at = at; turns = t; passed = l; output = say bs said ws z at m t l }

-- turn after turn, of which each passes a byte at least
go_on : (fuel : ℕ) (bs said ws : List ℕ) (z : Script) (at : ℕ) → length bs ≤ most_input → length bs ≤ at + fuel → Turns bs said ws z at →
    (words : List ℕ) × AllSaid bs words
go_on zero bs said ws z at m f t = (ws, all_said m t (omega arith))
go_on (suc n) bs said ws z at m f t =
    by_test (ltb at (length bs))
    (λ e.
    let l = ltb-true at (length bs) e in
    let p = reply_at bs ws z at in
    go_on n bs (said ++ p.text) p.words p.script (line_end bs at + 1) m (omega arith) (next t l))
    (λ e. (ws, all_said m t (ltb-false at (length bs) e)))

pub turns_answer : TurnsAnswer
turns_answer = record { say = say; end = λ bs m. go_on (length bs) bs [] (replicate (row_width * script_rows) 0) fresh_script 0 m (omega arith) begun }

-- a newline that is there ends the line, whatever follows
length_kept : (bs more : List ℕ) → line_length bs < length bs → line_length (bs ++ more) ≡ line_length bs
unfolding line_length
length_kept [] more l = absurd (omega arith)
length_kept (b ∷ bs) more l = go (eqb b newline) l (length_kept bs more)
  where
    go : (t : Bool) → cond t 0 (suc (line_length bs)) < suc (length bs) → (line_length bs < length bs → line_length (bs ++ more) ≡ line_length bs) →
        cond t 0 (suc (line_length (bs ++ more))) ≡ cond t 0 (suc (line_length bs))
    go true k h = refl
    go false k h = ap suc (h (omega arith))

module _ (bs more : List ℕ) (at : ℕ) (l : line_end bs at < length bs) where
  pub end_kept : line_end (bs ++ more) at ≡ line_end bs at
  end_kept =
      let d = length-drop at bs in
      ap (λ (cs : List ℕ). at + line_length cs) (drop-append-le at bs more (omega arith)) ∙ ap (λ (n : ℕ). at + n) (length_kept (drop at bs) more (omega arith))

  pub line_kept : line_at (bs ++ more) at ≡ line_at bs at
  line_kept =
      let d = length-drop at bs in
      (λ t. take (end_kept t - at) (drop-append-le at bs more (omega arith) t)) ∙ take-append-le (line_end bs at - at) (drop at bs) more (omega arith)

kept : (bs more : List ℕ) {said ws : List ℕ} {z : Script} {at : ℕ} → at ≤ length bs → Turns bs said ws z at → Turns (bs ++ more) said ws z at
kept bs more l begun = begun
kept bs more l (next {said} {ws} {z} {at} t k) =
    let n = length-append bs more in
    let e : line_end bs at < length bs = omega (arith, l) in
    let p = reply_at bs ws z at in
    subst (λ (end : ℕ). Turns (bs ++ more) (said ++ p.text) p.words p.script (end + 1)) (end_kept bs more at e)
    (subst
    (λ (line : List ℕ). let q = replied_to ws z line in Turns (bs ++ more) (said ++ q.text) q.words q.script (line_end (bs ++ more) at + 1))
    (line_kept bs more at e)
    (next (kept bs more (omega arith) t) (omega arith)))

pub turns_kept : TurnsKept
turns_kept bs more said ws z at l t = kept bs more l t

-- NO TURN YET
pub reached_none : (bs ws : List ℕ) (z : Script) → ws ≡ replicate (row_width * script_rows) 0 → z ≡ fresh_script → Reached bs ws z 0
reached_none bs ws z e f =
    subst (λ (us : List ℕ). Reached bs us z 0) (sym e)
    (subst (λ (y : Script). Reached bs (replicate (row_width * script_rows) 0) y 0) (sym f) record { said = []; turns = begun })

-- A TURN leads on
pub turn_reached : {bs ws ws' out out' : List ℕ} {z : Script} {at : ℕ} {r : Turned} → Reached bs ws z at → at < length bs →
    TurnAs (reply_at bs ws z at) (line_end bs at) r ws' out out' → Reached bs ws' r.script r.next
turn_reached {bs} {ws} {z = z} {at} {r} h l a =
    let p = reply_at bs ws z at in
    let on : Reached bs p.words p.script (line_end bs at + 1) = record { said = h.said ++ p.text; turns = next h.turns l } in
    subst (λ (us : List ℕ). Reached bs us r.script r.next) (sym a.words)
    (subst (λ (y : Script). Reached bs p.words y r.next) (sym a.script)
    (subst (λ (k : ℕ). Reached bs p.words p.script k) (sym a.next) on))

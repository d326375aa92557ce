-- A script is a run from start: line by line, what a reply leaves is what the line's calls leave; an unread line and a verdict leave everything.
-- By induction on the lines. A verdict needs arrays of their lengths, which start gives and calls keep.
use mathlib.Core.Path.{◌≡◌, refl, sym, ap, ◌∙◌, subst}
use mathlib.Core.Bool.{Bool, true, false, cond}
use mathlib.Core.List.{List, [], ◌∷◌, ◌++◌}
use Prim.Native.Nat.{ℕ}
use lib.Dec.{eqb}
use Rattle.model.specs.Calls.{Call, offers, answers, accept, looks, emits, judges}
use Rattle.model.specs.Entry.{Arrays, start_number, call_number, call_seen}
use Rattle.model.specs.Run.{Lent, started_run, after_call, after}
use Rattle.model.specs.declared.Seen.{Seen}
use Rattle.model.proofs.Laws.Arrays.{start_arrays, call_arrays}
use Rattle.model.proofs.Promises.Calls.{reads_untouched}
use Rattle.text.specs.Alphabet.{alphabet, alphabet_of}
use Rattle.text.specs.Lines.{Line, unread_line, calls, line_of}
use Rattle.text.specs.Script.{Reply, reply, script, letters_of, counts_of, opened, call_told, heard, replied_to, verdict_after, call_in, calls_in, lent_of, left_after}
use Rattle.text.specs.Promise.{ScriptIsRun}
use Rattle.text.specs.declared.Script.{Script}

-- THE VERDICT behind an offer changes nothing, nor does the way a call is told
verdict_then : (n : ℕ) (k : Call) (l : Lent) → Arrays l.lists → (ks : List Call) → after l (verdict_after n k ++ ks) ≡ after l ks
unfolding after
verdict_then n (offers xs m) l a ks = go (eqb n 32)
  where
    go : (b : Bool) → after l (cond b (judges xs ∷ []) [] ++ ks) ≡ after l ks
    go true = ap (λ (j : Lent). after j ks) (reads_untouched l (judges xs) a refl)
    go false = refl
verdict_then n (answers m) l a ks = refl
verdict_then n accept l a ks = refl
verdict_then n looks l a ks = refl
verdict_then n (emits r) l a ks = refl
verdict_then n (judges xs) l a ks = refl

abbrev silent : Reply → Reply
silent p = reply [] p.words p.script

told_silent : (ws : List ℕ) (z : Script) (k : Call) (v : Seen) → silent (call_told ws z k v) ≡ reply [] ws z
told_silent ws z (offers xs m) v = go _ _ (eqb v.number 32)
  where
    go : (s t : List ℕ) (b : Bool) → silent (cond b (reply s ws z) (reply t ws z)) ≡ reply [] ws z
    go s t true = refl
    go s t false = refl
told_silent ws z (answers m) v = refl
told_silent ws z accept v = refl
told_silent ws z looks v = refl
told_silent ws z (emits r) v = refl
told_silent ws z (judges xs) v = refl

-- THE LATER LINES
abbrev GoesOn : (lines : List (List ℕ)) → Type 0
GoesOn ls = (ws : List ℕ) (z : Script) → z.stage ≡ 1 → Arrays z.lists → left_after ws z ls ≡ after (lent_of ws z) (calls_in ws z ls)

-- one line heard, then others
heard_on : (ls : List (List ℕ)) → GoesOn ls → (ws : List ℕ) (z : Script) → z.stage ≡ 1 → Arrays z.lists → (x : Line) →
    left_after (heard ws z x).words (heard ws z x).script ls ≡ after (lent_of ws z) (call_in ws z x ++ calls_in (heard ws z x).words (heard ws z x).script ls)
unfolding after
heard_on ls on ws z e a unread_line = on ws z e a
heard_on ls on ws z e a (calls k) =
    let l = after_call (lent_of ws z) k in
    let y = script z.stage z.letters l.lists in
    let n = call_number ws z.lists k in
    let b = call_arrays (lent_of ws z) k a in
    subst (λ (p : Reply). left_after p.words p.script ls ≡ after l (verdict_after n k ++ calls_in p.words p.script ls))
    (sym (told_silent l.words y k (call_seen ws z.lists k)))
    (on l.words y e b ∙ sym (verdict_then n k l b (calls_in l.words y ls)))

replied_later : (ws : List ℕ) (z : Script) (l : List ℕ) → z.stage ≡ 1 → replied_to ws z l ≡ heard ws z (line_of (letters_of z) (counts_of z) l)
replied_later ws z l e = rw e

goes_on : (ls : List (List ℕ)) → GoesOn ls
unfolding left_after after calls_in
goes_on [] ws z e a = refl
goes_on (l ∷ ls) ws z e a =
    let x = line_of (letters_of z) (counts_of z) l in
    let q = replied_later ws z l e in
    ap (λ (p : Reply). left_after p.words p.script ls) q ∙ heard_on ls (goes_on ls) ws z e a x ∙
    ap (λ (p : Reply). after (lent_of ws z) (call_in ws z x ++ calls_in p.words p.script ls)) (sym q)

-- THE FIRST LINE, taken
module _ (ws : List ℕ) (z : Script) (line bs ns : List ℕ) (e : z.stage ≡ 0) (a : alphabet_of line ≡ alphabet bs ns) (n : start_number ws ns ≡ 0) where
  replied_first : replied_to ws z line ≡ opened ws z (alphabet bs ns)
  replied_first = rw (e, a)

  first_left : lent_of (replied_to ws z line).words (replied_to ws z line).script ≡ started_run ws ns z.lists
  first_left = ap (λ (p : Reply). lent_of p.words p.script) replied_first ∙ rw n

  first_stage : (replied_to ws z line).script.stage ≡ 1
  first_stage = ap (λ (p : Reply). p.script.stage) replied_first ∙ rw n

  first_arrays : Arrays (replied_to ws z line).script.lists
  first_arrays = subst (λ (l : Lent). Arrays l.lists) (sym first_left) (start_arrays ws ns z.lists n)

pub script_is_run : ScriptIsRun
unfolding left_after
script_is_run = record { left = left }
  where
    left : (ws : List ℕ) (z : Script) (line bs ns : List ℕ) (ls : List (List ℕ)) → z.stage ≡ 0 → alphabet_of line ≡ alphabet bs ns → start_number ws ns ≡ 0 →
        left_after ws z (line ∷ ls) ≡ after (started_run ws ns z.lists) (calls_in (replied_to ws z line).words (replied_to ws z line).script ls)
    left ws z line bs ns ls e a n =
        goes_on ls _ _ (first_stage ws z line bs ns e a n) (first_arrays ws z line bs ns e a n) ∙ rw (first_left ws z line bs ns e a n)

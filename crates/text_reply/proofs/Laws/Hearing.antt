-- A later line heard: what it asks for decides the line, an offer is read from a copy of its record, and a call's reply is told of what the call left.
-- The two readings of a line test the same words in the same order; a taken prefix of the copy is the record's text.
use mathlib.Core.Path.{◌≡◌, refl, sym, ap, ◌∙◌, subst}
use mathlib.Core.Bool.{Bool, true, false, ◌&&◌, ◌||◌, cond, true≢false}
use mathlib.Core.List.{List, [], ◌∷◌}
use Prim.Native.Nat.{ℕ, ◌+◌, ◌-◌, ◌≤◌, min}
use native.Mathlib.Omega.{arith}
use lib.Dec.{leb, eqb}
use borrow.Author.Tests.{leb-true, eq-eqb}
use borrow.Author.Rules.{part_to_end}
use lib.ListN.{length, get_or, take, drop, length-take, length-drop}
use Rattle.model.specs.Limits.{most_symbols}
use Rattle.model.specs.Base.{same}
use Rattle.model.specs.Entry.{judge_seen}
use Rattle.model.specs.Refusals.{refused_by}
use Rattle.model.specs.declared.Lists.{Lists}
use Rattle.model.specs.declared.Seen.{Seen}
use Rattle.model.specs.declared.refusal.Refusal.{Refusal}
use Rattle.model.specs.Calls.{Call, offers, answers, accept}
use Rattle.model.proofs.Laws.Tests.{both_true, and_right}
use Rattle.model.proofs.Laws.Lent.{take_over}
use Rattle.list.specs.Put.{put_at}
use Rattle.list.proofs.Put.{put_over, put_length}
use Rattle.call.specs.Calls.{CallAs, done_seen, done_lists}
use Rattle.text.specs.Bytes.{space, plus, minus, yes_word, no_word, ok_word, most_input}
use Rattle.text.specs.Reading.{read_text}
use Rattle.text.specs.Lines.{Line, unread_line, calls, is_offer, sign_mark, offering, line_of, unread_text, agreed_text}
use Rattle.text.specs.Script.{Reply, reply, script, letters_of, counts_of, told, offer_told, call_told, heard}
use Rattle.text.specs.declared.Script.{Script}
use Rattle.text_lines.specs.declared.lines.Asked.{Asked}
use Rattle.text_reply.specs.declared.Replied.{Replied}
use Rattle.std.proofs.Common.{Option, Some, None}
use Rattle.std.specs.Prelude.{Result, Ok, Err}
use Rattle.text_read.specs.Reads.{TextAs}
use Rattle.text_print.specs.Tells.{Tellable}
use Rattle.text_lines.specs.Asks.{asked_of}
use Rattle.text_reply.specs.Replies.{ReplyAs}
use Rattle.text_reply.proofs.Laws.Left.{call_tellable}
use Rattle.text_reply.proofs.Laws.Replying.{reply_by, letters_in, counts_in_law}

-- WHAT A LINE ASKS FOR decides what it is
module _ (letters counts line : List ℕ) where
  abbrev line_by : Asked → Line
  line_by Asked.Nothing = unread_line
  line_by (Asked.Answer m) = calls (answers m)
  line_by Asked.Accept = calls accept
  line_by (Asked.Offer m) = offering (read_text letters counts (drop 2 line)) m

  asked_line : line_by (asked_of line) ≡ line_of letters counts line
  asked_line = go (same line yes_word) (same line no_word) (same line ok_word) (is_offer line && leb (length line) most_input)
    where
      go : (a b c d : Bool) →
          line_by (cond a (Asked.Answer 1) (cond b (Asked.Answer 0) (cond c Asked.Accept (cond d (Asked.Offer (sign_mark line)) Asked.Nothing)))) ≡
          cond a (calls (answers 1)) (cond b (calls (answers 0)) (cond c (calls accept) (cond d (offering (read_text letters counts (drop 2 line)) (sign_mark line)) unread_line)))
      go true b c d = refl
      go false true c d = refl
      go false false true d = refl
      go false false false true = refl
      go false false false false = refl

pub heard_line : (ws : List ℕ) (z : Script) (line : List ℕ) {x : Asked} → x ≡ asked_of line → {r : Replied} {ws' out out' : List ℕ} →
    ReplyAs (heard ws z (line_by (letters_of z) (counts_of z) line x)) r ws' out out' → ReplyAs (heard ws z (line_of (letters_of z) (counts_of z) line)) r ws' out out'
heard_line ws z line e u =
    reply_by (ap (heard ws z) (ap (line_by (letters_of z) (counts_of z) line) e ∙ asked_line (letters_of z) (counts_of z) line)) u

-- an offer has a sign and a space, and is no longer than the input
two_bytes : (bs : List ℕ) → eqb (get_or bs 1 0) space ≡ true → 2 ≤ length bs
two_bytes [] e = absurd (true≢false (sym e))
two_bytes (a ∷ []) e = absurd (true≢false (sym e))
two_bytes (a ∷ b ∷ bs) e = omega arith

module _ (line : List ℕ) where
  abbrev OfferFits : Asked → Type 0
  OfferFits Asked.Nothing = Unit {0}
  OfferFits (Asked.Answer m) = Unit {0}
  OfferFits Asked.Accept = Unit {0}
  OfferFits (Asked.Offer m) = (2 ≤ length line) × (length line ≤ most_input)

  asked_fits : OfferFits (asked_of line)
  asked_fits = go (same line yes_word) (same line no_word) (same line ok_word) (is_offer line && leb (length line) most_input) refl
    where
      go : (a b c d : Bool) → is_offer line && leb (length line) most_input ≡ d →
          OfferFits (cond a (Asked.Answer 1) (cond b (Asked.Answer 0) (cond c Asked.Accept (cond d (Asked.Offer (sign_mark line)) Asked.Nothing))))
      go true b c d e = tt
      go false true c d e = tt
      go false false true d e = tt
      go false false false true e =
          let t = both_true (is_offer line) (leb (length line) most_input) e in
          (two_bytes line (and_right (eqb (get_or line 0 0) plus || eqb (get_or line 0 0) minus) (eqb (get_or line 1 0) space) t.0), leb-true (length line) most_input t.1)
      go false false false false e = tt

  pub offer_fits : (m : ℕ) → Asked.Offer m ≡ asked_of line → (2 ≤ length line) × (length line ≤ most_input)
  offer_fits m e = subst OfferFits (sym e) asked_fits

-- A CALL MADE: what it left can be told, and is what is heard
module _ (ws : List ℕ) (z : Script) (k : Call) (d : Result Lists Refusal) (ws' : List ℕ) (s : CallAs ws z.lists k d ws') where
  pub made_tellable : Tellable ws' (counts_of (script z.stage z.letters (done_lists z.lists d))) (done_lists z.lists d).used (done_seen d)
  made_tellable = rw (s.words, s.lists, s.seen) (call_tellable ws z.lists k)

  pub made_heard : {r : Replied} {out out' : List ℕ} → ReplyAs (call_told ws' (script z.stage z.letters (done_lists z.lists d)) k (done_seen d)) r ws' out out' →
      ReplyAs (heard ws z (calls k)) r ws' out out'
  made_heard u = reply_by (λ i. call_told (s.words i) (script z.stage z.letters (s.lists i)) k (s.seen i)) u

-- AN OFFER MADE: by whether it got 32, which leaves the lists
module _ (ws : List ℕ) (z : Script) (xs : List ℕ) (d : Result Lists Refusal) where
  abbrev told_if : Script → Seen → Bool → Reply
  told_if y v b = cond b (reply (agreed_text (judge_seen ws y.lists xs)) ws y) (told ws y v)

  number : (d : Result Lists Refusal) → (done_seen d).number ≡ refused_by d
  number (Ok m) = refl
  number (Err e) = refl

  stays : (d : Result Lists Refusal) → (refused_by d ≡ 0 → ⊥) → done_lists z.lists d ≡ z.lists
  stays (Ok m) n = absurd (n refl)
  stays (Err e) n = refl

  pub told_agreed : refused_by d ≡ 32 → {r : Replied} {out out' : List ℕ} →
      ReplyAs (reply (agreed_text (judge_seen ws z.lists xs)) ws z) r ws out out' →
      ReplyAs (offer_told ws (script z.stage z.letters (done_lists z.lists d)) xs (done_seen d)) r ws out out'
  told_agreed e u =
      let l = stays d (λ n. absurd (omega (arith, e, n))) in
      let v = done_seen d in
      reply_by (sym (ap (told_if (script z.stage z.letters (done_lists z.lists d)) v) (eq-eqb v.number 32 (number d ∙ e)) ∙ ap (λ (m : Lists). told_if (script z.stage z.letters m) v true) l)) u

-- AN OFFER: its record is copied, and its symbols are read over the copy
module _ (line old : List ℕ) {after : List ℕ} {len : ℕ} (put : after ≡ put_at 0 (take (length line - 2) (drop 2 line)) old) (is : len ≡ 0 + length (take (length line - 2) (drop 2 line)))
    (room : length line ≤ length old) where
  abbrev Part : List ℕ
  Part = take (length line - 2) (drop 2 line)

  part_long : length Part ≡ length line - 2
  part_long = ap length (part_to_end line 2) ∙ length-drop 2 line

  pub copied_length : length after ≡ length old
  copied_length = ap length put ∙ put_length 0 Part old (omega (arith, room, part_long))

  pub copied_few : len ≤ length old
  copied_few = omega (arith, is, room, part_long)

  pub copied : take len after ≡ drop 2 line
  copied = let e : len ≡ length Part = omega (arith, is) in ap (λ (n : ℕ). take n after) e ∙ ap (take (length Part)) (put ∙ put_over Part old) ∙ take_over Part old ∙ part_to_end line 2

-- its symbols, over the alphabet's part of the two arrays
module _ (z : Script) (letters : length z.letters ≡ most_symbols) (counts : length z.lists.counts ≡ most_symbols) {n : ℕ} (in-it : n ≡ min z.lists.letters most_symbols) where
  pub text_read : (copy : List ℕ) (len : ℕ) {text : List ℕ} → take len copy ≡ text → {k : Option ℕ} {after : List ℕ} →
      TextAs (read_text (take n z.letters) (take n z.lists.counts) (take len copy)) k after → TextAs (read_text (letters_of z) (counts_of z) text) k after
  text_read copy len e {k} {after} t = subst (λ (xs : List ℕ). TextAs xs k after) (λ i. read_text (letters_in z letters counts in-it i) (counts_in_law z letters counts in-it i) (e i)) t

-- none where it is unread, some where it is read
pub text_within : (xs after : List ℕ) (n : ℕ) → TextAs xs (Some n) after → n ≤ length after
text_within [] after n t = absurd (cc (t.count))
text_within (x ∷ xs) after n t =
    let e : n ≡ length (x ∷ xs) = cc (t.count) in
    let l = length-take (length (x ∷ xs)) after in
    let k = ap length t.symbols in
    omega (arith, e, l, k)

none_read : (xs after : List ℕ) → TextAs xs None after → xs ≡ []
none_read [] after t = refl
none_read (x ∷ xs) after t = absurd (cc (t.count))

some_read : (xs after : List ℕ) (n : ℕ) → TextAs xs (Some n) after → (m : ℕ) → calls (offers (take n after) m) ≡ offering xs m
some_read [] after n t m = absurd (cc (t.count))
some_read (x ∷ xs) after n t m =
    let e : n ≡ length (x ∷ xs) = cc (t.count) in
    ap (λ (k : ℕ). calls (offers (take k after) m)) e ∙ ap (λ (ys : List ℕ). calls (offers ys m)) t.symbols

-- unread where there are none, else made
module _ (ws : List ℕ) (z : Script) (line : List ℕ) (m : ℕ) {after : List ℕ} where
  pub offer_unread : TextAs (read_text (letters_of z) (counts_of z) (drop 2 line)) None after → {r : Replied} {ws' out out' : List ℕ} →
      ReplyAs (reply unread_text ws z) r ws' out out' → ReplyAs (heard ws z (offering (read_text (letters_of z) (counts_of z) (drop 2 line)) m)) r ws' out out'
  offer_unread t u = reply_by (ap (λ (xs : List ℕ). heard ws z (offering xs m)) (sym (none_read (read_text (letters_of z) (counts_of z) (drop 2 line)) after t))) u

  pub offer_made : {n : ℕ} → TextAs (read_text (letters_of z) (counts_of z) (drop 2 line)) (Some n) after → {r : Replied} {ws' out out' : List ℕ} →
      ReplyAs (heard ws z (calls (offers (take n after) m))) r ws' out out' → ReplyAs (heard ws z (offering (read_text (letters_of z) (counts_of z) (drop 2 line)) m)) r ws' out out'
  offer_made {n} t u = reply_by (ap (heard ws z) (some_read (read_text (letters_of z) (counts_of z) (drop 2 line)) after n t m)) u

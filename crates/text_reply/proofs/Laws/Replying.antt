-- The reply to a line from its parts: the line told over the alphabet's part of two arrays, and a call's reply over the lists that it left.
-- An array of 64 has no more than 64 letters to take, and each part of a reply is the part of the call that made it.
use mathlib.Core.Path.{◌≡◌, refl, sym, ap, ◌∙◌, subst}
use mathlib.Core.Bool.{Bool, true, false, cond}
use mathlib.Core.List.{List, []}
use Prim.Native.Nat.{ℕ, ◌≤◌, ◌<◌, min}
use native.Mathlib.Omega.{arith}
use lib.Dec.{ltb, leb, eqb}
use borrow.Author.Tests.{leb-true, leb-false, eqb-true, eq-eqb, ne_eqb, lt-ltb, le-ltb}
use lib.ListN.{length, take}
use lib.Seq.{take_all, length-take-le}
use Rattle.model.specs.Limits.{most_symbols}
use Rattle.model.specs.Base.{over}
use Rattle.model.specs.Calls.{refuses, leaves, started}
use Rattle.model.specs.Entry.{rows_lent, store_of, seen_by, refused, words_by, start_number, start_seen, start_words, start_lists}
use Rattle.model.specs.Refusals.{reason_number}
use Rattle.model.specs.declared.Lists.{Lists}
use Rattle.model.specs.declared.Seen.{Seen}
use Rattle.model.specs.declared.refusal.Refusal.{Refusal}
use Rattle.model.proofs.Laws.Refused.{number_some}
use Rattle.call.specs.Calls.{StartAs, look_told, done_seen, done_lists}
use Rattle.text.specs.Bytes.{reply_room}
use Rattle.text.specs.Alphabet.{Alphabet, no_alphabet, alphabet, alphabet_of}
use Rattle.text.specs.Lines.{line_of, seen_text, unread_text}
use Rattle.text.specs.Script.{Reply, reply, script, letters_of, counts_of, told, opened, heard, reply_to}
use Rattle.text.specs.declared.Script.{Script}
use Rattle.text_reply.specs.declared.Replied.{Replied}
use Rattle.std.proofs.Common.{Some, None}
use Rattle.std.specs.Prelude.{Result, Ok, Err}
use Rattle.text_lines.specs.Opens.{OpenedAs}
use Rattle.text_print.specs.Tells.{Tellable}
use Rattle.text_reply.specs.Replies.{ReplyAs}

-- THE ALPHABET'S PART of an array of 64
module _ (xs : List ℕ) (long : length xs ≡ most_symbols) (n : ℕ) where
  pub take_in : take (min n most_symbols) xs ≡ take n xs
  take_in = go (leb n most_symbols) refl
    where
      go : (b : Bool) → leb n most_symbols ≡ b → take (min n most_symbols) xs ≡ take n xs
      go true e = let l = leb-true n most_symbols e in let m : min n most_symbols ≡ n = omega arith in ap (λ (k : ℕ). take k xs) m
      go false e = let l = leb-false n most_symbols e in take_all (min n most_symbols) xs (omega arith) ∙ sym (take_all n xs (omega arith))

  pub in_within : {k : ℕ} → k ≡ min n most_symbols → k ≤ length xs
  in_within e = omega (arith, e, long)

  pub in_counted : {k : ℕ} → k ≡ min n most_symbols → k ≡ length (take k xs)
  in_counted {k} e = sym (length-take-le k xs (in_within e))

-- WHAT WAS SEEN, told
module _ (z : Script) (letters : length z.letters ≡ most_symbols) (counts : length z.lists.counts ≡ most_symbols) {n : ℕ} (in-it : n ≡ min z.lists.letters most_symbols) where
  pub letters_in : take n z.letters ≡ letters_of z
  letters_in = ap (λ (k : ℕ). take k z.letters) in-it ∙ take_in z.letters letters z.lists.letters

  pub counts_in_law : take n z.lists.counts ≡ counts_of z
  counts_in_law = ap (λ (k : ℕ). take k z.lists.counts) in-it ∙ take_in z.lists.counts counts z.lists.letters

  pub tellable_in : {ws : List ℕ} {v : Seen} → Tellable ws (counts_of z) z.lists.used v → Tellable ws (take n z.lists.counts) z.lists.used v
  tellable_in {ws} {v} t = subst (λ (ns : List ℕ). Tellable ws ns z.lists.used v) (sym counts_in_law) t

  text_in : (ws : List ℕ) (v : Seen) →
      seen_text (take n z.letters) (store_of ws (take n z.lists.counts) z.lists.used) v ≡ seen_text (letters_of z) (store_of ws (counts_of z) z.lists.used) v
  text_in ws v = λ i. seen_text (letters_in i) (store_of ws (counts_in_law i) z.lists.used) v

  pub told_in : (ws : List ℕ) (v : Seen) {size : ℕ} {out out' : List ℕ} →
      size ≡ length (seen_text (take n z.letters) (store_of ws (take n z.lists.counts) z.lists.used) v) →
      out' ≡ over (seen_text (take n z.letters) (store_of ws (take n z.lists.counts) z.lists.used) v) out →
      ReplyAs (told ws z v) (record { size = size; script = z }) ws out out'
  told_in ws v {size} {out} {out'} s b =
      record { size = s ∙ ap length (text_in ws v); script = refl; words = refl; bytes = b ∙ ap (λ (t : List ℕ). over t out) (text_in ws v) }

-- THE FIRST LINE
pub reply_by : {p q : Reply} {r : Replied} {ws' out out' : List ℕ} → p ≡ q → ReplyAs p r ws' out out' → ReplyAs q r ws' out out'
reply_by {r = r} {ws' = ws'} {out = out} {out' = out'} e a = subst (λ (p : Reply). ReplyAs p r ws' out out') e a

-- read: its letters over the old ones, its counts at the start of their array
pub record Lettered (a : Alphabet) (ls ls' ks : List ℕ) : Type 0 where
  pub letters : List ℕ
  pub read : a ≡ alphabet letters ks
  pub left : ls' ≡ over letters ls

pub opened_read : (a : Alphabet) (n : ℕ) (ls ls' ns' : List ℕ) → OpenedAs a (Some n) ls ls' ns' → Lettered a ls ls' (take n ns')
opened_read no_alphabet n ls ls' ns' f = absurd (cc f)
opened_read (alphabet bs ks) n ls ls' ns' f =
    let e : n ≡ length bs = cc (f.0) in
    record { letters = bs; read = ap (alphabet bs) (sym f.3 ∙ ap (λ (k : ℕ). take k ns') (sym e)); left = f.2 }

pub opened_within : (a : Alphabet) (n : ℕ) (ls ls' ns' : List ℕ) → OpenedAs a (Some n) ls ls' ns' → n ≤ length ns'
opened_within no_alphabet n ls ls' ns' f = absurd (cc f)
opened_within (alphabet bs ks) n ls ls' ns' f = let e : n ≡ length bs = cc (f.0) in omega (arith, e, f.1, f.4)

pub opened_unread : (a : Alphabet) (ws : List ℕ) (z : Script) (ls' ns' : List ℕ) → OpenedAs a None z.letters ls' ns' →
    {y : Script} {r : Replied} {out out' : List ℕ} → y ≡ script 2 z.letters z.lists → ReplyAs (reply unread_text ws y) r ws out out' → ReplyAs (opened ws z a) r ws out out'
opened_unread no_alphabet ws z ls' ns' f e u = reply_by (ap (reply unread_text ws) e) u
opened_unread (alphabet bs ks) ws z ls' ns' f e u = absurd (cc (f.0))

-- what is seen of a start has its number, and refused it leaves the words
start_number_law : (ws ns : List ℕ) → (start_seen ws ns).number ≡ start_number ws ns
start_number_law ws ns = go (start_number ws ns) (eqb (start_number ws ns) 0) refl
  where
    go : (k : ℕ) (b : Bool) → eqb k 0 ≡ b → (seen_by (cond b (leaves (started (rows_lent ws) ns)) (refuses k))).number ≡ k
    go k true e = sym (eqb-true k 0 e)
    go k false e = refl

start_refused : (ws ns : List ℕ) → eqb (start_number ws ns) 0 ≡ false → start_words ws ns ≡ ws
start_refused ws ns e = ap (λ (b : Bool). words_by ws (cond b (leaves (started (rows_lent ws) ns)) (refuses (start_number ws ns)))) e

module _ (ws ks : List ℕ) (z : Script) (d : Result Lists Refusal) (ws' : List ℕ) (s : StartAs ws ks z.lists d ws') {a : Alphabet} {ls' : List ℕ} (f : Lettered a z.letters ls' ks) where
  abbrev Taken : Reply
  Taken = told (start_words ws ks) (script 1 (over f.letters z.letters) (start_lists ws ks z.lists)) (start_seen ws ks)

  abbrev Ended : Reply
  Ended = told ws (script 2 z.letters z.lists) (start_seen ws ks)

  opened_by : (b : Bool) → eqb (start_number ws ks) 0 ≡ b → cond b Taken Ended ≡ opened ws z a
  opened_by b e = ap (λ (b' : Bool). cond b' Taken Ended) (sym e) ∙ ap (opened ws z) (sym f.read)

  number_told : (n : ℕ) → (done_seen d).number ≡ n → start_number ws ks ≡ n
  number_told n e = sym (ap (λ (v : Seen). v.number) s.seen ∙ start_number_law ws ks) ∙ e

  pub opened_refused : (e : Refusal) → d ≡ Err e → {v : Seen} → v ≡ refused (reason_number e) → (y : Script) → y ≡ script 2 z.letters z.lists → {r : Replied} {out out' : List ℕ} →
      ReplyAs (told ws' y v) r ws' out out' → ReplyAs (opened ws z a) r ws' out out'
  opened_refused e p w y q u =
      let n = ne_eqb (start_number ws ks) 0 (λ k. number_some e (sym (number_told (reason_number e) (ap (λ (o : Result Lists Refusal). (done_seen o).number) p)) ∙ k)) in
      let v = w ∙ sym (ap done_seen p) ∙ s.seen in
      reply_by ((λ i. told ((s.words ∙ start_refused ws ks n) i) (q i) (v i)) ∙ opened_by false n) u

  pub opened_taken : (m : Lists) → d ≡ Ok m → {v : Seen} → v ≡ look_told m → {r : Replied} {out out' : List ℕ} →
      ReplyAs (told ws' (script 1 ls' m) v) r ws' out out' → ReplyAs (opened ws z a) r ws' out out'
  opened_taken m p w u =
      let n = eq-eqb (start_number ws ks) 0 (number_told 0 (ap (λ (o : Result Lists Refusal). (done_seen o).number) p)) in
      let v = w ∙ sym (ap done_seen p) ∙ s.seen in
      let l = sym (ap (done_lists z.lists) p) ∙ s.lists in
      reply_by ((λ i. told (s.words i) (script 1 (f.left i) (l i)) (v i)) ∙ opened_by true n) u

-- ANY LINE: none where it might not fit, then by the stage
module _ (ws : List ℕ) (z : Script) (line out : List ℕ) where
  abbrev reply_if : (none first later : Bool) → Reply
  reply_if n f l =
      cond n (reply [] ws z) (cond f (opened ws z (alphabet_of line)) (cond l (heard ws z (line_of (letters_of z) (counts_of z) line)) (reply [] ws z)))

  said_nothing : ReplyAs (reply [] ws z) (record { size = 0; script = z }) ws out out
  said_nothing = record { size = refl; script = refl; words = refl; bytes = refl }

  pub no_room : length out < reply_room → ReplyAs (reply_to ws z line (length out)) (record { size = 0; script = z }) ws out out
  no_room n = reply_by (ap (λ (b : Bool). reply_if b (eqb z.stage 0) (eqb z.stage 1)) (sym (lt-ltb (length out) reply_room n))) said_nothing

  module _ (room : reply_room ≤ length out) where
    fits : ltb (length out) reply_room ≡ false
    fits = le-ltb (length out) reply_room room

    pub at_first : z.stage ≡ 0 → {r : Replied} {ws' out' : List ℕ} → ReplyAs (opened ws z (alphabet_of line)) r ws' out out' → ReplyAs (reply_to ws z line (length out)) r ws' out out'
    at_first e u = let a = eq-eqb z.stage 0 e in reply_by (sym (λ i. reply_if (fits i) (a i) (eqb z.stage 1))) u

    module _ (begun : z.stage ≡ 0 → ⊥) where
      pub at_later : z.stage ≡ 1 → {r : Replied} {ws' out' : List ℕ} →
          ReplyAs (heard ws z (line_of (letters_of z) (counts_of z) line)) r ws' out out' → ReplyAs (reply_to ws z line (length out)) r ws' out out'
      at_later e u = let a = ne_eqb z.stage 0 begun in let b = eq-eqb z.stage 1 e in reply_by (sym (λ i. reply_if (fits i) (a i) (b i))) u

      pub at_end : (z.stage ≡ 1 → ⊥) → ReplyAs (reply_to ws z line (length out)) (record { size = 0; script = z }) ws out out
      at_end n = let a = ne_eqb z.stage 0 begun in let b = ne_eqb z.stage 1 n in reply_by (sym (λ i. reply_if (fits i) (a i) (b i))) said_nothing

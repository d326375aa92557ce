-- The readers over a text: what is left at a place, and what each way out of a reader gives.
-- By the steps without fuel; a symbol is written before the place that is read next, so what is left stays as it was.
use mathlib.Core.Path.{◌≡◌, refl, sym, ap, ◌∙◌}
use mathlib.Core.Logic.{◌⊎◌, inl, inr}
use mathlib.Core.Bool.{Bool, true, false, ◌&&◌, cond}
use mathlib.Core.List.{List, [], ◌∷◌}
use Prim.Native.Nat.{ℕ, zero, suc, ◌+◌, ◌*◌, ◌-◌, ◌/◌, ◌%◌, ◌≤◌, ◌<◌}
use native.Mathlib.Omega.{arith}
use native.Mathlib.Decide.{dec_lt}
use native.Mathlib.Numerals.{add-one}
use lib.Dec.{leb, eqb}
use lib.ListN.{length, get_or, set, take, drop, length-set, length-drop, drop_of_length-le}
use lib.Seq.{length-take-le, drop-cons, drop-drop, get_or-drop, drop-set-lt, take-suc-set}
use borrow.Author.Tests.{eq-eqb, ne_eqb, lt-ltb, le-ltb, le-leb, lt-leb}
use Rattle.model.specs.Limits.{most_children}
use Rattle.model.proofs.Laws.Scans.{drop_next}
use Rattle.text.specs.Bytes.{comma, opening, closing, most_input}
use Rattle.text.specs.Reading.{Reading, unread, read, no_symbol, place_for, indexed_from, symbol_in, closed, opens, after_child, record_at, list_at, balanced_from, known_of, whole_of, read_text}
use Rattle.text.proofs.Steps.{record_none, record_step, list_step}
use Rattle.text_read.specs.Reads.{Reads, read_code, ReadAs, TextAs, counted}
use Rattle.std.proofs.Common.{Some, None}

-- WHAT IS LEFT
left_none : (bs : List ℕ) (at : ℕ) → length bs ≤ at → drop at bs ≡ []
left_none bs at l = drop_of_length-le bs {i = at} l

-- within a list, the value that stands for what is missing does not matter
get_d_any : (xs : List ℕ) (i d e : ℕ) → i < length xs → get_or xs i d ≡ get_or xs i e
get_d_any [] i d e l = absurd (omega arith)
get_d_any (x ∷ xs) zero d e l = refl
get_d_any (x ∷ xs) (suc i) d e l = get_d_any xs i d e (omega arith)

-- THE INDEX, a letter at a time
abbrev puts : (kn : List ℕ) → (l n a : ℕ) → List ℕ
puts kn l n a = cond (leb n most_children) (set kn (place_for l n) a) kn

module _ (ls ns kn : List ℕ) (i : ℕ) (l : i < length ls) where
  indexed_step : indexed_from i (drop i ls) (drop i ns) kn ≡ indexed_from (i + 1) (drop (i + 1) ls) (drop (i + 1) ns) (puts kn (get_or ls i 0) (get_or ns i 0) i)
  unfolding indexed_from
  indexed_step =
      let z : i + 0 ≡ i = omega arith in
      let g : get_or (drop i ns) 0 0 ≡ get_or ns i 0 = get_or-drop i ns 0 0 ∙ ap (λ (j : ℕ). get_or ns j 0) z in
      ap (λ (us : List ℕ). indexed_from i us (drop i ns) kn) (drop-cons ls i 0 l) ∙
      ap (λ (j : ℕ). indexed_from j (drop j ls) (drop 1 (drop i ns)) (puts kn (get_or ls i 0) (get_or (drop i ns) 0 0) i)) (sym (add-one i)) ∙
      ap (λ (us : List ℕ). indexed_from (i + 1) (drop (i + 1) ls) us (puts kn (get_or ls i 0) (get_or (drop i ns) 0 0) i)) (drop-drop 1 i ns) ∙
      ap (λ (n : ℕ). indexed_from (i + 1) (drop (i + 1) ls) (drop (i + 1) ns) (puts kn (get_or ls i 0) n i)) g

  pub indexed_turn : (on goal : List ℕ) →
      ((get_or ns i 0 ≤ most_children) × (on ≡ set kn (place_for (get_or ls i 0) (get_or ns i 0)) i)) ⊎ ((most_children < get_or ns i 0) × (on ≡ kn)) →
      indexed_from i (drop i ls) (drop i ns) kn ≡ goal → (length on ≡ length kn) × (indexed_from (i + 1) (drop (i + 1) ls) (drop (i + 1) ns) on ≡ goal)
  indexed_turn on goal (inl w) e =
      (rw w.1 (length-set kn (place_for (get_or ls i 0) (get_or ns i 0)) i), rw w.1 (sym (rw (le-leb (get_or ns i 0) most_children w.0) at indexed_step) ∙ e))
  indexed_turn on goal (inr w) e = (ap length w.1, rw w.1 (sym (rw (lt-leb (get_or ns i 0) most_children w.0) at indexed_step) ∙ e))

pub indexed_all : (ls ns kn goal : List ℕ) (i : ℕ) → length ls ≤ i → indexed_from i (drop i ls) (drop i ns) kn ≡ goal → kn ≡ goal
unfolding indexed_from
indexed_all ls ns kn goal i l e = rw (drop_of_length-le ls {i = i} l) at e

-- BRACKETS, a byte at a time
closes : (d b : ℕ) (bs : List ℕ) → b ≡ closing → (d ≡ 0 → ⊥) → balanced_from d (b ∷ bs) ≡ balanced_from (d - 1) bs
unfolding balanced_from
closes zero b bs e l = absurd (l refl)
closes (suc d) b bs e l = let s : suc d - 1 ≡ d = omega arith in rw (s, e)

opened : (d b : ℕ) (bs : List ℕ) → b ≡ opening → balanced_from d (b ∷ bs) ≡ balanced_from (d + 1) bs
unfolding balanced_from
opened zero b bs e = rw e
opened (suc d) b bs e = rw (e, add-one)

stays : (d b : ℕ) (bs : List ℕ) → (b ≡ closing → ⊥) → (b ≡ opening → ⊥) → balanced_from d (b ∷ bs) ≡ balanced_from d bs
unfolding balanced_from
stays zero b bs c o = rw (ne_eqb b closing c, ne_eqb b opening o)
stays (suc d) b bs c o = rw (ne_eqb b closing c, ne_eqb b opening o)

unopened : (d b : ℕ) (bs : List ℕ) → b ≡ closing → d ≡ 0 → balanced_from d (b ∷ bs) ≡ false
unfolding balanced_from
unopened zero b bs e z = rw e
unopened (suc d) b bs e z = absurd (omega arith)

module _ (d : ℕ) (bs : List ℕ) (i : ℕ) {goal : Bool} (e : balanced_from d (drop i bs) ≡ goal) where
  pub balanced_end : length bs ≤ i → eqb d 0 ≡ goal
  unfolding balanced_from
  balanced_end l = go d ∙ ap (balanced_from d) (sym (drop_of_length-le bs {i = i} l)) ∙ e
    where
      go : (n : ℕ) → eqb n 0 ≡ balanced_from n []
      go zero = refl
      go (suc n) = refl

  module _ (l : i < length bs) where
    at_byte_i : balanced_from d (get_or bs i 0 ∷ drop (i + 1) bs) ≡ goal
    at_byte_i = ap (balanced_from d) (sym (drop_next bs i l)) ∙ e

    pub balanced_never : get_or bs i 0 ≡ closing → d ≡ 0 → false ≡ goal
    balanced_never c z = sym (unopened d (get_or bs i 0) (drop (i + 1) bs) c z) ∙ at_byte_i

    pub balanced_closes : (n : ℕ) → n ≡ d - 1 → get_or bs i 0 ≡ closing → (d ≡ 0 → ⊥) → balanced_from n (drop (i + 1) bs) ≡ goal
    balanced_closes n m c z = ap (λ (k : ℕ). balanced_from k (drop (i + 1) bs)) m ∙ sym (closes d (get_or bs i 0) (drop (i + 1) bs) c z) ∙ at_byte_i

    pub balanced_opens : (n : ℕ) → n ≡ d + 1 → get_or bs i 0 ≡ opening → balanced_from n (drop (i + 1) bs) ≡ goal
    balanced_opens n m c = ap (λ (k : ℕ). balanced_from k (drop (i + 1) bs)) m ∙ sym (opened d (get_or bs i 0) (drop (i + 1) bs) c) ∙ at_byte_i

    pub balanced_stays : (n : ℕ) → n ≡ d → (get_or bs i 0 ≡ closing → ⊥) → (get_or bs i 0 ≡ opening → ⊥) → balanced_from n (drop (i + 1) bs) ≡ goal
    balanced_stays n m c o = ap (λ (k : ℕ). balanced_from k (drop (i + 1) bs)) m ∙ sym (stays d (get_or bs i 0) (drop (i + 1) bs) c o) ∙ at_byte_i

-- A READING past a place is one past any place before
further : (x : Reading) (r from at : ℕ) (old mid after : List ℕ) → at ≤ from → length mid ≡ length old → ReadAs x r from mid after → ReadAs x r at old after
further unread r from at old mid after l e h = (h.0, h.1 ∙ e)
further (read xs bs) r from at old mid after l e h = record {
  next = h.next;
  size = h.size;
  code = h.code;
  past = omega arith;
  within = h.within;
  before = h.before;
  room = h.room ∙ e;
  symbols = h.symbols;
  rest = h.rest;
}

-- A RECORD CLOSED
module _ {bs kn : List ℕ} {next n : ℕ} (b k : ℕ) (f : Reads bs kn next n) (few : k ≤ 4) (byte : b < 256) where
  symbol_is : get_or kn (5 * b + k) 0 ≡ symbol_in kn b k
  symbol_is = get_d_any kn (5 * b + k) 0 no_symbol (omega (arith, f.long))

  pub closed_none : get_or kn (5 * b + k) 0 ≡ no_symbol → ReadAs (closed kn b k (take n bs) (drop next bs)) 0 (next - 1) bs bs
  closed_none e = rw (eq-eqb (symbol_in kn b k) no_symbol (sym symbol_is ∙ e)) (refl, refl)

  pub closed_some : {r : ℕ} → n + 1 ≤ next → (get_or kn (5 * b + k) 0 ≡ no_symbol → ⊥) → r ≡ read_code next (n + 1) →
      ReadAs (closed kn b k (take n bs) (drop next bs)) r (next - 1) bs (set bs n (get_or kn (5 * b + k) 0))
  closed_some {r} lt e c =
      let s : ℕ = get_or kn (5 * b + k) 0 in
      rw (ne_eqb (symbol_in kn b k) no_symbol (λ z. e (symbol_is ∙ z)))
      (record {
        next = next;
        size = n + 1;
        code = c;
        past = omega arith;
        within = omega (arith, f.within, length-set bs n s);
        before = lt;
        room = length-set bs n s;
        symbols = rw (add-one, take-suc-set bs n s (omega (arith, f.within)), symbol_is);
        rest = drop-set-lt next bs n s (omega arith);
      })

-- A RECORD at a place: its letter, and then its children or none
module _ {bs kn : List ℕ} {at n : ℕ} (f : Reads bs kn at n) where
  pub record_end : length bs ≤ at → ReadAs (record_at kn (take n bs) (drop at bs)) 0 at bs bs
  record_end e = rw (left_none bs at e, record_none kn (take n bs)) (refl, refl)

  module _ (l : at < length bs) where
    at_letter : record_at kn (take n bs) (drop at bs) ≡ cond (opens (drop (at + 1) bs))
        (list_at kn (get_or bs at 0) 1 (take n bs) (drop 1 (drop (at + 1) bs))) (closed kn (get_or bs at 0) 0 (take n bs) (drop (at + 1) bs))
    at_letter = rw (drop_next bs at l) (record_step kn (take n bs) (get_or bs at 0) (drop (at + 1) bs))

    pub record_opens : (r : ℕ) (after : List ℕ) → at + 1 < length bs → get_or bs (at + 1) 0 ≡ opening →
        ReadAs (list_at kn (get_or bs at 0) 1 (take n bs) (drop (at + 2) bs)) r (at + 2) bs after →
        ReadAs (record_at kn (take n bs) (drop at bs)) r at bs after
    record_opens r after m e h =
        let t : at + 1 + 1 ≡ at + 2 = omega arith in
        let is : record_at kn (take n bs) (drop at bs) ≡ list_at kn (get_or bs at 0) 1 (take n bs) (drop (at + 2) bs) =
        at_letter ∙ rw (drop_next bs (at + 1) m, e, t) in
        rw is (further (list_at kn (get_or bs at 0) 1 (take n bs) (drop (at + 2) bs)) r (at + 2) at bs bs after (omega arith) refl h)

    none_opens : (at + 1 < length bs → get_or bs (at + 1) 0 ≡ opening → ⊥) → opens (drop (at + 1) bs) ≡ false
    none_opens e = go (dec_lt (at + 1) (length bs))
      where
        go : Dec (at + 1 < length bs) → opens (drop (at + 1) bs) ≡ false
        go (yes m) = ap opens (drop_next bs (at + 1) m) ∙ ne_eqb (get_or bs (at + 1) 0) opening (e m)
        go (no m) = ap opens (left_none bs (at + 1) (omega arith))

    pub record_closes : (r : ℕ) (after : List ℕ) → (at + 1 < length bs → get_or bs (at + 1) 0 ≡ opening → ⊥) →
        ReadAs (closed kn (get_or bs at 0) 0 (take n bs) (drop (at + 1) bs)) r (at + 1 - 1) bs after →
        ReadAs (record_at kn (take n bs) (drop at bs)) r at bs after
    record_closes r after e h =
        rw (at_letter, none_opens e) (further (closed kn (get_or bs at 0) 0 (take n bs) (drop (at + 1) bs)) r (at + 1 - 1) at bs bs after (omega arith) refl h)

-- A LIST at a place: a child was read, and what it left decides
pub record Child (x : Reading) (next size at : ℕ) (old after : List ℕ) : Type 0 where
  pub is : x ≡ read (take size after) (drop next after)
  pub past : at < next
  pub within : next ≤ length after
  pub before : size ≤ next
  pub room : length after ≡ length old

no_child : (x : Reading) (r at : ℕ) (old after : List ℕ) → r ≡ 0 → ReadAs x r at old after → (x ≡ unread) × (length after ≡ length old)
no_child unread r at old after z h = (refl, h.1)
no_child (read xs bs) r at old after z h = absurd (omega (arith, h.code, h.past))

child : (x : Reading) (r at : ℕ) (old after : List ℕ) → length old ≤ most_input → (r ≡ 0 → ⊥) → ReadAs x r at old after → Child x (r / 131072) (r % 131072) at old after
child unread r at old after f z h = absurd (z h.0)
child (read xs bs) r at old after f z h =
    let i : ℕ = h.next in
    let n : ℕ = h.size in
    let p : r / 131072 ≡ i = omega (arith, h.code, h.before, h.within, h.room) in
    let q : r % 131072 ≡ n = omega (arith, h.code, h.before, h.within, h.room) in
    record {
      is = sym (ap (λ (us : List ℕ). read us (drop (r / 131072) after)) (ap (λ (j : ℕ). take j after) q ∙ h.symbols) ∙
          ap (read xs) (ap (λ (j : ℕ). drop j after) p ∙ h.rest));
      past = omega (arith, h.past);
      within = omega (arith, h.within);
      before = omega (arith, h.before);
      room = h.room;
    }

none_more : (z : Bool) → z && false ≡ false
none_more true = refl
none_more false = refl

-- a child was looked for at a place, and this is what came of it
pub record Tried (bs kn : List ℕ) (at n r : ℕ) (after : List ℕ) : Type 0 where
  pub reads : Reads bs kn at n
  pub came : ReadAs (record_at kn (take n bs) (drop at bs)) r at bs after

module _ {bs kn : List ℕ} {at n r : ℕ} {cs : List ℕ} (h : Tried bs kn at n r cs) (b k : ℕ) where
  pub list_unread : r ≡ 0 → ReadAs (list_at kn b k (take n bs) (drop at bs)) 0 at bs cs
  list_unread z =
      let u = no_child (record_at kn (take n bs) (drop at bs)) r at bs cs z h.came in
      rw (list_step kn b k (take n bs) (drop at bs), u.0) (refl, u.1)

  module _ (s : r ≡ 0 → ⊥) where
    pub the_child : Child (record_at kn (take n bs) (drop at bs)) (r / 131072) (r % 131072) at bs cs
    the_child = child (record_at kn (take n bs) (drop at bs)) r at bs cs h.reads.few s h.came

    list_is : list_at kn b k (take n bs) (drop at bs) ≡ after_child (list_at kn b (suc k)) kn b k (read (take (r % 131072) cs) (drop (r / 131072) cs))
    list_is = list_step kn b k (take n bs) (drop at bs) ∙ ap (after_child (list_at kn b (suc k)) kn b k) the_child.is

    pub list_end : length cs ≤ r / 131072 → ReadAs (list_at kn b k (take n bs) (drop at bs)) 0 at bs cs
    list_end e = rw (list_is, left_none cs (r / 131072) e) (refl, the_child.room)

    module _ (l : r / 131072 < length cs) where
      pub behind : Reads cs kn (r / 131072 + 1) (r % 131072)
      behind = let c = the_child in record { few = omega (arith, c.room, h.reads.few); long = h.reads.long; within = omega arith; before = omega (arith, c.before) }

      at_byte : list_at kn b k (take n bs) (drop at bs) ≡
          after_child (list_at kn b (suc k)) kn b k (read (take (r % 131072) cs) (get_or cs (r / 131072) 0 ∷ drop (r / 131072 + 1) cs))
      at_byte =
          let c = the_child in
          list_is ∙ ap (λ (us : List ℕ). after_child (list_at kn b (suc k)) kn b k (read (take (r % 131072) cs) us))
          (drop_next cs (r / 131072) l)

      pub list_closes : (q : ℕ) (after : List ℕ) → get_or cs (r / 131072) 0 ≡ closing →
          ReadAs (closed kn b k (take (r % 131072) cs) (drop (r / 131072 + 1) cs)) q (r / 131072 + 1 - 1) cs after →
          ReadAs (list_at kn b k (take n bs) (drop at bs)) q at bs after
      list_closes q after e g =
          let c = the_child in
          rw (at_byte, e) (further (closed kn b k (take (r % 131072) cs) (drop (r / 131072 + 1) cs)) q (r / 131072 + 1 - 1) at bs cs after (omega (arith, c.past)) c.room g)

      module _ (o : get_or cs (r / 131072) 0 ≡ closing → ⊥) where
        pub list_stops : (get_or cs (r / 131072) 0 ≡ comma → ⊥) → ReadAs (list_at kn b k (take n bs) (drop at bs)) 0 at bs cs
        list_stops e = rw (at_byte, ne_eqb (get_or cs (r / 131072) 0) closing o, ne_eqb (get_or cs (r / 131072) 0) comma e) (refl, the_child.room)

        pub list_full : k ≡ most_children → ReadAs (list_at kn b k (take n bs) (drop at bs)) 0 at bs cs
        list_full e =
            rw (at_byte, ne_eqb (get_or cs (r / 131072) 0) closing o, le-ltb k most_children (omega arith), none_more (eqb (get_or cs (r / 131072) 0) comma))
            (refl, the_child.room)

        pub list_goes : (q : ℕ) (after : List ℕ) → get_or cs (r / 131072) 0 ≡ comma → k < most_children →
            ReadAs (list_at kn b (k + 1) (take (r % 131072) cs) (drop (r / 131072 + 1) cs)) q (r / 131072 + 1) cs after →
            ReadAs (list_at kn b k (take n bs) (drop at bs)) q at bs after
        list_goes q after e m g =
            let c = the_child in
            let is : list_at kn b k (take n bs) (drop at bs) ≡ list_at kn b (k + 1) (take (r % 131072) cs) (drop (r / 131072 + 1) cs) =
            at_byte ∙ rw (e, lt-ltb k most_children m, add-one k) in
            rw is (further (list_at kn b (k + 1) (take (r % 131072) cs) (drop (r / 131072 + 1) cs)) q (r / 131072 + 1) at bs cs after (omega (arith, c.past)) c.room g)

-- A WHOLE TEXT
none_read : (after : List ℕ) → TextAs [] None after
none_read after = record { count = refl; symbols = refl }

pub unbalanced : (ls ns us after : List ℕ) → balanced_from 0 us ≡ false → TextAs (read_text ls ns us) None after
unbalanced ls ns us after z = rw z (none_read after)

pub same_room : (x : Reading) (r at : ℕ) (old after : List ℕ) → ReadAs x r at old after → length after ≡ length old
same_room unread r at old after h = h.1
same_room (read xs bs) r at old after h = h.room

-- bytes behind the record, or no symbol: no record
none_whole : (x : Reading) (r at : ℕ) (old after : List ℕ) → length old ≤ most_input → (r / 131072 ≡ length old → r % 131072 ≡ 0) → ReadAs x r at old after → TextAs (whole_of x) None after
none_whole unread r at old after f e h = none_read after
none_whole (read [] []) r at old after f e h = none_read after
none_whole (read (x ∷ xs) []) r at old after f e h =
    absurd (omega (
      arith,
      e (omega (arith, h.code, h.before, h.within, h.room, ap length h.rest, length-drop h.next after)),
      h.code,
      h.before,
      h.within,
      h.room,
      length-take-le h.size after (omega (arith, h.before, h.within)),
      ap length h.symbols,
    ))
none_whole (read xs (b ∷ bs)) r at old after f e h = none_read after

some_counted : (xs : List ℕ) (n : ℕ) → n ≡ length xs → (n ≡ 0 → ⊥) → Some n ≡ counted xs
some_counted [] n e z = absurd (z e)
some_counted (x ∷ xs) n e z = ap Some e

none_behind : (x : Reading) (r at : ℕ) (old after : List ℕ) → length old ≤ most_input → r / 131072 ≡ length old → (r % 131072 ≡ 0 → ⊥) → ReadAs x r at old after → TextAs (whole_of x) (Some (r % 131072)) after
none_behind unread r at old after f e z h = absurd (z (omega (arith, h.0)))
none_behind (read xs []) r at old after f e z h =
    let q : r % 131072 ≡ h.size = omega (arith, h.code, h.before, h.within, h.room) in
    let n : h.size ≡ length xs = sym (length-take-le h.size after (omega (arith, h.before, h.within))) ∙ ap length h.symbols in
    record {
      count = some_counted xs (r % 131072) (q ∙ n) z;
      symbols = ap (λ (j : ℕ). take j after) (sym n) ∙ h.symbols;
    }
none_behind (read xs (b ∷ bs)) r at old after f e z h =
    absurd (omega (arith, h.code, h.before, h.within, h.room, ap length h.rest, length-drop h.next after))

-- one record was looked for in a balanced text, and this is what came of it
pub record Text (ls ns kn us : List ℕ) (r : ℕ) (after : List ℕ) : Type 0 where
  pub few : length us ≤ most_input
  pub balanced : balanced_from 0 us ≡ true
  pub known : kn ≡ known_of ls ns
  pub came : ReadAs (record_at kn [] us) r 0 us after

module _ {ls ns kn us : List ℕ} {r : ℕ} {after : List ℕ} (h : Text ls ns kn us r after) where
  text_is : read_text ls ns us ≡ whole_of (record_at kn [] us)
  text_is = rw (h.balanced, h.known)

  pub text_none : (r / 131072 ≡ length us → r % 131072 ≡ 0) → TextAs (read_text ls ns us) None after
  text_none e = rw text_is (none_whole (record_at kn [] us) r 0 us after h.few e h.came)

  pub text_some : r / 131072 ≡ length us → (r % 131072 ≡ 0 → ⊥) → TextAs (read_text ls ns us) (Some (r % 131072)) after
  text_some e z = rw text_is (none_behind (record_at kn [] us) r 0 us after h.few e z h.came)

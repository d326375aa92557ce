-- The table of symbols by letter and count: it holds each symbol under its letter and its count, and nothing else.
-- A place tells letter and count apart, for counts are at most 4; different letters have different places, and all letters are below 123.
use mathlib.Core.Path.{◌≡◌, refl, sym, ap, ◌∙◌}
use mathlib.Core.Logic.{◌≢◌, ◌⊎◌, inl, inr}
use mathlib.Core.Bool.{Bool, true, false, cond}
use mathlib.Core.List.{List, [], ◌∷◌}
use Prim.Native.Nat.{ℕ, zero, suc, ◌+◌, ◌≤◌, ◌<◌}
use native.Mathlib.Omega.{arith}
use lib.Dec.{leb, ltb, eqb}
use lib.ListN.{length, get_or, set, drop, replicate, length-set, length-replicate, get_or-replicate, get_or-eq_default}
use lib.Seq.{set_out, get_or-set_same, get_or-set_other}
use borrow.Author.Tests.{ltb-true, ltb-false, leb-true, eqb-true, eqb-false, le-leb}
use Rattle.model.specs.Limits.{most_children}
use Rattle.model.specs.Base.{is_in, Each, each_nil, each_cons, Apart, apart_cons, Distinct, distinct_cons, Below, none_below, one_below}
use Rattle.model.proofs.Laws.Tests.{both_true, or_cases}
use Rattle.model.proofs.Laws.Pigeonhole.{pigeon}
use Rattle.text.specs.Bytes.{is_letter}
use Rattle.text.specs.Written.{letter_of}
use Rattle.text.specs.Reading.{no_symbol, place_for, known_places, none_known, indexed_from, known_of, symbol_in}
use Rattle.text.specs.Promise.{Lettered}

-- the symbol a is the one with this letter and this count
pub record Names (letters counts : List ℕ) (letter count symbol : ℕ) : Type 0 where
  pub known : symbol < length letters
  pub head : letter_of letters symbol ≡ letter
  pub arity : get_or counts symbol 0 ≡ count

-- LETTERS
pub letter_low : (b : ℕ) → is_letter b ≡ true → b < 123
letter_low b e = go (or_cases (is_in 65 90 b) (is_in 97 122 b) e)
  where
    go : (is_in 65 90 b ≡ true) ⊎ (is_in 97 122 b ≡ true) → b < 123
    go (inl p) = omega (arith, leb-true b 90 (both_true (leb 65 b) (leb b 90) p).1)
    go (inr p) = omega (arith, leb-true b 122 (both_true (leb 97 b) (leb b 122) p).1)

pub letter_at : {P : ℕ → Type 0} {ls : List ℕ} → Each P ls → (i d : ℕ) → i < length ls → P (get_or ls i d)
letter_at each_nil i d l = absurd (omega arith)
letter_at (each_cons p ps) zero d l = p
letter_at (each_cons p ps) (suc i) d l = letter_at ps i d (omega arith)

letters_low : {ls : List ℕ} → Each (λ (b : ℕ). is_letter b ≡ true) ls → Below 123 ls
letters_low each_nil = none_below
letters_low (each_cons {k = b} p ps) = one_below (letter_low b p) (letters_low ps)

-- there are at most as many symbols as letters, so none has the number of no symbol
pub few_letters : {ls ns : List ℕ} → Lettered ls ns → length ls ≤ 123
few_letters {ls} w = pigeon 123 ls w.distinct (letters_low w.letter)

-- ONE ENTRY
tail_at : (ns : List ℕ) (i : ℕ) → get_or (drop 1 ns) i 0 ≡ get_or ns (suc i) 0
tail_at [] i = refl
tail_at (n ∷ ns) i = refl

few_tail : (ns : List ℕ) → ((i : ℕ) → get_or ns i 0 ≤ most_children) → (i : ℕ) → get_or (drop 1 ns) i 0 ≤ most_children
few_tail ns f i = let l = f (suc i) in let e = tail_at ns i in omega arith

-- symbol a with its letter and its count entered
abbrev entry : (known : List ℕ) → (letter count symbol : ℕ) → List ℕ
entry kn c n a = cond (leb n most_children) (set kn (place_for c n) a) kn

entered : (kn : List ℕ) (c n a : ℕ) → n ≤ most_children → entry kn c n a ≡ set kn (place_for c n) a
entered kn c n a l = ap (λ (z : Bool). cond z (set kn (place_for c n) a) kn) (le-leb n most_children l)

-- EACH SYMBOL stands under its letter and its count
kept : (a : ℕ) (ls ns kn : List ℕ) (b k : ℕ) → k ≤ most_children → ((i : ℕ) → get_or ns i 0 ≤ most_children) → Apart b ls →
    symbol_in (indexed_from a ls ns kn) b k ≡ symbol_in kn b k
unfolding indexed_from
kept a [] ns kn b k l f p = refl
kept a (c ∷ ls) ns kn b k l f (apart_cons n p) =
    let m : get_or ns 0 0 ≤ most_children = f 0 in
    let e = entered kn c (get_or ns 0 0) a m in
    kept (suc a) ls (drop 1 ns) (entry kn c (get_or ns 0 0) a) b k l (few_tail ns f) p ∙
    ap (λ (ms : List ℕ). symbol_in ms b k) e ∙ get_or-set_other kn (place_for c (get_or ns 0 0)) (place_for b k) a no_symbol (λ q. n (omega arith))

held : (a : ℕ) (ls ns kn : List ℕ) → Distinct ls → Each (λ (b : ℕ). is_letter b ≡ true) ls → ((i : ℕ) → get_or ns i 0 ≤ most_children) → length kn ≡ known_places →
    (i : ℕ) → i < length ls → symbol_in (indexed_from a ls ns kn) (letter_of ls i) (get_or ns i 0) ≡ a + i
unfolding indexed_from
held a [] ns kn d s f w i l = absurd (omega arith)
held a (c ∷ ls) ns kn (distinct_cons p d) (each_cons q s) f w zero l =
    let m : get_or ns 0 0 ≤ most_children = f 0 in
    let low = letter_low c q in
    let e = entered kn c (get_or ns 0 0) a m in
    kept (suc a) ls (drop 1 ns) (entry kn c (get_or ns 0 0) a) c (get_or ns 0 0) m (few_tail ns f) p ∙
    ap (λ (ms : List ℕ). symbol_in ms c (get_or ns 0 0)) e ∙ get_or-set_same kn (place_for c (get_or ns 0 0)) a no_symbol (omega arith) ∙ omega arith
held a (c ∷ ls) ns kn (distinct_cons p d) (each_cons q s) f w (suc i) l =
    let e = entered kn c (get_or ns 0 0) a (f 0) in
    let v : length (entry kn c (get_or ns 0 0) a) ≡ known_places = ap length e ∙ length-set kn (place_for c (get_or ns 0 0)) a ∙ w in
    ap (λ (k : ℕ). symbol_in (indexed_from a (c ∷ ls) ns kn) (letter_of ls i) k) (sym (tail_at ns i)) ∙
    held (suc a) ls (drop 1 ns) (entry kn c (get_or ns 0 0) a) d s (few_tail ns f) v i (omega arith) ∙ omega arith

pub symbol_held : {ls ns : List ℕ} → Lettered ls ns → (a : ℕ) → a < length ls → symbol_in (known_of ls ns) (letter_of ls a) (get_or ns a 0) ≡ a
symbol_held {ls} {ns} w a l = held 0 ls ns none_known w.distinct w.letter w.few (length-replicate known_places no_symbol) a l ∙ omega arith

-- NOTHING ELSE stands there
blank : (n i : ℕ) → get_or (replicate n no_symbol) i no_symbol ≡ no_symbol
blank n i = go (ltb i n) refl
  where
    go : (z : Bool) → ltb i n ≡ z → get_or (replicate n no_symbol) i no_symbol ≡ no_symbol
    go true e = get_or-replicate n i no_symbol no_symbol (ltb-true i n e)
    go false e = let l = ltb-false i n e in get_or-eq_default (replicate n no_symbol) no_symbol (omega (arith, length-replicate n no_symbol))

-- an entry of letter c, count n and symbol a is found under its own letter and count, if at all
one_entry : (kn : List ℕ) (a c n b k : ℕ) → k ≤ most_children →
    (symbol_in (entry kn c n a) b k ≡ symbol_in kn b k) ⊎
    ((c ≡ b) × (n ≡ k) × (symbol_in (entry kn c n a) b k ≡ a))
one_entry kn a c n b k l = go (leb n most_children) refl (eqb (place_for b k) (place_for c n)) refl (ltb (place_for b k) (length kn)) refl
  where
    go : (z : Bool) → leb n most_children ≡ z → (y : Bool) → eqb (place_for b k) (place_for c n) ≡ y → (x : Bool) → ltb (place_for b k) (length kn) ≡ x →
        (symbol_in (cond z (set kn (place_for c n) a) kn) b k ≡ symbol_in kn b k) ⊎
        ((c ≡ b) × (n ≡ k) × (symbol_in (cond z (set kn (place_for c n) a) kn) b k ≡ a))
    go false p y q x r = inl refl
    go true p false q x r = inl (get_or-set_other kn (place_for c n) (place_for b k) a no_symbol (eqb-false (place_for b k) (place_for c n) q))
    go true p true q false r =
        let s = eqb-true (place_for b k) (place_for c n) q in
        let t = ltb-false (place_for b k) (length kn) r in
        inl (ap (λ (ms : List ℕ). symbol_in ms b k) (set_out kn (place_for c n) a (omega arith)))
    go true p true q true r =
        let s : place_for b k ≡ place_for c n = eqb-true (place_for b k) (place_for c n) q in
        let m = leb-true n most_children p in
        let t = ltb-true (place_for b k) (length kn) r in
        inr (omega arith, omega arith, ap (λ (i : ℕ). get_or (set kn (place_for c n) a) i no_symbol) s ∙ get_or-set_same kn (place_for c n) a no_symbol (omega arith))

-- what stands there came by the first entry, by a later one, or before them
either : (ls ns : List ℕ) (a b c k : ℕ) {v m o : ℕ} → (m ≡ o) ⊎ ((c ≡ b) × (get_or ns 0 0 ≡ k) × (m ≡ a)) →
    (v ≡ m) ⊎ ((i : ℕ) × Names ls (drop 1 ns) b k i × (v ≡ suc a + i)) → (v ≡ o) ⊎ ((i : ℕ) × Names (c ∷ ls) ns b k i × (v ≡ a + i))
either ls ns a b c k (inl p) (inl q) = inl (q ∙ p)
either ls ns a b c k (inr p) (inl q) = inr (0, record { known = omega arith; head = p.0; arity = p.1 }, omega (arith, q, p.2))
either ls ns a b c k p (inr q) =
    let r = q.1 in
    inr (suc q.0, record { known = omega (arith, r.known); head = r.head; arity = sym (tail_at ns q.0) ∙ r.arity }, omega (arith, q.2))

found : (a : ℕ) (ls ns kn : List ℕ) (b k : ℕ) → k ≤ most_children →
    (symbol_in (indexed_from a ls ns kn) b k ≡ symbol_in kn b k) ⊎ ((i : ℕ) × Names ls ns b k i × (symbol_in (indexed_from a ls ns kn) b k ≡ a + i))
unfolding indexed_from
found a [] ns kn b k l = inl refl
found a (c ∷ ls) ns kn b k l =
    either ls ns a b c k (one_entry kn a c (get_or ns 0 0) b k l) (found (suc a) ls (drop 1 ns) (entry kn c (get_or ns 0 0) a) b k l)

pub symbol_names : (ls ns : List ℕ) (b k : ℕ) → k ≤ most_children → symbol_in (known_of ls ns) b k ≢ no_symbol → Names ls ns b k (symbol_in (known_of ls ns) b k)
symbol_names ls ns b k l n = go (found 0 ls ns none_known b k l)
  where
    go : (symbol_in (known_of ls ns) b k ≡ symbol_in none_known b k) ⊎ ((i : ℕ) × Names ls ns b k i × (symbol_in (known_of ls ns) b k ≡ 0 + i)) →
        Names ls ns b k (symbol_in (known_of ls ns) b k)
    go (inl p) = absurd (n (p ∙ blank known_places (place_for b k)))
    go (inr q) = let e : q.0 ≡ symbol_in (known_of ls ns) b k = omega (arith, q.2) in rw e at q.1

-- How long a walk gets: rows that fit T1 have different keys below 2 ^ 62, so a walk meets a row after at most 62 steps, whatever the table holds.
-- A row stands in one slot, to which one way leads; so the digits that a walk took to a row are those of the row's own key.
use mathlib.Core.Path.{◌≡◌, refl, sym, ap, subst, ◌∙◌}
use mathlib.Core.Bool.{Bool, true, false}
use mathlib.Core.List.{List, [], ◌∷◌, ◌++◌}
use Prim.Native.Nat.{ℕ, zero, suc, ◌+◌, ◌*◌, ◌-◌, ◌/◌, ◌%◌, ◌^◌, ◌≤◌, ◌<◌}
use native.Mathlib.Nat.{one-mul, mul_assoc, pow-suc, add-zero, add-suc}
use native.Mathlib.Omega.{arith}
use lib.Dec.{ltb}
use borrow.Author.Tests.{ltb-true, ltb-false}
use lib.ListN.{length, get_or, replicate}
use Rattle.model.specs.Limits.{row_width, most_rows, most_children}
use Rattle.model.specs.Base.{Below, none_below, one_below}
use Rattle.model.specs.Store.{padded, kids_at}
use Rattle.model.specs.Facts.{Good}
use Rattle.model.specs.Entry.{store_of}
use Rattle.model.proofs.Laws.Tests.{by_equal}
use Rattle.model.proofs.Laws.Lists.{zeros}
use Rattle.bank.specs.Rows.{symbol_in, kid_in, places_in}
use Rattle.bank.specs.Index.{link_of, bucket_for, key_for, Leads, here, on, Slot, head, link, Treed, NoTwins, Way, start, step, ShortWalks}
use Rattle.bank.specs.Bank.{Bank}
use Rattle.bank.proofs.Laws.Words.{used_of, symbol_in_law, places_in_law}
use Rattle.bank.proofs.Laws.Trees.{bucket_small, slot_below}
use Rattle.bank.proofs.Laws.Children.{place_at}

-- DIGITS of a key: what is left of it after some steps, and those that were taken, the last first
unfoldable pub halved : (steps key : ℕ) → ℕ
halved zero k = k
halved (suc d) k = halved d k / 2

unfoldable pub taken : (steps key : ℕ) → List ℕ
taken zero k = []
taken (suc d) k = halved d k % 2 ∷ taken d k

length_taken : (d k : ℕ) → length (taken d k) ≡ d
unfolding taken
length_taken zero k = refl
length_taken (suc d) k = ap suc (length_taken d k)

-- the digits and what is left tell the key
tail_of : {a b : ℕ} {s t : List ℕ} → a ∷ s ≡ b ∷ t → (a ≡ b) × (s ≡ t)
tail_of e = (cc, cc)

key_back : (d k l : ℕ) → taken d k ≡ taken d l → halved d k ≡ halved d l → k ≡ l
unfolding taken halved
key_back zero k l e h = h
key_back (suc d) k l e h = let p = tail_of e in key_back d k l p.1 (omega (arith, p.0))

module _ {z : ℕ} {ws : List ℕ} {n : ℕ} {xs : List ℕ} (x : Treed z ws n xs) (room : n ≤ z) where
  way_slot : {h : ℕ} {bs : List ℕ} {s : ℕ} → Way z xs h bs s → Slot z n s
  way_slot {h} (start l e) = head h l e
  way_slot (step b t c w nz e) = link (get_or xs t 0) b (by_equal (get_or xs t 0) 0 (λ p. absurd (nz p)) (λ p. omega arith)) (slot_below x (way_slot w)) c e

  -- one way leads to a slot
  one_way : {h g : ℕ} {bs cs : List ℕ} {s : ℕ} → Way z xs h bs s → Way z xs g cs s → bs ≡ cs
  one_way (start l e) (start m f) = refl
  one_way (start l e) (step b t c w nz f) = absurd (omega (arith, slot_below x (way_slot w)))
  one_way (step b t c w nz e) (start m f) = absurd (omega (arith, slot_below x (way_slot w)))
  one_way {g = g} (step {digits = bs} b t c w nz e) (step {digits = cs} d u k v ny f) =
      let r : get_or xs t 0 ≡ get_or xs u 0 = omega arith in
      let p : b ≡ d = omega arith in
      let q = x.single t u (way_slot w) (way_slot v) nz r in
      let i = one_way w (subst (λ (a : ℕ). Way z xs g cs a) (sym q) v) in
      λ j. p j ∷ i j

  -- a walk is a way
  record Ends (h k e : ℕ) : Type 0 where
    pub steps : ℕ
    pub way : Way z xs h (taken steps k) e

  walked : {h k e s l : ℕ} (d : ℕ) → Leads xs e s l → l ≡ halved d k → Way z xs h (taken d k) s → Ends h k e
  unfolding taken halved
  walked {h} {k} d (here p) q w = record { steps = d; way = subst (λ (t : ℕ). Way z xs h (taken d k) t) p w }
  walked {h} {k} d (on {slot = s} {key = l} nz m) q w =
      walked (suc d) m (ap (λ (a : ℕ). a / 2) q)
      (step (halved d k % 2) s (omega arith) w nz (ap (λ (a : ℕ). link_of (get_or xs s 0) (a % 2)) q))

  -- the digits of a way to a row are those of the row's key
  digits : {h : ℕ} {bs : List ℕ} {s : ℕ} → Way z xs h bs s → (get_or xs s 0 ≡ 0 → ⊥) → bs ≡ taken (length bs) (key_for (symbol_in ws (get_or xs s 0)) (places_in ws (get_or xs s 0)))
  unfolding taken halved
  digits {h} {bs} {s} w nz =
      let r : ℕ = get_or xs s 0 in
      let a : ℕ = symbol_in ws r in
      let ps : List ℕ = places_in ws r in
      let l : r < n = slot_below x (way_slot w) in
      let y : 0 < r = by_equal r 0 (λ e. absurd (nz e)) (λ e. omega arith) in
      let m = x.met r y l in
      let e = walked {k = key_for a ps} 0 m.leads refl (start (bucket_small (2 * z) a ps (omega arith)) refl) in
      let q : s ≡ m.end = x.single s m.end (way_slot w) (way_slot e.way) nz (sym m.holds) in
      let i : bs ≡ taken e.steps (key_for a ps) = one_way w (subst (λ (t : ℕ). Way z xs (bucket_for (2 * z) a ps) (taken e.steps (key_for a ps)) t) (sym q) e.way) in
      subst (λ (d : ℕ). bs ≡ taken d (key_for a ps)) (sym (ap length i ∙ length_taken e.steps (key_for a ps))) i

-- KEYS of rows that fit: symbols below 64, and children that are rows
pub record Small (ws : List ℕ) (n : ℕ) : Type 0 where
  pub symbols : (i : ℕ) → 0 < i → i < n → symbol_in ws i < 64
  pub kids : (i k : ℕ) → 0 < i → i < n → k < 4 → kid_in ws i k < most_rows

halved_less : (d k m : ℕ) → k < 2 ^ d * m → halved d k < m
unfolding halved
halved_less zero k m h = omega (arith, h, one-mul m)
halved_less (suc d) k m h =
    let e : 2 ^ suc d * m ≡ 2 ^ d * (2 * m) = ap (λ (p : ℕ). p * m) (pow-suc 2 d) ∙ mul_assoc (2 ^ d) 2 m in
    let l = halved_less d k (2 * m) (subst (λ (p : ℕ). k < p) e h) in
    omega arith

halved_on : (c d k : ℕ) → halved c k ≡ 0 → halved (c + d) k ≡ 0
unfolding halved
halved_on c zero k h = ap (λ (t : ℕ). halved t k) (add-zero c) ∙ h
halved_on c (suc d) k h = let i = halved_on c d k h in ap (λ (t : ℕ). halved t k) (add-suc c d) ∙ ap (λ (t : ℕ). t / 2) i

key_ends : (d a : ℕ) (ps : List ℕ) → a < 64 → 62 ≤ d → halved d (key_for a ps) ≡ 0
unfolding key_for
key_ends d a ps l m =
    let b = halved_less 62 (key_for a ps) 1 (omega arith) in
    let e : 62 + (d - 62) ≡ d = omega arith in
    subst (λ (t : ℕ). halved t (key_for a ps) ≡ 0) e (halved_on 62 (d - 62) (key_for a ps) (omega arith))

-- one key, one node: digit by digit
digit_same : (a b s t : ℕ) → a < most_rows → b < most_rows → a % most_rows + most_rows * s ≡ b % most_rows + most_rows * t → (a ≡ b) × (s ≡ t)
digit_same a b s t l m e = (omega arith, omega arith)

key_tells : (ws : List ℕ) (n i j : ℕ) → Small ws n → 0 < i → i < n → 0 < j → j < n → key_for (symbol_in ws i) (places_in ws i) ≡ key_for (symbol_in ws j) (places_in ws j) →
    (symbol_in ws i ≡ symbol_in ws j) × (places_in ws i ≡ places_in ws j)
unfolding key_for
key_tells ws n i j s y l z m e =
    let p = digit_same (kid_in ws i 0) (kid_in ws j 0) _ _ (s.kids i 0 y l (omega arith)) (s.kids j 0 z m (omega arith)) e in
    let q = digit_same (kid_in ws i 1) (kid_in ws j 1) _ _ (s.kids i 1 y l (omega arith)) (s.kids j 1 z m (omega arith)) p.1 in
    let r = digit_same (kid_in ws i 2) (kid_in ws j 2) _ _ (s.kids i 2 y l (omega arith)) (s.kids j 2 z m (omega arith)) q.1 in
    let t = digit_same (kid_in ws i 3) (kid_in ws j 3) _ _ (s.kids i 3 y l (omega arith)) (s.kids j 3 z m (omega arith)) r.1 in
    let f : symbol_in ws i ≡ symbol_in ws j = omega (arith, t.1, s.symbols i y l, s.symbols j z m) in
    (f, λ k. p.0 k ∷ q.0 k ∷ r.0 k ∷ t.0 k ∷ [])

-- THE BOUND: a way to a row has at most 62 steps
pub way_short : {z : ℕ} {ws : List ℕ} {n : ℕ} {xs : List ℕ} → Treed z ws n xs → n ≤ z → NoTwins ws n → Small ws n →
    {h : ℕ} {bs : List ℕ} {s : ℕ} → Way z xs h bs s → (get_or xs s 0 ≡ 0 → ⊥) → length bs ≤ 62
unfolding taken
way_short x room t small (start l e) nz = omega arith
way_short {z} {ws} {n} {xs} x room t small {s = s} (step {digits = bs} b u c w ny e) nz = go (ltb (length bs) 62) refl
  where
    some : 0 < get_or xs u 0
    some = by_equal (get_or xs u 0) 0 (λ p. absurd (ny p)) (λ p. omega arith)

    low : get_or xs u 0 < n
    low = slot_below x (way_slot x room w)

    high : get_or xs s 0 < n
    high = slot_below x (way_slot x room (step b u c w ny e))

    later : get_or xs u 0 < get_or xs s 0
    later =
        let v : get_or xs s 0 ≡ get_or xs (link_of (get_or xs u 0) b) 0 = ap (λ (k : ℕ). get_or xs k 0) e in
        subst (λ (k : ℕ). get_or xs u 0 < k) (sym v) (x.later (get_or xs u 0) b some low c (λ p. nz (v ∙ p)))

    twins : 62 ≤ length bs → ⊥
    twins m =
        let d : ℕ = length bs in
        let ki : ℕ = key_for (symbol_in ws (get_or xs u 0)) (places_in ws (get_or xs u 0)) in
        let kj : ℕ = key_for (symbol_in ws (get_or xs s 0)) (places_in ws (get_or xs s 0)) in
        let p : bs ≡ taken d ki = digits x room w ny in
        let q : b ∷ bs ≡ taken (suc d) kj = digits x room (step b u c w ny e) nz in
        let r : taken d ki ≡ taken d kj = sym p ∙ (tail_of q).1 in
        let f = key_ends d (symbol_in ws (get_or xs u 0)) (places_in ws (get_or xs u 0)) (small.symbols (get_or xs u 0) some low) m in
        let g = key_ends d (symbol_in ws (get_or xs s 0)) (places_in ws (get_or xs s 0)) (small.symbols (get_or xs s 0) (omega (arith, later)) high) m in
        let o = key_tells ws n (get_or xs u 0) (get_or xs s 0) small some low (omega (arith, later)) high (key_back d ki kj r (f ∙ sym g)) in
        t (get_or xs u 0) (get_or xs s 0) some later high o.0 o.1

    go : (v : Bool) → ltb (length bs) 62 ≡ v → length (b ∷ bs) ≤ 62
    go true p = let l = ltb-true (length bs) 62 p in omega arith
    go false p = absurd (twins (ltb-false (length bs) 62 p))

-- OVER A TABLE that is ready: children are earlier rows, and unused places 0
padded_below : {i m : ℕ} {ks : List ℕ} → Below i ks → i ≤ m → 0 < m → (c k : ℕ) → get_or (ks ++ replicate c 0) k 0 < m
padded_below none_below l y c k = rw (zeros c k) y
padded_below (one_below a b) l y c zero = omega arith
padded_below (one_below a b) l y c (suc k) = padded_below b l y c k

small_of : {ws ns : List ℕ} {n : ℕ} → Good (store_of ws ns n) → row_width * n ≤ length ws → n ≤ most_rows → Small ws n
small_of {ws} {ns} {n} g room few =
    record {
      symbols = λ i y l. let r = g.row i y (omega (arith, used_of ws ns n)) in let m = g.letters in omega (arith, r.known, symbol_in_law ws ns n i l);
      kids = λ i k y l c.
          let r = g.row i y (omega (arith, used_of ws ns n)) in
          let e : kid_in ws i k ≡ get_or (padded (kids_at (store_of ws ns n) i)) k 0 = sym (place_at ws i k c) ∙ ap (λ (ps : List ℕ). get_or ps k 0) (sym (places_in_law ws ns n i l room) ∙ r.places) in
          rw e (padded_below r.below (omega arith) (omega arith) (most_children - length (kids_at (store_of ws ns n) i)) k);
    }

pub walks_short : {ws ns : List ℕ} {n : ℕ} {xs : List ℕ} → Bank ws ns n xs → ShortWalks xs
walks_short {ws} {ns} {n} {xs} r h bs s w nz =
    let f = r.finding in
    way_short f.indexed (omega (arith, f.room, f.roomy.long)) f.no_twins (small_of r.good f.room f.few) w nz

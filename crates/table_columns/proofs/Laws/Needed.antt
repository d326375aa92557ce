-- The needed rows: the marked rows get positions upwards, and then the ends of their runs.
-- The hole child of a marked row is an earlier marked row or row 0, so it has its position when the row gets its own.
use mathlib.Core.Path.{◌≡◌, refl, sym, ap, subst, ◌∙◌}
use mathlib.Core.List.{List}
use Prim.Native.Nat.{ℕ, ◌+◌, ◌*◌, ◌/◌, ◌≤◌, ◌<◌}
use native.Mathlib.Omega.{arith}
use lib.ListN.{length, get_or, set, length-set}
use lib.Seq.{get_or-set_same, get_or-set_other}
use Rattle.model.specs.Store.{Store}
use Rattle.model.specs.Entry.{store_of}
use Rattle.model.proofs.Laws.Tests.{by_equal}
use Rattle.bank.specs.Index.{hole_of}
use Rattle.bank.specs.Bank.{Bank}
use Rattle.table_columns.specs.Columns.{hole_kid}
use Rattle.bank.specs.Notes.{room_in}
use Rattle.table_columns.specs.Notes.{row_note, below_note, end_note, mark_note, SameNotes, HoledMarks, KidsMarked, NeededRows, Seated, AllSeated, needed_more, Runs, Tops, TopsRead, NeededFor}
use Rattle.table_columns.proofs.Laws.Frames.{kid_early}

-- the marked rows up to row i at positions up to n; the later marks as they were
pub record Listing (x : Store) (index : List ℕ) (z : ℕ) (marks notes : List ℕ) (i n : ℕ) : Type 0 where
  pub low : n ≤ i
  pub first : row_note notes 0 ≡ 0
  pub within : (p : ℕ) → p ≤ n → row_note notes p ≤ i
  pub marked : (p : ℕ) → 0 < p → p ≤ n → get_or index (hole_of (row_note notes p)) 0 ≡ 0 → ⊥
  pub early : (p : ℕ) → 0 < p → p ≤ n → below_note z notes p < p
  pub kid : (p : ℕ) → 0 < p → p ≤ n → row_note notes (below_note z notes p) ≡ hole_kid x index (row_note notes p)
  pub seats : (j : ℕ) → j ≤ i → ((j ≡ 0 → ⊥) → mark_note z notes j ≡ 0 → ⊥) → Seated z notes n j
  pub same : (j : ℕ) → i < j → mark_note z notes j ≡ mark_note z marks j
  pub stay : (j : ℕ) → 0 < j → (mark_note z marks j ≡ 0 → ⊥) → mark_note z notes j ≡ 0 → ⊥

-- THE START: row 0 at position 0
-- A ROW PASSED without a mark
pub listing_clear : {x : Store} {ix : List ℕ} {z : ℕ} {ms us : List ℕ} {i n : ℕ} → Listing x ix z ms us i n → mark_note z us (i + 1) ≡ 0 → Listing x ix z ms us (i + 1) n
listing_clear {z = z} {us = us} {i = i} h o =
    record {
      low = omega (arith, h.low);
      first = h.first;
      within = λ p a. omega (arith, h.within p a);
      marked = h.marked;
      early = h.early;
      kid = h.kid;
      seats = λ j a m. by_equal j (i + 1) (λ e. absurd (m (λ s. omega arith) (ap (mark_note z us) e ∙ o))) (λ e. h.seats j (omega arith) m);
      same = λ j a. h.same j (omega arith);
      stay = h.stay;
    }

-- A MARKED ROW: it has a hole, and its hole child has its position
module _ {ws ns : List ℕ} {u : ℕ} {ix : List ℕ} (r : Bank ws ns u ix) {z : ℕ} {ms us : List ℕ} {i n : ℕ} (h : Listing (store_of ws ns u) ix z ms us i n)
    (holed : HoledMarks ix z u ms) (kids : KidsMarked (store_of ws ns u) ix z u 1 ms) (more : i + 1 < u) (own : mark_note z us (i + 1) ≡ 0 → ⊥) where
  abbrev x : Store
  x = store_of ws ns u

  was : mark_note z ms (i + 1) ≡ 0 → ⊥
  was o = own (h.same (i + 1) (omega arith) ∙ o)

  pub row_holed : get_or ix (hole_of (i + 1)) 0 ≡ 0 → ⊥
  row_holed = holed.holed (i + 1) (omega arith) more was

  module _ (kid : ℕ) (e : kid ≡ hole_kid (store_of ws ns u) ix (i + 1)) where
    low_kid : kid ≤ i
    low_kid = omega (arith, e, kid_early r (i + 1) more row_holed)

    kid_seat : Seated z us n kid
    kid_seat =
        h.seats kid low_kid
        (λ s. h.stay kid (omega arith) (subst (λ (k : ℕ). mark_note z ms k ≡ 0 → ⊥) (sym e) (kids.kids (i + 1) (omega arith) (omega arith) more was (λ t. s (e ∙ t)))))

    module _ (fits : u ≤ z) (long : 4 * z ≤ length us) where
      abbrev vs : List ℕ
      vs = needed_more z us (n + 1) (i + 1) kid

      abbrev one : List ℕ
      one = set us (n + 1) (i + 1)

      abbrev two : List ℕ
      two = set one (z + (n + 1)) (mark_note z us kid)

      row_own : (p : ℕ) → p ≡ n + 1 → row_note (needed_more z us (n + 1) (i + 1) kid) p ≡ i + 1
      row_own p s =
          let b = h.low in
          ap (row_note vs) s ∙ get_or-set_other two (3 * z + (i + 1)) (n + 1) (n + 1) 0 (λ t. omega arith) ∙
          get_or-set_other one (z + (n + 1)) (n + 1) (mark_note z us kid) 0 (λ t. omega arith) ∙ get_or-set_same us (n + 1) (i + 1) 0 (omega arith)

      row_old : (p : ℕ) → p ≤ n → row_note (needed_more z us (n + 1) (i + 1) kid) p ≡ row_note us p
      row_old p l =
          let b = h.low in
          get_or-set_other two (3 * z + (i + 1)) p (n + 1) 0 (λ t. omega arith) ∙ get_or-set_other one (z + (n + 1)) p (mark_note z us kid) 0 (λ t. omega arith) ∙
          get_or-set_other us (n + 1) p (i + 1) 0 (λ t. omega arith)

      below_own : (p : ℕ) → p ≡ n + 1 → below_note z (needed_more z us (n + 1) (i + 1) kid) p ≡ mark_note z us kid
      below_own p s =
          let b = h.low in
          ap (below_note z vs) s ∙ get_or-set_other two (3 * z + (i + 1)) (z + (n + 1)) (n + 1) 0 (λ t. omega arith) ∙
          get_or-set_same one (z + (n + 1)) (mark_note z us kid) 0 (rw length-set (omega arith))

      below_old : (p : ℕ) → p ≤ n → below_note z (needed_more z us (n + 1) (i + 1) kid) p ≡ below_note z us p
      below_old p l =
          let b = h.low in
          get_or-set_other two (3 * z + (i + 1)) (z + p) (n + 1) 0 (λ t. omega arith) ∙ get_or-set_other one (z + (n + 1)) (z + p) (mark_note z us kid) 0 (λ t. omega arith) ∙
          get_or-set_other us (n + 1) (z + p) (i + 1) 0 (λ t. omega arith)

      seat_own : (j : ℕ) → j ≡ i + 1 → mark_note z (needed_more z us (n + 1) (i + 1) kid) j ≡ n + 1
      seat_own j s = ap (mark_note z vs) s ∙ get_or-set_same two (3 * z + (i + 1)) (n + 1) 0 (rw (length-set, length-set) (omega arith))

      seat_old : (j : ℕ) → (j ≡ i + 1 → ⊥) → mark_note z (needed_more z us (n + 1) (i + 1) kid) j ≡ mark_note z us j
      seat_old j s =
          let b = h.low in
          get_or-set_other two (3 * z + (i + 1)) (3 * z + j) (n + 1) 0 (λ t. s (omega arith)) ∙ get_or-set_other one (z + (n + 1)) (3 * z + j) (mark_note z us kid) 0 (λ t. omega arith) ∙
          get_or-set_other us (n + 1) (3 * z + j) (i + 1) 0 (λ t. omega arith)

      new_kid : (p : ℕ) → p ≡ n + 1 → row_note (needed_more z us (n + 1) (i + 1) kid) (below_note z (needed_more z us (n + 1) (i + 1) kid) p) ≡
          hole_kid (store_of ws ns u) ix (row_note (needed_more z us (n + 1) (i + 1) kid) p)
      new_kid p s =
          ap (row_note vs) (below_own p s) ∙ row_old (mark_note z us kid) kid_seat.within ∙ kid_seat.there ∙ e ∙ ap (hole_kid x ix) (sym (row_own p s))

      old_kid : (p : ℕ) → 0 < p → p ≤ n → row_note (needed_more z us (n + 1) (i + 1) kid) (below_note z (needed_more z us (n + 1) (i + 1) kid) p) ≡
          hole_kid (store_of ws ns u) ix (row_note (needed_more z us (n + 1) (i + 1) kid) p)
      old_kid p a l =
          ap (row_note vs) (below_old p l) ∙ row_old (below_note z us p) (omega (arith, h.early p a l)) ∙ h.kid p a l ∙ ap (hole_kid x ix) (sym (row_old p l))

      old_seat : (j : ℕ) → (j ≡ i + 1 → ⊥) → Seated z us n j → Seated z (needed_more z us (n + 1) (i + 1) kid) (n + 1) j
      old_seat j s w =
          record { within = omega (arith, seat_old j s, w.within); there = ap (row_note vs) (seat_old j s) ∙ row_old (mark_note z us j) w.within ∙ w.there }

      pub listing_more : Listing (store_of ws ns u) ix z ms (needed_more z us (n + 1) (i + 1) kid) (i + 1) (n + 1)
      listing_more =
          record {
            low = omega (arith, h.low);
            first = row_old 0 (omega arith) ∙ h.first;
            within = λ p a. by_equal p (n + 1) (λ s. omega (arith, row_own p s)) (λ s. omega (arith, row_old p (omega arith), h.within p (omega arith)));
            marked = λ p a b. by_equal p (n + 1) (λ s. subst (λ (k : ℕ). get_or ix (hole_of k) 0 ≡ 0 → ⊥) (sym (row_own p s)) row_holed)
                (λ s. subst (λ (k : ℕ). get_or ix (hole_of k) 0 ≡ 0 → ⊥) (sym (row_old p (omega arith))) (h.marked p a (omega arith)));
            early = λ p a b. by_equal p (n + 1) (λ s. omega (arith, below_own p s, kid_seat.within)) (λ s. omega (arith, below_old p (omega arith), h.early p a (omega arith)));
            kid = λ p a b. by_equal p (n + 1) (λ s. new_kid p s) (λ s. old_kid p a (omega arith));
            seats = λ j a m. by_equal j (i + 1) (λ s. record { within = omega (arith, seat_own j s); there = ap (row_note vs) (seat_own j s) ∙ row_own (n + 1) refl ∙ sym s })
                (λ s. old_seat j s (h.seats j (omega arith) (λ t o. m t (seat_old j s ∙ o))));
            same = λ j a. seat_old j (λ s. omega arith) ∙ h.same j (omega arith);
            stay = λ j a m o. by_equal j (i + 1) (λ s. omega (arith, seat_own j s)) (λ s. h.stay j a m (sym (seat_old j s) ∙ o));
          }

-- RUNS, from the last position to the first: a position put before the run, which then goes on or starts anew
pub record Spine (z : ℕ) (notes : List ℕ) (from end : ℕ) : Type 0 where
  pub up : (q : ℕ) → from ≤ q → q < end → below_note z notes q + 1 ≡ q

pub runs_none : (z : ℕ) (ns : List ℕ) (n : ℕ) → Runs z ns (n + 1) n
runs_none z ns n = record { ahead = λ p a b. absurd (omega arith); last = λ p a b. absurd (omega arith); spine = λ p q a b. absurd (omega arith) }

pub spine_none : (z : ℕ) (ns : List ℕ) (p : ℕ) → Spine z ns p p
spine_none z ns p = record { up = λ q a b. absurd (omega arith) }

module _ {z : ℕ} {us : List ℕ} {next n end : ℕ} (h : Runs z us next n) (s : Spine z us next end) (p : ℕ) (e : next ≡ p + 1) (ahead : next ≤ end) (low : end ≤ n + 1) (few : n < z) (long : 4 * z ≤ length us) where
  end_own : (q : ℕ) → q ≡ p → end_note z (set us (2 * z + p) end) q ≡ end
  end_own q t = ap (end_note z (set us (2 * z + p) end)) t ∙ get_or-set_same us (2 * z + p) end 0 (omega arith)

  end_old : (q : ℕ) → (q ≡ p → ⊥) → end_note z (set us (2 * z + p) end) q ≡ end_note z us q
  end_old q t = get_or-set_other us (2 * z + p) (2 * z + q) end 0 (λ f. t (omega arith))

  below_same : (q : ℕ) → q ≤ n → below_note z (set us (2 * z + p) end) q ≡ below_note z us q
  below_same q l = get_or-set_other us (2 * z + p) (z + q) end 0 (λ f. omega arith)

  pub runs_more : Runs z (set us (2 * z + p) end) p n
  runs_more =
      record {
        ahead = λ q a b. by_equal q p (λ t. omega (arith, end_own q t)) (λ t. omega (arith, end_old q t, h.ahead q (omega arith) b));
        last = λ q a b. by_equal q p (λ t. omega (arith, end_own q t)) (λ t. omega (arith, end_old q t, h.last q (omega arith) b));
        spine = λ q o a b l k. by_equal q p (λ t. let g = end_own q t in omega (arith, below_same o (omega arith), s.up o (omega arith) (omega arith)))
            (λ t. let g = end_old q t in let m = h.last q (omega arith) b in omega (arith, below_same o (omega arith), h.spine q o (omega arith) b l (omega arith)));
      }

  pub spine_more : below_note z (set us (2 * z + p) end) p + 1 ≡ p → Spine z (set us (2 * z + p) end) p end
  spine_more t =
      record {
        up = λ q a b. by_equal q p (λ g. ap (λ (k : ℕ). below_note z (set us (2 * z + p) end) k + 1) g ∙ t ∙ sym g) (λ g. omega (arith, below_same q (omega arith), s.up q (omega arith) b));
      }

pub same_more : {z : ℕ} {ns us : List ℕ} → SameNotes 2 z ns us → (p v : ℕ) → SameNotes 2 z ns (set us (2 * z + p) v)
same_more {z} {ns} {us} h p v = record { size = simp length-set h.size; same = λ i l. get_or-set_other us (2 * z + p) i v 0 (λ e. omega arith) ∙ h.same i l }

-- KEPT where the columns read are as they were
module _ {z : ℕ} {ns us : List ℕ} (same : (i : ℕ) → i < 2 * z → get_or us i 0 ≡ get_or ns i 0) where
  pub needed_kept : {x : Store} {ix : List ℕ} {u n : ℕ} → u ≤ z → NeededRows x ix u z ns n → NeededRows x ix u z us n
  needed_kept {x} {ix} {u} {n} l h =
      let f = h.few in
      record {
        few = h.few;
        first = same 0 (omega arith) ∙ h.first;
        within = λ p a. omega (arith, same p (omega arith), h.within p a);
        marked = λ p a b. subst (λ (k : ℕ). get_or ix (hole_of k) 0 ≡ 0 → ⊥) (sym (same p (omega arith))) (h.marked p a b);
        early = λ p a b. omega (arith, same (z + p) (omega arith), h.early p a b);
        kid = λ p a b. let o = h.early p a b in ap (row_note us) (same (z + p) (omega arith)) ∙ same (below_note z ns p) (omega arith) ∙ h.kid p a b ∙ ap (hole_kid x ix) (sym (same p (omega arith)));
      }

  pub tops_kept : {c tops : List ℕ} {n : ℕ} → n < z → Tops c ns n tops → Tops c us n tops
  tops_kept {c} {tops} {n} l h = record { within = h.within; right = λ j a. let o = h.within j a in same (get_or tops j 0) (omega arith) ∙ h.right j a }

pub runs_kept : {z : ℕ} {ns us : List ℕ} {n : ℕ} → SameNotes 3 z ns us → n < z → Runs z ns 1 n → Runs z us 1 n
runs_kept {z} {ns} {us} {n} s f h =
    record {
      ahead = λ p a b. omega (arith, s.same (2 * z + p) (omega arith), h.ahead p a b);
      last = λ p a b. omega (arith, s.same (2 * z + p) (omega arith), h.last p a b);
      spine = λ p q a b l k.
          let e = s.same (2 * z + p) (omega arith) in
          let m = h.last p a b in
          omega (arith, s.same (z + q) (omega arith), h.spine p q a b l (omega arith));
    }

-- TOPS, from the positions of the members of C
pub tops_of : (z u : ℕ) (c ms us : List ℕ) (n : ℕ) (tops : List ℕ) → AllSeated z u ms us n → TopsRead z c us tops → ((j : ℕ) → j < length c → (get_or c j 0 < u) × ((get_or c j 0 ≡ 0 → ⊥) → mark_note z ms (get_or c j 0) ≡ 0 → ⊥)) → Tops c us n tops
tops_of z u c ms us n tops a t m =
    record {
      within = λ j l. omega (arith, t j l, (a (get_or c j 0) (m j l).0 (m j l).1).within);
      right = λ j l. ap (row_note us) (t j l) ∙ (a (get_or c j 0) (m j l).0 (m j l).1).there;
    }

-- ALL OF IT, in notes as long
pub needed_for : {x : Store} {ix : List ℕ} {u n : ℕ} {c : List ℕ} (ns : List ℕ) {us tops : List ℕ} → length us ≡ length ns → u ≤ room_in ns → NeededRows x ix u (room_in ns) us n → Runs (room_in ns) us 1 n → Tops c us n tops → NeededFor x ix u c us n tops
needed_for {x} {ix} {u} {n} {c} ns {us} {tops} l f h r t =
    let e : room_in us ≡ room_in ns = ap (λ (m : ℕ). m / 4) l in
    record { fits = omega (arith, e); needed = subst (λ (z : ℕ). NeededRows x ix u z us n) (sym e) h; runs = subst (λ (z : ℕ). Runs z us 1 n) (sym e) r; tops = t }

pub needed_for_kept : {x : Store} {ix : List ℕ} {u n : ℕ} {c ns us tops : List ℕ} → SameNotes 3 (room_in ns) ns us → NeededFor x ix u c ns n tops → NeededFor x ix u c us n tops
needed_for_kept {ns = ns} {us = us} s h =
    let f = h.needed.few in
    let two : (i : ℕ) → i < 2 * room_in ns → get_or us i 0 ≡ get_or ns i 0 = λ i l. s.same i (omega arith) in
    needed_for ns s.size h.fits (needed_kept two h.fits h.needed) (runs_kept s (omega (arith, h.fits)) h.runs) (tops_kept two (omega (arith, h.fits)) h.tops)

-- Marks of rows in the last column of the notes: cleared, set at the members of C, and set at the hole children of marked rows.
-- A mark set leaves the other marks, so marked rows stay marked.
use mathlib.Core.Path.{◌≡◌, sym, ap, ◌∙◌}
use mathlib.Core.List.{List}
use Prim.Native.Nat.{ℕ, ◌+◌, ◌*◌, ◌≤◌, ◌<◌}
use native.Mathlib.Omega.{arith}
use lib.ListN.{length, get_or, set, length-set}
use lib.Seq.{get_or-set_same, get_or-set_other}
use Rattle.model.specs.Store.{Store}
use Rattle.model.specs.Entry.{store_of}
use Rattle.model.proofs.Laws.Tests.{by_equal}
use Rattle.bank.specs.Index.{hole_of}
use Rattle.bank.specs.Bank.{Bank}
use Rattle.bank.proofs.Laws.Words.{used_of}
use Rattle.table_columns.specs.Columns.{hole_kid, Contexts}
use Rattle.table_columns.specs.Notes.{row_note, mark_note, Cleared, MembersMarked, HoledMarks, KidsMarked, StayMarked, hole_first, NeedMarks}
use Rattle.table_columns.proofs.Laws.Frames.{kid_early, kid_hole, hole_marked, context_within, context_hole}

-- A MARK SET
module _ (z : ℕ) (us : List ℕ) (k : ℕ) (fits : 3 * z + k < length us) where
  pub mark_own : (i : ℕ) → i ≡ k → mark_note z (set us (3 * z + k) 1) i ≡ 1
  mark_own i e = ap (λ (j : ℕ). get_or (set us (3 * z + k) 1) (3 * z + j) 0) e ∙ get_or-set_same us (3 * z + k) 1 0 fits

  pub mark_other : (i : ℕ) → (i ≡ k → ⊥) → mark_note z (set us (3 * z + k) 1) i ≡ mark_note z us i
  mark_other i e = get_or-set_other us (3 * z + k) (3 * z + i) 1 0 (λ s. e (omega arith))

  pub mark_stays : StayMarked z us (set us (3 * z + k) 1)
  mark_stays i m o = by_equal i k (λ e. omega (arith, mark_own i e)) (λ e. m (sym (mark_other i e) ∙ o))

-- NONE MARKED
pub holed_none : {z u : ℕ} {ns us : List ℕ} (ix : List ℕ) → Cleared z ns 0 u us → HoledMarks ix z u us
holed_none ix h = record { holed = λ i a b m. absurd (m (h.clear i (omega arith) b)) }

pub kids_none : {z u : ℕ} {ns us : List ℕ} (x : Store) (ix : List ℕ) → Cleared z ns 0 u us → KidsMarked x ix z u 1 us
kids_none x ix h = record { kids = λ j a b d m. absurd (m (h.clear j (omega arith) d)) }

-- THE WAY DOWN has come to a row: the hole child of each marked row is marked, or it is that row
pub record OpenMarks (x : Store) (ix : List ℕ) (z u at : ℕ) (us : List ℕ) : Type 0 where
  pub kids : (j : ℕ) → 0 < j → j < u → (mark_note z us j ≡ 0 → ⊥) → (hole_kid x ix j ≡ 0 → ⊥) → (hole_kid x ix j ≡ at → ⊥) → mark_note z us (hole_kid x ix j) ≡ 0 → ⊥

pub open_start : {x : Store} {ix : List ℕ} {z u : ℕ} {us : List ℕ} → KidsMarked x ix z u 1 us → (at : ℕ) → OpenMarks x ix z u at us
open_start h at = record { kids = λ j a d m k s. h.kids j a (omega arith) d m k }

-- it ends at row 0, or at a marked row
pub open_none : {x : Store} {ix : List ℕ} {z u at : ℕ} {us : List ℕ} → OpenMarks x ix z u at us → at ≡ 0 → KidsMarked x ix z u 1 us
open_none h e = record { kids = λ j a b d m k. h.kids j a d m k (λ s. k (s ∙ e)) }

pub open_marked : {x : Store} {ix : List ℕ} {z u at : ℕ} {us : List ℕ} → OpenMarks x ix z u at us → (mark_note z us at ≡ 0 → ⊥) → KidsMarked x ix z u 1 us
open_marked {x} {ix} {z} {u} {at} {us} h m =
    record { kids = λ j a b d n k. by_equal (hole_kid x ix j) at (λ s o. m (ap (λ (i : ℕ). get_or us (3 * z + i) 0) (sym s) ∙ o)) (λ s. h.kids j a d n k s) }

-- or the row is marked, and its hole child is the next one
module _ (z : ℕ) {u : ℕ} (at : ℕ) {us : List ℕ} (fits : 3 * z + at < length us) where
  pub open_more : {x : Store} {ix : List ℕ} → OpenMarks x ix z u at us → OpenMarks x ix z u (hole_kid x ix at) (set us (3 * z + at) 1)
  open_more {x} {ix} h =
      record {
        kids = λ j a d m k s. by_equal j at (λ e. absurd (s (ap (hole_kid x ix) e)))
            (λ e. by_equal (hole_kid x ix j) at (λ t o. omega (arith, mark_own z us at fits (hole_kid x ix j) t))
            (λ t. mark_stays z us at fits (hole_kid x ix j) (h.kids j a d (λ o. m (mark_other z us at fits j e ∙ o)) k t)));
      }

  pub holed_more : {ix : List ℕ} → HoledMarks ix z u us → (get_or ix (hole_of at) 0 ≡ 0 → ⊥) → HoledMarks ix z u (set us (3 * z + at) 1)
  holed_more {ix} h n =
      record {
        holed = λ j a b m. by_equal j at (λ e o. n (ap (λ (i : ℕ). get_or ix (hole_of i) 0) (sym e) ∙ o)) (λ e. h.holed j a b (λ o. m (mark_other z us at fits j e ∙ o)));
      }

-- the hole child of a row with a hole is row 0 or has one too
pub kid_holed : {ws ns : List ℕ} {u : ℕ} {ix : List ℕ} (r : Bank ws ns u ix) (i : ℕ) → i < u → (get_or ix (hole_of i) 0 ≡ 0 → ⊥) →
    0 < hole_kid (store_of ws ns u) ix i → get_or ix (hole_of (hole_kid (store_of ws ns u) ix i)) 0 ≡ 0 → ⊥
kid_holed {ws} {ns} {u} {ix} r i l n some =
    hole_marked r (hole_kid (store_of ws ns u) ix i) (omega (arith, kid_early r i l n)) (λ e. omega (arith, some)) (kid_hole r i l n)

-- ROW 0 PUT at position 0: the marks of the other rows are as they were
module _ (z : ℕ) (ns : List ℕ) (some : 0 < z) (long : 4 * z ≤ length ns) where
  pub first_row : row_note (hole_first z ns) 0 ≡ 0
  first_row = get_or-set_other (set ns 0 0) (3 * z) 0 0 0 (λ e. omega arith) ∙ get_or-set_same ns 0 0 0 (omega arith)

  pub first_mark : mark_note z (hole_first z ns) 0 ≡ 0
  first_mark =
      let s : 3 * z + 0 ≡ 3 * z = omega arith in
      ap (λ (k : ℕ). get_or (hole_first z ns) k 0) s ∙ get_or-set_same (set ns 0 0) (3 * z) 0 0 (rw length-set (omega arith))

  pub first_other : (j : ℕ) → 0 < j → mark_note z (hole_first z ns) j ≡ mark_note z ns j
  first_other j l = get_or-set_other (set ns 0 0) (3 * z) (3 * z + j) 0 0 (λ e. omega arith) ∙ get_or-set_other ns 0 (3 * z + j) 0 0 (λ e. omega arith)

  pub first_holed : {ix : List ℕ} {u : ℕ} → HoledMarks ix z u ns → HoledMarks ix z u (hole_first z ns)
  first_holed h = record { holed = λ i a b m. h.holed i a b (λ o. m (first_other i a ∙ o)) }

  pub first_kids : {x : Store} {ix : List ℕ} {u : ℕ} → KidsMarked x ix z u 1 ns → KidsMarked x ix z u 1 (hole_first z ns)
  first_kids {x} {ix} h = record { kids = λ j a b d m k o. h.kids j a b d (λ t. m (first_other j a ∙ t)) k (sym (first_other (hole_kid x ix j) (omega arith)) ∙ o) }

  pub need_marks : {x : Store} {ix : List ℕ} {u : ℕ} {c : List ℕ} → HoledMarks ix z u ns → KidsMarked x ix z u 1 ns → MembersMarked z c (length c) ns → NeedMarks x ix z u c (hole_first z ns)
  need_marks {c = c} h k m =
      record {
        holed = first_holed h;
        kids = first_kids k;
        first = first_row;
        hole = first_mark;
        members = λ j l s o. m j l s (sym (first_other (get_or c j 0) (omega arith)) ∙ o);
      }

-- THE MEMBERS OF C are contexts: used rows, and beyond row 0 they have a hole
module _ {ws ns : List ℕ} {u : ℕ} {ix : List ℕ} (r : Bank ws ns u ix) (c : List ℕ) (contexts : Contexts (store_of ws ns u) c (length c)) where
  pub members_used : (j : ℕ) → j < length c → get_or c j 0 < u
  members_used j l = omega (arith, context_within (store_of ws ns u) (get_or c j 0) (contexts j l), used_of ws ns u)

  pub members_holed : (j : ℕ) → j < length c → 0 < get_or c j 0 → get_or ix (hole_of (get_or c j 0)) 0 ≡ 0 → ⊥
  members_holed j l some = hole_marked r (get_or c j 0) (members_used j l) (λ e. omega (arith, some)) (context_hole (store_of ws ns u) (get_or c j 0) (contexts j l))

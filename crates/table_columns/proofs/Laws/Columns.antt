-- A column, filled along the needed rows: position 0 holds the record, and each next position has its row from that of its hole child.
-- The hole child stands at an earlier position. A row whose hole child fills to nothing stored does so too, and thus a whole run.
use mathlib.Core.Path.{◌≡◌, refl, sym, ap, subst, ◌∙◌}
use mathlib.Core.Bool.{Bool, true, false}
use mathlib.Core.List.{List}
use Prim.Native.Nat.{ℕ, zero, suc, ◌+◌, ◌*◌, ◌-◌, ◌≤◌, ◌<◌}
use native.Mathlib.Omega.{arith}
use lib.Dec.{ltb}
use borrow.Author.Tests.{ltb-true, ltb-false}
use lib.ListN.{length, get_or, set, take, length-map, length-set}
use lib.Seq.{get_or-set_same, get_or-set_other, get_or-take, length-take-le, ext_get_or}
use Rattle.model.specs.Store.{Store, Frame, next_row, filled_row, frames_of}
use Rattle.model.specs.Table.{answer_at, answers_of, answer_in as answer_of}
use Rattle.model.specs.Entry.{store_of, answers_in}
use Rattle.model.proofs.Laws.Tests.{by_equal}
use Rattle.model.proofs.Laws.Lists.{map_at}
use Rattle.bank.specs.Rows.{answer_in}
use Rattle.bank.specs.Bank.{Bank, frame_at}
use Rattle.bank.specs.Index.{hole_of}
use Rattle.bank.proofs.Laws.Words.{used_of, answer_in_law}
use Rattle.table_columns.specs.Columns.{hole_kid}
use Rattle.table_columns.specs.Notes.{row_note, below_note, end_note, filled_note, SameNotes, Cleared, NeededRows, Runs, Tops, RightEntry, Column, column_answers}
use Rattle.table_columns.proofs.Laws.Frames.{frames_none, filled_step, next_none}
use Rattle.table_columns.proofs.Laws.Rows.{answers_length, answers_at_law}

module _ {ws ns : List ℕ} {u : ℕ} {ix : List ℕ} (r : Bank ws ns u ix) {z : ℕ} {us : List ℕ} {n : ℕ} (h : NeededRows (store_of ws ns u) ix u z us n) where
  abbrev x : Store
  x = store_of ws ns u

  -- THE START: position 0 holds the record
  pub column_start : (row : ℕ) → filled_note z us 0 ≡ row → row < u → Column (store_of ws ns u) row z us 1
  unfolding filled_row
  column_start row e l = record { right = λ q a. let s : q ≡ 0 = omega arith in subst (λ (k : ℕ). RightEntry x (row_note us k) row (filled_note z us k)) (sym s) first }
    where
      first : RightEntry (store_of ws ns u) (row_note us 0) row (filled_note z us 0)
      first =
          record {
            is = e ∙ sym (ap (λ (gs : List Frame). filled_row x gs row) (ap (frames_of x) h.first ∙ frames_none x r.good));
            within = omega (arith, e, used_of ws ns u);
          }

  -- A ROW from its hole child
  module _ {row : ℕ} (q : ℕ) (some : 0 < q) (low : q ≤ n) where
    step_right : (inner v : ℕ) → RightEntry (store_of ws ns u) (hole_kid (store_of ws ns u) ix (row_note us q)) row inner →
        v ≡ next_row (store_of ws ns u) (frame_at (store_of ws ns u) (row_note us q) (get_or ix (hole_of (row_note us q)) 0 - 1)) inner → v < u → RightEntry (store_of ws ns u) (row_note us q) row v
    step_right inner v w e b =
        let i = row_note us q in
        record {
          is = e ∙ ap (next_row x (frame_at x i (get_or ix (hole_of i) 0 - 1))) w.is ∙ sym (filled_step r i (h.within q low) (h.marked q some low) row);
          within = omega (arith, used_of ws ns u);
        }

  module _ {row p : ℕ} (f : Column (store_of ws ns u) row z us p) (some : 0 < p) (low : p ≤ n) where
    kid_right : RightEntry (store_of ws ns u) (hole_kid (store_of ws ns u) ix (row_note us p)) row (filled_note z us (below_note z us p))
    kid_right = subst (λ (i : ℕ). RightEntry x i row (filled_note z us (below_note z us p))) (h.kid p some low) (f.right (below_note z us p) (h.early p some low))

    module _ (v : ℕ) (is : v ≡ next_row (store_of ws ns u) (frame_at (store_of ws ns u) (row_note us p) (get_or ix (hole_of (row_note us p)) 0 - 1)) (filled_note z us (below_note z us p))) (b : v < u)
        (fits : u ≤ z) (long : 4 * z ≤ length us) where
      entry_right : RightEntry (store_of ws ns u) (row_note us p) row v
      entry_right = step_right p some low (filled_note z us (below_note z us p)) v kid_right is b

      -- THE NEXT ROW, stored
      pub column_more : Column (store_of ws ns u) row z (set us (3 * z + p) v) (p + 1)
      column_more =
          record {
            right = λ q a. by_equal q p (λ s. subst (λ (k : ℕ). RightEntry x (row_note vs k) row (filled_note z vs k)) (sym s) new) (λ s. old q (omega arith));
          }
        where
          vs : List ℕ
          vs = set us (3 * z + p) v

          row_same : (q : ℕ) → q ≤ p → row_note (set us (3 * z + p) v) q ≡ row_note us q
          row_same q l = let g = h.few in get_or-set_other us (3 * z + p) q v 0 (λ e. omega arith)

          new : RightEntry (store_of ws ns u) (row_note (set us (3 * z + p) v) p) row (filled_note z (set us (3 * z + p) v) p)
          new =
              let g = h.few in
              let e = get_or-set_same us (3 * z + p) v 0 (omega arith) in
              subst (RightEntry x (row_note vs p) row) (sym e) (subst (λ (i : ℕ). RightEntry x i row v) (sym (row_same p (omega arith))) entry_right)

          old : (q : ℕ) → q < p → RightEntry (store_of ws ns u) (row_note (set us (3 * z + p) v) q) row (filled_note z (set us (3 * z + p) v) q)
          old q l =
              let e = get_or-set_other us (3 * z + p) (3 * z + q) v 0 (λ t. omega arith) in
              subst (RightEntry x (row_note vs q) row) (sym e) (subst (λ (i : ℕ). RightEntry x i row (filled_note z us q)) (sym (row_same q (omega arith))) (f.right q l))

      -- NOT STORED: nor is what any row of its run fills to
      module _ (gone : v ≡ 0) (runs : Runs z us 1 n) where
        run_right : (d : ℕ) → p + d < end_note z us p → RightEntry (store_of ws ns u) (row_note us (p + d)) row 0
        run_right zero l = let e : p ≡ p + 0 = omega arith in subst (λ (k : ℕ). RightEntry x (row_note us k) row 0) e (subst (RightEntry x (row_note us p) row) gone entry_right)
        run_right (suc d) l =
            let q = p + suc d in
            let k = runs.last p some low in
            let w = run_right d (omega arith) in
            let s = runs.spine p q some low (omega arith) l in
            let e : p + d ≡ below_note z us q = omega arith in
            let i = row_note us q in
            let y = ap (row_note us) e ∙ h.kid q (omega arith) (omega arith) in
            step_right q (omega arith) (omega arith) 0 0 (subst (λ (j : ℕ). RightEntry x j row 0) y w)
            (sym (next_none r i (h.within q (omega arith)) (h.marked q (omega arith) (omega arith)) 0 refl)) (omega (arith, r.finding.some))

        pub column_run : {vs : List ℕ} → Cleared z us p (end_note z us p) vs → Column (store_of ws ns u) row z vs (end_note z us p)
        column_run {vs} g = record { right = λ q a. at q a (ltb q p) refl }
          where
            row_same : (q : ℕ) → q < end_note z us p → row_note vs q ≡ row_note us q
            row_same q a = let k = runs.last p some low in let m = h.few in g.before q (omega arith)

            right : (q entry : ℕ) → q < end_note z us p → filled_note z vs q ≡ entry → RightEntry (store_of ws ns u) (row_note us q) row entry → RightEntry (store_of ws ns u) (row_note vs q) row (filled_note z vs q)
            right q entry a e w = subst (RightEntry x (row_note vs q) row) (sym e) (subst (λ (i : ℕ). RightEntry x i row entry) (sym (row_same q a)) w)

            at : (q : ℕ) → q < end_note z us p → (b : Bool) → ltb q p ≡ b → RightEntry (store_of ws ns u) (row_note vs q) row (filled_note z vs q)
            at q a true t = let l = ltb-true q p t in right q (filled_note z us q) a (g.before (3 * z + q) (omega arith)) (f.right q l)
            at q a false t =
                let l = ltb-false q p t in
                let e : p + (q - p) ≡ q = omega arith in
                right q 0 a (g.clear q (omega arith) a) (subst (λ (k : ℕ). RightEntry x (row_note us k) row 0) e (run_right (q - p) (omega arith)))

-- KEPT: a number written to the last column, or a run cleared
pub same_set : (z : ℕ) (us : List ℕ) (p v : ℕ) → SameNotes 3 z us (set us (3 * z + p) v)
same_set z us p v = record { size = length-set us (3 * z + p) v; same = λ i l. get_or-set_other us (3 * z + p) i v 0 (λ e. omega arith) }

pub same_first : (z : ℕ) (us : List ℕ) (v : ℕ) → SameNotes 3 z us (set us (3 * z) v)
same_first z us v = record { size = length-set us (3 * z) v; same = λ i l. get_or-set_other us (3 * z) i v 0 (λ e. omega arith) }

pub first_filled : (z : ℕ) (us : List ℕ) (v : ℕ) → 3 * z < length us → filled_note z (set us (3 * z) v) 0 ≡ v
first_filled z us v l = let e : 3 * z + 0 ≡ 3 * z = omega arith in ap (λ (k : ℕ). get_or (set us (3 * z) v) k 0) e ∙ get_or-set_same us (3 * z) v 0 l

pub same_cleared : {z : ℕ} {us vs : List ℕ} {from end : ℕ} → Cleared z us from end vs → length vs ≡ length us → SameNotes 3 z us vs
same_cleared g e = record { size = e; same = λ i l. g.before i (omega arith) }

-- THE ANSWERS at the members of C, from a column
module _ (ws ns : List ℕ) (u : ℕ) {row z : ℕ} {us : List ℕ} {n : ℕ} {c tops : List ℕ} (f : Column (store_of ws ns u) row z us (n + 1)) (t : Tops c us n tops) (enough : length c ≤ length tops) where
  top_right : (j : ℕ) → j < length c → RightEntry (store_of ws ns u) (get_or c j 0) row (filled_note z us (get_or tops j 0))
  top_right j l =
      let o = t.within j l in
      subst (λ (i : ℕ). RightEntry (store_of ws ns u) i row (filled_note z us (get_or tops j 0))) (t.right j l) (f.right (get_or tops j 0) (omega arith))

  top_answer : (j : ℕ) → j < length c → answer_in ws (filled_note z us (get_or tops j 0)) ≡ answer_of (store_of ws ns u) (answers_in u ws) (get_or c j 0) row
  top_answer j l =
      let w = top_right j l in
      sym (answer_in_law u (filled_note z us (get_or tops j 0)) ws (omega (arith, w.within, used_of ws ns u))) ∙ ap (answer_at (answers_in u ws)) w.is

  pub tops_used : (j : ℕ) → j < length (take (length c) tops) → filled_note z us (get_or (take (length c) tops) j 0) < u
  tops_used j l =
      let a = length-take-le (length c) tops enough in
      let e = get_or-take (length c) tops j 0 (omega arith) in
      let b = (top_right j (omega arith)).within in
      subst (λ (k : ℕ). filled_note z us k < u) (sym e) (omega (arith, used_of ws ns u))

  pub tops_low : n < z → (j : ℕ) → j < length (take (length c) tops) → get_or (take (length c) tops) j 0 < z
  tops_low g j l =
      let a = length-take-le (length c) tops enough in
      omega (arith, get_or-take (length c) tops j 0 (omega arith), t.within j (omega arith))

  pub column_answers_law : column_answers ws z us (take (length c) tops) ≡ answers_of (store_of ws ns u) (answers_in u ws) (take (length c) c) row
  column_answers_law =
      let x = store_of ws ns u in
      let a = length-take-le (length c) tops enough in
      let b = answers_length x (answers_in u ws) c (length c) row (omega arith) in
      let d = length-map (take (length c) tops) (λ (p : ℕ). answer_in ws (filled_note z us p)) in
      ext_get_or 0 (column_answers ws z us (take (length c) tops)) (answers_of x (answers_in u ws) (take (length c) c) row) (d ∙ a ∙ sym b)
      (λ j l. let m : j < length c = omega arith in
      map_at (λ (p : ℕ). answer_in ws (filled_note z us p)) (take (length c) tops) j (omega arith) ∙ ap (λ (p : ℕ). answer_in ws (filled_note z us p)) (get_or-take (length c) tops j 0 m) ∙
      top_answer j m ∙ sym (answers_at_law x (answers_in u ws) c (length c) row (omega arith) j m))

-- One transition's row of answers: its column is filled over the needed rows and read at the positions of C's members.
-- What the column is filled with stays for the next transition.
use mathlib.Core.Path.{◌≡◌, sym, ap, subst, ◌∙◌}
use mathlib.Core.List.{List}
use Prim.Native.Nat.{ℕ, ◌+◌, ◌/◌, ◌≤◌}
use native.Mathlib.Omega.{arith}
use lib.ListN.{length, take}
use lib.Seq.{sets}
use Rattle.model.specs.Table.{answers_of}
use Rattle.model.specs.Entry.{store_of, answers_in}
use Rattle.bank.specs.Notes.{room_in}
use Rattle.table_columns.specs.Notes.{SameNotes, NeededFor, Column, AllBelow, UsedAt, column_answers}
use Rattle.table_columns.proofs.Laws.Needed.{needed_for_kept}
use Rattle.table_columns.proofs.Laws.Columns.{tops_low, tops_used, column_answers_law}

module _ (ws ns : List ℕ) (u : ℕ) {ix c us vs : List ℕ} {n : ℕ} {tops : List ℕ} {row : ℕ} (h : NeededFor (store_of ws ns u) ix u c us n tops) (s : SameNotes 3 (room_in us) us vs)
    (f : Column (store_of ws ns u) row (room_in us) vs (n + 1)) (enough : length c ≤ length tops) where
  pub next : NeededFor (store_of ws ns u) ix u c vs n tops
  next = needed_for_kept s h

  column : Column (store_of ws ns u) row (room_in vs) vs (n + 1)
  column =
      let e : room_in vs ≡ room_in us = ap (λ (m : ℕ). m / 4) s.size in
      subst (λ (z : ℕ). Column (store_of ws ns u) row z vs (n + 1)) (sym e) f

  pub tops_below : AllBelow (room_in vs) (take (length c) tops)
  tops_below = tops_low ws ns u column next.tops enough (omega (arith, next.needed.few, next.fits))

  pub tops_fill : UsedAt u (room_in vs) vs (take (length c) tops)
  tops_fill = tops_used ws ns u column next.tops enough

  pub row_answers : column_answers ws (room_in vs) vs (take (length c) tops) ≡ answers_of (store_of ws ns u) (answers_in u ws) (take (length c) c) row
  row_answers = column_answers_law ws ns u column next.tops enough

  -- read into the table
  pub row_read : (old : List ℕ) {new : List ℕ} (at : ℕ) → new ≡ sets old at (column_answers ws (room_in vs) vs (take (length c) tops)) →
      new ≡ sets old at (answers_of (store_of ws ns u) (answers_in u ws) (take (length c) c) row)
  row_read old at e = e ∙ ap (sets old at) row_answers

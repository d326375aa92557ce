-- `needed::needed_rows` meets its contract: where no row is marked, the members of C and all rows below them are; the marked rows get positions,
-- the members of C theirs, and then the runs are found.
-- By the laws of Marks and Needed; what is written later leaves the columns that were written before.
use Rattle.std.proofs.Common.{◌≡◌, sym, ap, subst, ◌∙◌, ℕ, List, ◌/◌, length, arith}
use Rattle.model.specs.Entry.{store_of}
use Rattle.bank.specs.Notes.{room_in}
use Rattle.table_columns.specs.Notes.{Cleared, MembersMarked, HoledMarks, KidsMarked, NeedMarks, NeededRows, AllSeated, Runs, SameNotes, TopsRead, hole_first}
use Rattle.table_columns.proofs.Laws.Marks.{members_used, members_holed, holed_none, kids_none, need_marks}
use Rattle.table_columns.proofs.Laws.Needed.{needed_kept, tops_kept, tops_of}
use Rattle.table_columns.proofs.needed.needed_rows.Goals as goal

pub mark_members-requires : goal.mark_members-requires
mark_members-requires c =
    let b = c.args.bank.now in
    let x = store_of b.words b.counts b.used in
    let r = c.used.ensures.ready in
    let us = c.clear_run.new.notes in
    let z = room_in c.args.notes.now in
    let e : room_in us ≡ z = ap (λ (m : ℕ). m / 4) c.clear_run.auto.notes in
    let clear = subst (λ (u : ℕ). Cleared z c.args.notes.now 0 u us) (c.from.ensures ∙ c.used.ensures.value) c.clear_run.ensures in (
      subst (λ (y : ℕ). HoledMarks b.index y b.used us) (sym e) (holed_none b.index clear),
      subst (λ (y : ℕ). KidsMarked x b.index y b.used 1 us) (sym e) (kids_none x b.index clear),
      members_used r c.args.c.now c.requires.0,
      members_holed r c.args.c.now c.requires.0,
      omega (arith, e, c.requires.1),
    )

pub find_tops-requires : goal.find_tops-requires
find_tops-requires c =
    let e = c.list_marked-n.auto.notes ∙ c.put_hole.auto.notes ∙ c.mark_members.auto.notes ∙ c.clear_run.auto.notes in
    ((λ j l. omega (arith, members_used c.used.ensures.ready c.args.c.now c.requires.0 j l, ap (λ (m : ℕ). m / 4) e, c.requires.1)), c.requires.2)

pub returns : goal.returns
returns c =
    let b = c.args.bank.now in
    let cs = c.args.c.now in
    let x = store_of b.words b.counts b.used in
    let r = c.used.ensures.ready in
    let z = room_in c.args.notes.now in
    let marks = c.mark_members.new.notes in
    let first = c.put_hole.new.notes in
    let list = c.list_marked-n.new.notes in
    let n = c.list_marked-n.result in
    let us = c.find_runs.new.notes in
    let ps = c.find_tops.new.tops in
    let e-clear : room_in c.clear_run.new.notes ≡ z = ap (λ (m : ℕ). m / 4) c.clear_run.auto.notes in
    let e-marks : room_in marks ≡ z = ap (λ (m : ℕ). m / 4) c.mark_members.auto.notes ∙ e-clear in
    let e-first : room_in first ≡ z = ap (λ (m : ℕ). m / 4) c.put_hole.auto.notes ∙ e-marks in
    let e : room_in list ≡ z = ap (λ (m : ℕ). m / 4) c.list_marked-n.auto.notes ∙ e-first in
    let h = c.mark_members.ensures in
    let done = need_marks z marks (omega (arith, c.requires.1, r.finding.some)) (omega (arith, e-marks))
    (subst (λ (y : ℕ). HoledMarks b.index y b.used marks) e-clear h.0)
    (subst (λ (y : ℕ). KidsMarked x b.index y b.used 1 marks) e-clear h.1)
    (subst (λ (y : ℕ). MembersMarked y cs (length cs) marks) e-clear h.2) in
    let need = subst (λ (vs : List ℕ). NeedMarks x b.index z b.used cs vs) (sym (c.put_hole.ensures ∙ ap (λ (y : ℕ). hole_first y marks) e-marks)) done in
    let needed = subst (λ (y : ℕ). NeededRows x b.index b.used y list n) e-first c.list_marked-n.ensures.0 in
    let seated = subst (λ (y : ℕ). AllSeated y b.used first list n) e-first c.list_marked-n.ensures.1 in
    let read = subst (λ (y : ℕ). TopsRead y cs list ps) e c.find_tops.ensures in
    let same = subst (λ (y : ℕ). SameNotes 2 y list us) e c.find_runs.ensures.1 in
    let tops = tops_of z b.used cs first list n ps seated read (λ j l. (members_used r cs c.requires.0 j l, need.members j l)) in (
      needed_kept same.same c.requires.1 needed,
      subst (λ (y : ℕ). Runs y us 1 n) e c.find_runs.ensures.0,
      tops_kept same.same (omega (arith, needed.few, c.requires.1)) tops,
    )

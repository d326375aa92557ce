-- `needed::mark_members` meets its contract, by the laws of Marks: what is marked stays marked.
use Rattle.std.proofs.Common.{◌≡◌, sym, ap, subst, ◌∙◌, ℕ, ◌+◌, ◌*◌, ◌/◌, ◌<◌, get_or, arith}
use Rattle.model.specs.Entry.{store_of}
use Rattle.model.proofs.Laws.Tests.{by_equal}
use Rattle.bank.specs.Notes.{room_in}
use Rattle.table_columns.specs.Notes.{mark_note, HoledMarks, KidsMarked, StayMarked}
use Rattle.table_columns.proofs.needed.mark_members.Goals as goal

pub mark_from-requires : goal.mark_from-requires
mark_from-requires c =
    let a = c.args in
    let l = c.loop-row in
    let e : room_in l.notes ≡ room_in a.notes.now = ap (λ (m : ℕ). m / 4) l.auto.notes in (
      subst (λ (z : ℕ). HoledMarks a.bank.now.index z a.bank.now.used l.notes) (sym e) l.invariant.holed,
      subst (λ (z : ℕ). KidsMarked (store_of a.bank.now.words a.bank.now.counts a.bank.now.used) a.bank.now.index z a.bank.now.used 1 l.notes) (sym e) l.invariant.kids,
      c.requires.2 l.row-index c.loop-row-test.true,
      c.requires.3 l.row-index c.loop-row-test.true,
      omega (arith, e, c.requires.4),
    )

pub loop-row-preserved : goal.loop-row-preserved
loop-row-preserved c =
    let a = c.args in
    let l = c.loop-row in
    let j = l.row-index in
    let cs = a.c.now in
    let z = room_in a.notes.now in
    let m = c.mark_from in
    let us = m.new.notes in
    let e : room_in l.notes ≡ z = ap (λ (k : ℕ). k / 4) l.auto.notes in
    let stay = subst (λ (y : ℕ). StayMarked y l.notes us) e m.ensures.2 in
    let own = subst (λ (y : ℕ). 0 < get_or cs j 0 → mark_note y us (get_or cs j 0) ≡ 0 → ⊥) e m.ensures.3 in
    record {
      holed = subst (λ (y : ℕ). HoledMarks a.bank.now.index y a.bank.now.used us) e m.ensures.0;
      kids = subst (λ (y : ℕ). KidsMarked (store_of a.bank.now.words a.bank.now.counts a.bank.now.used) a.bank.now.index y a.bank.now.used 1 us) e m.ensures.1;
      members = λ k b n. by_equal k j
          (λ t o. own (by_equal (get_or cs j 0) 0 (λ q. absurd (n (ap (λ (i : ℕ). get_or cs i 0) t ∙ q))) (λ q. omega arith)) (ap (λ (i : ℕ). get_or us (3 * z + get_or cs i 0) 0) (sym t) ∙ o))
          (λ t. stay (get_or cs k 0) (l.invariant.members k (omega arith) n));
    }

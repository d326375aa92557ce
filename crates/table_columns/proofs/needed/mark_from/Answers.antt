-- `needed::mark_from` meets its contract, by the laws of Marks: a row that is marked hands this on to its hole child; a row that was marked, and row 0, end it.
use Rattle.std.proofs.Common.{◌≡◌, refl, sym, ap, subst, ◌∙◌, ℕ, ◌+◌, ◌*◌, ◌<◌, length, get_or, arith}
use Rattle.std.proofs.Math.ListN.{set}
use Rattle.model.specs.Entry.{store_of}
use Rattle.model.proofs.Laws.Tests.{by_equal}
use Rattle.bank.specs.Index.{hole_of}
use Rattle.bank.specs.Notes.{room_in}
use Rattle.table_columns.specs.Columns.{hole_kid}
use Rattle.table_columns.proofs.Laws.Marks.{mark_own, mark_stays, OpenMarks, open_start, open_none, open_marked, open_more, holed_more, kid_holed}
use Rattle.table_columns.proofs.needed.mark_from.Goals as goal

pub loop-at-init : goal.loop-at-init
loop-at-init c =
    record {
      within = c.requires.2;
      holed_at = c.requires.3;
      holed = c.requires.0;
      way = open_start c.requires.1 c.args.row.0;
      stay = λ i m. m;
      own = λ n. absurd (n refl);
    }

pub returns-then-notes-last-ne0 : goal.returns-then-notes-last-ne0
returns-then-notes-last-ne0 c =
    let l = c.loop-at in
    let own = c.if-notes-last-ne0.true in (
      l.invariant.holed,
      open_marked l.invariant.way own,
      l.invariant.stay,
      λ some. by_equal l.at c.args.row.0
          (λ e o. own (ap (λ (i : ℕ). get_or l.notes (3 * room_in c.args.notes.now + i) 0) e ∙ o))
          (λ e. l.invariant.own e),
    )

pub loop-at-preserved : goal.loop-at-preserved
loop-at-preserved c =
    let a = c.args in
    let l = c.loop-at in
    let k = c.hole_kid-kid in
    let z = room_in a.notes.now in
    let ix = a.bank.now.index in
    let x = store_of a.bank.now.words a.bank.now.counts a.bank.now.used in
    let kid = hole_kid x ix l.at in
    let back : kid ≡ k.result.0 = sym {b = kid} k.ensures.kid.0 in
    let some : 0 < l.at = by_equal l.at 0 (λ e. absurd (c.loop-at-test.true e)) (λ e. omega arith) in
    let holed = l.invariant.holed_at some in
    let fits : 3 * z + l.at < length l.notes = omega (arith, l.invariant.within, l.auto.notes, c.requires.4) in
    record {
      within = omega (arith, k.ensures.kid.1, l.invariant.within);
      holed_at = λ b. subst (λ (i : ℕ). get_or ix (hole_of i) 0 ≡ 0 → ⊥) {x = kid} back (kid_holed k.ensures.ready l.at l.invariant.within holed (omega (arith, k.ensures.kid.0)));
      holed = holed_more z l.at fits l.invariant.holed holed;
      way = subst (λ (i : ℕ). OpenMarks x ix z a.bank.now.used i (set l.notes (3 * z + l.at) 1)) {x = kid} back (open_more z l.at fits l.invariant.way);
      stay = λ i m. mark_stays z l.notes l.at fits i (l.invariant.stay i m);
      own = λ n. by_equal a.row.0 l.at (λ e o. omega (arith, mark_own z l.notes l.at fits a.row.0 e))
          (λ e. mark_stays z l.notes l.at fits a.row.0 (l.invariant.own (λ t. e (sym t))));
    }

pub returns : goal.returns
returns c =
    let l = c.loop-at in
    let e = c.loop-at-test.false in
    (l.invariant.holed, open_none l.invariant.way e, l.invariant.stay, λ some. l.invariant.own (λ t. omega (arith, e, t, some)))

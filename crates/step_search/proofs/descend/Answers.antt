-- `step_search::descend` meets its contract: row 0 is its own spot and has no representative; any other row's entries come from those of earlier rows.
use Rattle.std.proofs.Common.{arith, sym, ◌∙◌}
use Rattle.bank.specs.Notes.{down_in, spots_in, exchanged_in}
use Rattle.bank.proofs.Laws.Notes.{column_long}
use Rattle.bank.proofs.Laws.Words.{used_of}
use Rattle.bank.proofs.Laws.Children.{bank_stored, row_used}
use Rattle.step_search.specs.Spots.{code_of}
use Rattle.step_search.proofs.Laws.Descent.{descended_more, descended_hole}
use Rattle.step_search.proofs.descend.Goals as goal

pub loop-i-init : goal.loop-i-init
loop-i-init c =
    let ns = c.args.notes.now in
    let u = used_of c.args.bank.now.words c.args.bank.now.counts c.args.bank.now.used in
    let e = c.note_turn.ensures in (
      e.0,
      rw (e.1, e.2, e.3)
          (descended_hole c.used-used.ensures.ready.good c.requires.1 (down_in ns) (spots_in ns) (exchanged_in ns)
          (omega (arith, u, c.requires.0, column_long ns 1 (omega arith)))
          (omega (arith, u, c.requires.0, column_long ns 2 (omega arith)))
          (omega (arith, u, c.requires.0, column_long ns 3 (omega arith)))),
    )

pub loop-i-preserved : goal.loop-i-preserved
loop-i-preserved c =
    let v = c.loop-i.invariant in
    let r = c.turn_of-turn.result in
    let t = c.turn_of-turn.ensures in
    let e = c.note_turn-in-loop-i.ensures in
    let own = sym (c.column-reps.ensures ∙ v.0) in (
      e.0 ∙ v.0,
      rw (e.1, e.2, e.3)
          (descended_more (code_of r.place) r.spot.0 r.row.0 (row_used (bank_stored c.used-used.ensures.ready) c.loop-i.i (omega (arith, c.loop-i-test.true, c.used-used.ensures.value))) v.1
          (rw own t.0) (record { spot_is = rw own t.1; row_is = rw own t.2 })),
    )

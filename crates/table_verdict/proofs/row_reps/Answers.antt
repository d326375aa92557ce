-- `table_verdict::row_reps` meets its contract: row 0 has no state; each later row's comes from those of earlier rows.
use Rattle.std.proofs.Common.{arith, ap, ◌∙◌, ◌≤◌, ◌<◌, ℕ, List}
use Rattle.model.specs.Store.{used}
use Rattle.model.specs.Entry.{store_of}
use Rattle.bank.specs.Notes.{room_in}
use Rattle.bank.proofs.Laws.Words.{used_of}
use Rattle.table_verdict.specs.Rules.{rep_row}
use Rattle.table_verdict.proofs.Laws.Rows as R
use Rattle.table_verdict.proofs.row_reps.Goals as goal

pub loop-i-init : goal.loop-i-init
loop-i-init c =
    let u = used_of c.args.bank.now.words c.args.bank.now.counts c.args.bank.now.used in
    R.noted_start c.used.ensures.ready.good c.args.notes.now (omega (arith, u, c.requires.0))

pub loop-i-preserved : goal.loop-i-preserved
loop-i-preserved c =
    let x = store_of c.args.bank.now.words c.args.bank.now.counts c.args.bank.now.used in
    let u = used_of c.args.bank.now.words c.args.bank.now.counts c.args.bank.now.used in
    let room : used x ≤ room_in c.args.notes.now = omega (arith, u, c.requires.0) in
    let b : c.loop-i.i < used x = omega (arith, u, c.requires.1) in
    R.noted_more c.args.notes.now c.loop-i.invariant room c.used.ensures.ready.good b c.row_rep-rep.result.0
    (c.row_rep-rep.ensures ∙ ap (λ (reps : List ℕ). rep_row x reps c.loop-i.i) c.column-reps.ensures)

pub returns : goal.returns
returns c = (R.noted_reps c.args.notes.now c.loop-i.invariant, λ i b. R.noted_right c.args.notes.now c.loop-i.invariant i (omega arith))

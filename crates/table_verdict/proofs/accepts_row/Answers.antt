-- `table_verdict::accepts_row` meets its contract. The row's representative is read off the second column; without one the verdict is no.
use Rattle.std.proofs.Common.{arith, ◌∙◌}
use Rattle.table_verdict.proofs.Laws.Rows.{led_at}
use Rattle.table_verdict.proofs.Laws.Accepts as verdict
use Rattle.table_verdict.proofs.accepts_row.Goals as goal

pub is_final-requires : goal.is_final-requires
is_final-requires c =
    let i = c.args.row.0 in
    verdict.row_low c.args.bank.now.counts c.used-rep.ensures.ready.finding c.requires.0 i
    (led_at c.row_reps.new.notes i (omega (arith, c.row_reps.auto.notes, c.requires.1, c.requires.2)) ∙ c.row_reps.ensures.1 i (omega arith))

pub returns-then-rep-ne0-clause-result_value : goal.returns-then-rep-ne0-clause-result_value
returns-then-rep-ne0-clause-result_value c =
    let i = c.args.row.0 in
    verdict.row_says_law c.args.bank.now.counts c.used-rep.ensures.ready.finding c.requires.0 i
    (led_at c.row_reps.new.notes i (omega (arith, c.row_reps.auto.notes, c.requires.1, c.requires.2)) ∙ c.row_reps.ensures.1 i (omega arith))
    c.if-rep-ne0.true c.is_final.ensures

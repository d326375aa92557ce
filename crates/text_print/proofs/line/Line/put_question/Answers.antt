-- `text_print::line::Line::put_question` meets its contract: a record that is not too large is printed, and of another the row is told.
-- A record of at most 1,024 symbols takes at most 3,070 bytes.
use Rattle.std.proofs.Common.{arith}
use Rattle.text_print.proofs.Laws.Runs.{wrote_then, wrote_as}
use Rattle.text_print.proofs.Laws.Seen.{question_short, question_row}
use Rattle.text_print.proofs.line.Line.put_question.Goals as goal

pub print_record-self-requires : goal.print_record-self-requires
print_record-self-requires c =
    let s = c.args in
    let h = question_short c.requires.0 s.row.0 c.requires.2 s.letters.now c.size_of.result c.size_of.ensures c.if-size_of-le-MOST_LISTED.true in
    (c.requires.0, c.requires.2, omega (arith, h, c.requires.3))

pub returns-then-size_of-le-MOST_LISTED-clause-few : goal.returns-then-size_of-le-MOST_LISTED-clause-few
returns-then-size_of-le-MOST_LISTED-clause-few c =
    let s = c.args in
    let h = question_short c.requires.0 s.row.0 c.requires.2 s.letters.now c.size_of.result c.size_of.ensures c.if-size_of-le-MOST_LISTED.true in
    omega (arith, h, c.print_record-self.ensures.value)

pub returns-else-size_of-le-MOST_LISTED-clause-written : goal.returns-else-size_of-le-MOST_LISTED-clause-written
returns-else-size_of-le-MOST_LISTED-clause-written c =
    let s = c.args in
    wrote_as (question_row c.requires.0 s.row.0 c.requires.2 s.letters.now c.size_of.result c.size_of.ensures c.if-size_of-le-MOST_LISTED.false)
    (wrote_then c.put.ensures c.put_number.ensures.written)

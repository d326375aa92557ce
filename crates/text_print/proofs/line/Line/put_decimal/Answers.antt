-- `text_print::line::Line::put_decimal` meets its contract: the digits are one run.
use Rattle.text_print.proofs.Laws.Runs.{wrote_then}
use Rattle.text_print.proofs.line.Line.put_decimal.Goals as goal

pub returns-clause-written : goal.returns-clause-written
returns-clause-written c =
    wrote_then (wrote_then (wrote_then (wrote_then c.put_digit.ensures c.put_digit-2.ensures) c.put_digit-3.ensures) c.put_digit-4.ensures) c.put.ensures

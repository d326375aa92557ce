-- `text_print::line::Line::put_number` meets its contract: the space and the number are one run.
use Rattle.text_print.proofs.Laws.Runs.{wrote_then}
use Rattle.text_print.proofs.line.Line.put_number.Goals as goal

pub returns-clause-written : goal.returns-clause-written
returns-clause-written c = wrote_then c.put.ensures c.put_decimal.ensures.written

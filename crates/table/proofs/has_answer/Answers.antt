-- `table::has_answer` meets its contract: `contains` is model's test.
use Rattle.std.proofs.Common.{◌∙◌}
use Rattle.model.proofs.Laws.Methods.{any_among}
use Rattle.table.proofs.has_answer.Goals as goal

pub returns : goal.returns
returns c = rw (← c.answers.ensures) (c.contains.ensures.value ∙ any_among c.args.answer c.answers.result.now)

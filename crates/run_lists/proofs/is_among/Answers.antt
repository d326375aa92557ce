-- `run_lists::is_among` meets its contract: `contains` is model's test.
use Rattle.std.proofs.Common.{◌∙◌}
use Rattle.model.proofs.Laws.Methods.{any_among}
use Rattle.run_lists.proofs.is_among.Goals as goal

pub returns : goal.returns
returns c = c.contains.ensures.value ∙ any_among c.args.row.0 c.args.xs.now

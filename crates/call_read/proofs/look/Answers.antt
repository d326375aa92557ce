-- Nothing refuses: what looking tells of the lists.
use Rattle.std.proofs.Common.{◌∙◌}
use Rattle.call_read.proofs.look.Goals as goal

pub returns-in-Ok : goal.returns-in-Ok
returns-in-Ok c = c.told.ensures c.args.words.now ∙ c.in-Ok.ensures

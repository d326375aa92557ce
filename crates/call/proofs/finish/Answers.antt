-- What looking tells reads no word.
use Rattle.std.proofs.Common.{[], ap, sym, ◌∙◌}
use Rattle.call.specs.Calls.{done_seen}
use Rattle.call.proofs.finish.Goals as goal

pub returns-in-Ok-clause-seen : goal.returns-in-Ok-clause-seen
returns-in-Ok-clause-seen c = c.told.ensures [] ∙ sym (ap done_seen c.in-Ok.is)

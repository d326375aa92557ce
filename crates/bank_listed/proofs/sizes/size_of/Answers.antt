-- `sizes::size_of`: at the start the size of the hole is known.
use Rattle.std.proofs.Common.{replicate, refl}
use Rattle.model.specs.Limits.{most_rows}
use Rattle.bank_listed.proofs.Laws.Passed.{sizing_start}
use Rattle.bank_listed.proofs.sizes.size_of.Goals as goal

pub loop-i-init : goal.loop-i-init
loop-i-init c = sizing_start c.requires.0 c.requires.1 (replicate most_rows 0) refl

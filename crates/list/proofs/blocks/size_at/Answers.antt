-- `list::blocks::size_at` meets its contract: the sum of four bytes, each times its weight.
use Rattle.std.proofs.Common.{arith}
use Rattle.model.proofs.Laws.Heads.{size_bytes}
use Rattle.list.proofs.blocks.size_at.Goals as goal

pub returns-clause-value : goal.returns-clause-value
returns-clause-value c = omega (arith, size_bytes c.args.bytes.now)

-- `text_reply::fresh` meets its contract: no letters, and lists in which nothing is.
use mathlib.Core.Path.{ap}
use borrow.Author.Rules.{rules}
use lib.ListN.{replicate}
use Rattle.model.specs.Limits.{most_symbols}
use Rattle.model.specs.declared.Lists.{Lists}
use Rattle.text.specs.Script.{script}
use Rattle.text_reply.proofs.fresh.Statement.{statement}
use Rattle.text_reply.proofs.fresh.Tie as tie

zeros-requires : tie.Need-zeros-requires
zeros-requires c κs = search rules

returns : tie.Need-returns
returns c = ap (λ (l : Lists). script 0 (replicate most_symbols 0) l) c.zeros.ensures

pub fresh_spec : {M : Type 1} → statement M
fresh_spec = tie.close (tie.spec zeros-requires returns)

-- `kuldveth::kuldveth_version` meets its contract: the constant that it returns is the number of the definition.
use mathlib.Core.Path.{refl}
use Rattle.kuldveth.proofs.kuldveth_version.Statement.{statement}
use Rattle.kuldveth.proofs.kuldveth_version.Tie as tie

returns : tie.Need-returns
returns c = refl

pub kuldveth_version_spec : {M : Type 1} → statement M
kuldveth_version_spec = tie.close (tie.spec returns)

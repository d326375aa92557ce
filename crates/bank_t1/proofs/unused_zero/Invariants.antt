-- `bank_t1::unused_zero` meets its contract: the places from `k` on decide what all past the count decide.
use Rattle.std.proofs.Common.{◌≡◌, drop}
use Rattle.model.specs.Base.{all}
use Rattle.bank.specs.Rows.{places_in}
use Rattle.bank_t1.specs.Pass.{unused_zero}
use Rattle.bank_t1.proofs.Laws.Kids.{is_zero}
use Rattle.bank_t1.proofs.unused_zero.Given as goal

abbrev pub invariant-loop-k : goal.invariant-loop-k
invariant-loop-k l = all is_zero (drop l.k (places_in l.words l.row.0)) ≡ unused_zero l.words l.row.0 l.count

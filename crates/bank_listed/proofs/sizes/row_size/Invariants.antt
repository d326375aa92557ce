-- The loop of `sizes::row_size`: the children from `k` on, after the size so far, decide what all decide.
use Rattle.model.specs.Entry.{store_of}
use Rattle.bank_listed.proofs.Laws.Summed.{Summed}
use Rattle.bank_listed.proofs.sizes.row_size.Given as goal

abbrev pub invariant-loop-k : goal.invariant-loop-k
invariant-loop-k l = Summed (store_of l.fn.words l.fn.counts l.fn.used) l.fn.row.0 l.k l.size

-- The first k rules are there, one behind the other.
use Rattle.model.specs.Entry.{store_of}
use Rattle.call_emit.specs.Proposal.{Flat}
use Rattle.call_emit.proofs.write_rules.Given as goal

abbrev pub invariant-loop-k : goal.invariant-loop-k
invariant-loop-k l = Flat (store_of l.words l.counts l.used) l.s l.t l.reps l.k l.flat

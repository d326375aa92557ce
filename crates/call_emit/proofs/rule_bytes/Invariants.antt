-- The symbol and the states of the first i children stand in their places.
use Rattle.model.specs.Entry.{store_of}
use Rattle.call_emit.proofs.Laws.Rule.{RuleTo}
use Rattle.call_emit.proofs.rule_bytes.Given as goal

abbrev pub invariant-loop-i : goal.invariant-loop-i
invariant-loop-i l = RuleTo (store_of l.words l.counts l.used) l.s l.row.0 l.bytes l.i

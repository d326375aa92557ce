-- The loop of `sizes::size_of`: the cut sizes of the rows before `i` are known.
use Rattle.bank_listed.specs.Sizes.{Sizing}
use Rattle.bank_listed.proofs.sizes.size_of.Given as goal

abbrev pub invariant-loop-i : goal.invariant-loop-i
invariant-loop-i l = Sizing l.fn.words l.fn.counts l.fn.used l.sizes l.i

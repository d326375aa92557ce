-- `text_lines::open::alphabet_of`: what is left of the line decides, with the pairs so far in the arrays.
use Rattle.std.proofs.Common.{length}
use Rattle.text_lines.proofs.Laws.Opening.{Opening}
use Rattle.text_lines.proofs.open.alphabet_of.Given as goal

abbrev pub invariant-loop-rest : goal.invariant-loop-rest
invariant-loop-rest l = Opening l.line l.fn.letters l.letters l.counts l.size l.rest

abbrev pub decreases-loop-rest : goal.decreases-loop-rest
decreases-loop-rest l = length l.rest

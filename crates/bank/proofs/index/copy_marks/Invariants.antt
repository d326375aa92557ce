-- `bank::index::copy_marks` meets its contract: the marks of the rows passed are copied.
use Rattle.std.proofs.Common.{◌≡◌, ℕ, ◌<◌, get_or}
use Rattle.bank.specs.Index.{hole_of}
use Rattle.bank.proofs.index.copy_marks.Given as goal

abbrev pub invariant-loop-i : goal.invariant-loop-i
invariant-loop-i l = (j : ℕ) → j < l.i → get_or l.down j 0 ≡ get_or l.index (hole_of j) 0

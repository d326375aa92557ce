-- `undo::save` meets its contract: the first i words behind the used rows are saved.
use Rattle.std.proofs.Common.{◌≡◌, ℕ, ◌+◌, ◌<◌, get_or}
use Rattle.bank_fill.proofs.undo.save.Given as goal

abbrev pub invariant-loop-i : goal.invariant-loop-i
invariant-loop-i l = (j : ℕ) → j < l.i → get_or l.saved j 0 ≡ get_or l.words (l.first + j) 0

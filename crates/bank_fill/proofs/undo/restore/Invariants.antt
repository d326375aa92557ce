-- `undo::restore` meets its contract: the words up to the i-th are back.
use Rattle.std.proofs.Common.{◌≡◌, ℕ, ◌<◌, get_or, length}
use Rattle.bank_fill.specs.Saved.{BackTo}
use Rattle.bank_fill.proofs.undo.restore.Given as goal

abbrev pub invariant-loop-i : goal.invariant-loop-i
invariant-loop-i l = BackTo l.initial.words l.used l.i l.saved l.words

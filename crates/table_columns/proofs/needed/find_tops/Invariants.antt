-- The positions of the first j members of C are read.
use Rattle.std.proofs.Common.{◌≡◌, ℕ, ◌<◌, get_or}
use Rattle.bank.specs.Notes.{room_in}
use Rattle.table_columns.specs.Notes.{mark_note}
use Rattle.table_columns.proofs.needed.find_tops.Given as goal

abbrev pub invariant-loop-j : goal.invariant-loop-j
invariant-loop-j l = (i : ℕ) → i < l.j → get_or l.tops i 0 ≡ mark_note (room_in l.notes) l.notes (get_or l.c i 0)

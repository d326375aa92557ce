-- The notes keep the representatives, and the other columns are right for the rows before i.
use Rattle.std.proofs.Common.{◌≡◌}
use Rattle.model.specs.Entry.{store_of}
use Rattle.bank.specs.Notes.{reps_in, down_in, spots_in, exchanged_in}
use Rattle.step_search.specs.Spots.{DescendedBy, not_own}
use Rattle.step_search.proofs.descend.Given as goal

abbrev pub invariant-loop-i : goal.invariant-loop-i
invariant-loop-i l =
    (reps_in l.notes ≡ reps_in l.fn.notes)
    × DescendedBy (not_own (reps_in l.fn.notes)) (reps_in l.fn.notes) (store_of l.bank.words l.bank.counts l.bank.used) (down_in l.notes) (spots_in l.notes) (exchanged_in l.notes) l.i

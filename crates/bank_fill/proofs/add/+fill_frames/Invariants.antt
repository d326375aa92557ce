-- The measure of `add::fill_frames`: the row's number, for a child is an earlier row.
use Rattle.bank_fill.proofs.add.+fill_frames.Given as goal

abbrev pub decreases-fill_frames : goal.decreases-fill_frames
decreases-fill_frames l = l.row.0

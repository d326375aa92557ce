-- `text_read`: what is left of the text falls, and from a list to its child at the same place.
use Rattle.std.proofs.Common.{length, ◌+◌, ◌-◌, ◌*◌}
use Rattle.text_read.proofs.+read_list_read_record.Given as goal

abbrev pub decreases-read_list : goal.decreases-read_list
decreases-read_list l = 2 * (length l.text.now - l.at) + 1

abbrev pub decreases-read_record : goal.decreases-read_record
decreases-read_record l = 2 * (length l.text.now - l.at)

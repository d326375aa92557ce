-- `text_print::print`: the row falls from a record to its children, and the rest of the children from one to the next.
use Rattle.std.proofs.Common.{◌+◌, ◌-◌, ◌*◌}
use Rattle.text_print.proofs.print.+print_list_print_record.Given as goal

abbrev pub decreases-print_list : goal.decreases-print_list
decreases-print_list l = 512 * l.row.0 + (256 - l.place)

abbrev pub decreases-print_record : goal.decreases-print_record
decreases-print_record l = 512 * l.row.0 + 300

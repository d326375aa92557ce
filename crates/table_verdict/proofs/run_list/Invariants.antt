-- What is left of the run, from the representatives on the stack, ends as the whole does.
use Rattle.std.proofs.Common.{◌≡◌}
use Rattle.model.specs.Entry.{store_of}
use Rattle.table_verdict.specs.Rules.{led_list}
use Rattle.table_verdict.proofs.Laws.Run.{Running, left}
use Rattle.table_verdict.proofs.run_list.Given as goal

abbrev pub invariant-loop-at : goal.invariant-loop-at
invariant-loop-at l =
    Running l.bank.counts l.symbols l.stack l.at
    × (left (store_of l.bank.words l.bank.counts l.bank.used) l.reps l.symbols l.stack l.at ≡ led_list (store_of l.bank.words l.bank.counts l.bank.used) l.reps l.symbols)

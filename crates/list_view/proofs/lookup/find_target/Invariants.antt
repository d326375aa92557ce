-- The loop of `find_target`: the rules left give what all of them give.
use Rattle.std.proofs.Common.{◌≡◌, ◌-◌}
use Rattle.model.specs.Automata.{target_in}
use Rattle.list.specs.Blocks.{rules_in}
use Rattle.list_view.proofs.lookup.find_target.Given as goal

abbrev pub invariant-loop : goal.invariant-loop
invariant-loop l = target_in l.fn.symbol l.fn.states (rules_in (l.fn.rules - l.counter) l.at) ≡ target_in l.fn.symbol l.fn.states (rules_in l.fn.rules l.fn.bytes)

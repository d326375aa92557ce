-- The loop of `rule_body`: what is behind the blocks left is what is behind all of them.
use Rattle.std.proofs.Common.{◌≡◌, ◌-◌}
use Rattle.model.specs.Listing.{behind}
use Rattle.list.specs.Blocks.{after}
use Rattle.list_view.proofs.lookup.rule_body.Given as goal

abbrev pub invariant-loop : goal.invariant-loop
invariant-loop l = after (l.fn.k - l.counter) l.at ≡ after l.fn.k (behind (behind l.fn.bytes))

-- `list_view::seen::rule_seen` meets its contract: of a list that has the rule, its block tells. The target is a state, so it is small.
use Rattle.std.proofs.Common.{ap, arith}
use Rattle.list_view.specs.declared.ShownRule.{ShownRule}
use Rattle.list_view.proofs.Loads.{small_target, rule_read}
use Rattle.list_view.proofs.seen.rule_seen.Goals as goal

pub overflow_cast-result : goal.overflow_cast-result
overflow_cast-result c =
    omega (arith, small_target c.args.bytes.now c.in-Some.rules c.in-Some.ensures c.args.k c.if-rules-k.false, ap (λ (x : ShownRule). x.target.0) c.rule_in-symbol.ensures)

pub returns : goal.returns
returns c = rule_read c.args.bytes.now c.in-Some.rules c.in-Some.ensures c.args.k c.rule_in-symbol.result c.count_in.result c.if-rules-k.false c.rule_in-symbol.ensures c.count_in.ensures

-- `list::write::put_rule` meets its contract: head, symbol and states, target, one behind the other.
use Rattle.std.proofs.Common.{arith}
use Rattle.list.proofs.Flat.{flat_states, rule_put}
use Rattle.list.proofs.write.put_rule.Goals as goal

pub returns-clause-bytes : goal.returns-clause-bytes
returns-clause-bytes c =
    let a = c.args in
    let l = flat_states a.counts.now a.rules.now c.requires.0 in
    rule_put a.counts.now a.rules.now c.requires.0 c.width-n.result c.width-n.ensures a.at c.put_head-after.result c.put_bytes-last.result a.out.now (omega arith)
    c.put_head-after.ensures.value c.put_bytes-last.ensures.value c.put_head-after.ensures.bytes c.put_bytes-last.ensures.bytes c.put_bytes.ensures.bytes

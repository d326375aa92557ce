-- `list::write::write_list` meets its contract: three runs one behind the other are the whole list.
use Rattle.std.proofs.Common.{arith}
use Rattle.list.proofs.Flat.{blocks_few}
use Rattle.list.proofs.Writing.{length_list, list_put}
use Rattle.list.proofs.write.write_list.Goals as goal

pub put_block-after-requires : goal.put_block-after-requires
put_block-after-requires c =
    let l = length_list c.args.counts.now c.args.finals.now c.args.rules.now in
    (omega arith, omega arith)

pub put_block-start-requires : goal.put_block-start-requires
put_block-start-requires c =
    let l = length_list c.args.counts.now c.args.finals.now c.args.rules.now in
    (omega arith, omega arith)

pub put_rules-end-requires : goal.put_rules-end-requires
put_rules-end-requires c = omega (arith, length_list c.args.counts.now c.args.finals.now c.args.rules.now)

pub overflow_cast-result : goal.overflow_cast-result
overflow_cast-result c =
    let l = length_list c.args.counts.now c.args.finals.now c.args.rules.now in
    omega (arith, blocks_few c.args.counts.now c.args.rules.now)

pub returns-clause-value : goal.returns-clause-value
returns-clause-value c = omega (arith, length_list c.args.counts.now c.args.finals.now c.args.rules.now)

pub returns-clause-bytes : goal.returns-clause-bytes
returns-clause-bytes c =
    let a = c.args in
    list_put a.counts.now a.finals.now a.rules.now c.put_block-after.result c.put_block-start.result a.out.now c.requires.room
    c.put_block-after.ensures.value c.put_block-start.ensures.value c.put_block-after.ensures.bytes c.put_block-start.ensures.bytes c.put_rules-end.ensures.bytes

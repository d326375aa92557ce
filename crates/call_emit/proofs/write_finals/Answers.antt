-- `call_emit::write_finals` meets its contract: one more state is one more byte.
use Rattle.std.proofs.Common.{rules, arith}
use Rattle.call_emit.proofs.Laws.Finals.{finals_more}
use Rattle.call_emit.proofs.write_finals.Goals as goal

pub loop-q-preserved : goal.loop-q-preserved
loop-q-preserved c =
    let a = c.args in
    let l = c.loop-q in
    let h = c.loop-q-test.true in
    (search rules, finals_more a.words.now a.used a.s.now l.finals l.q c.final_byte.result h (omega arith) (c.requires.2 l.q h) l.invariant.1 c.final_byte.ensures)

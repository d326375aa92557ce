-- `call_emit::write_rules` meets its contract: one more rule is put behind the others.
use Rattle.std.proofs.Common.{arith}
use Rattle.model.specs.Entry.{store_of}
use Rattle.bank.proofs.Laws.Words.{used_of}
use Rattle.call_emit.proofs.Laws.Transition.{transition_of}
use Rattle.call_emit.proofs.Laws.Flat.{flat_none, flat_rule_law}
use Rattle.call_emit.proofs.write_rules.Goals as goal

pub loop-k-init : goal.loop-k-init
loop-k-init c =
    let a = c.args in
    flat_none (store_of a.words.now a.counts.now a.used) a.s.now a.t.now a.reps.now a.flat.now c.requires.3

pub rule_bytes-bytes-requires : goal.rule_bytes-bytes-requires
rule_bytes-bytes-requires c =
    let a = c.args in
    let d = c.requires.1 in
    (c.requires.0, d.few, omega (arith, used_of a.words.now a.counts.now a.used, c.requires.0.good.fits, d.long), transition_of d c.loop-k.k c.loop-k-test.true)

pub put_six-requires : goal.put_six-requires
put_six-requires c = (c.loop-k.invariant.long, omega (arith, c.loop-k-test.true, c.requires.2))

pub loop-k-preserved : goal.loop-k-preserved
loop-k-preserved c =
    let a = c.args in
    let r = c.rule_bytes-bytes in
    flat_rule_law (store_of a.words.now a.counts.now a.used) a.s.now a.t.now a.reps.now _ c.loop-k.invariant (omega (arith, c.loop-k-test.true, c.requires.2))
    r.ensures.0 r.ensures.1 c.put_six.ensures

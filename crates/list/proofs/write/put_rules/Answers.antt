-- `list::write::put_rules` meets its contract: a rule more is its block put in front of the others'.
use Rattle.std.proofs.Common.{◌∙◌, arith}
use Rattle.std.specs.Slice.Iter.{chunks_exact_rest}
use Rattle.list.proofs.Writing.{room, writing_next, writing_end}
use Rattle.list.proofs.write.put_rules.Goals as goal

pub put_rule-at-requires : goal.put_rule-at-requires
put_rule-at-requires c =
    let s = c.in-Some.ensures.steps.1 in
    let six = s.1 ∙ c.loop-rule.invariant.size in
    (omega arith, room c.loop-rule.invariant.writing c.requires c.in-Some.rule.now (chunks_exact_rest c.next.new.self) s.0 six)

pub loop-rule-preserved : goal.loop-rule-preserved
loop-rule-preserved c =
    let s = c.in-Some.ensures.steps.1 in
    record {
      can_next = omega (arith, c.in-Some.ensures.steps.0);
      is_finite = tt;
      size = c.in-Some.ensures.steps.0 ∙ c.loop-rule.invariant.size;
      writing = writing_next c.loop-rule.invariant.writing c.requires c.in-Some.rule.now (chunks_exact_rest c.next.new.self) s.0 (s.1 ∙ c.loop-rule.invariant.size)
          c.put_rule-at.new.out c.put_rule-at.result c.put_rule-at.ensures.value c.put_rule-at.ensures.bytes;
    }

pub returns-clause-value : goal.returns-clause-value
returns-clause-value c =
    let n = c.in-None.ensures.steps.1.0 in
    (writing_end c.loop-rule.invariant.writing c.requires (omega arith)).0

pub returns-clause-bytes : goal.returns-clause-bytes
returns-clause-bytes c =
    let n = c.in-None.ensures.steps.1.0 in
    (writing_end c.loop-rule.invariant.writing c.requires (omega arith)).1

-- `list::write::list_size` meets its contract: a rule more is as many bytes more as its block has.
use Rattle.std.proofs.Common.{◌∙◌, ap, length, arith}
use Rattle.std.specs.Slice.Iter.{chunks_exact_rest}
use Rattle.model.proofs.Laws.Listing.{length_emitted}
use Rattle.list.specs.Flat.{flat_sheet}
use Rattle.list.proofs.Flat.{length_first, blocks_none, blocks_few}
use Rattle.list.proofs.write.list_size.Goals as goal

pub overflow_add-size-in-loop-rule-2 : goal.overflow_add-size-in-loop-rule-2
overflow_add-size-in-loop-rule-2 c =
    let s = c.in-Some.ensures.steps.1 in
    let l = length_first c.args.counts.now (chunks_exact_rest c.loop-rule.rule-iterator) c.in-Some.rule.now (chunks_exact_rest c.next.new.self) s.0 (s.1 ∙ c.loop-rule.invariant.size) in
    omega (arith, blocks_few c.args.counts.now c.args.rules.now)

pub loop-rule-preserved : goal.loop-rule-preserved
loop-rule-preserved c =
    let s = c.in-Some.ensures.steps.1 in
    let l = length_first c.args.counts.now (chunks_exact_rest c.loop-rule.rule-iterator) c.in-Some.rule.now (chunks_exact_rest c.next.new.self) s.0 (s.1 ∙ c.loop-rule.invariant.size) in
    record {
      can_next = omega (arith, c.in-Some.ensures.steps.0);
      is_finite = tt;
      size = c.in-Some.ensures.steps.0 ∙ c.loop-rule.invariant.size;
      sum = omega arith;
    }

pub overflow_cast-result : goal.overflow_cast-result
overflow_cast-result c = omega (arith, blocks_few c.args.counts.now c.args.rules.now)

pub returns : goal.returns
returns c =
    let n = c.in-None.ensures.steps.1.0 in
    let b = ap length (blocks_none c.args.counts.now (chunks_exact_rest c.loop-rule.rule-iterator) (omega arith)) in
    omega (arith, length_emitted (flat_sheet c.args.counts.now c.args.finals.now c.args.rules.now))

-- The loop of `put_rules`: what is still to be put is what was to be put at the start.
use Rattle.std.proofs.Common.{◌≡◌}
use Rattle.std.specs.Slice.Iter.{chunks_exact_rest, chunks_exact_size}
use Rattle.list.specs.Flat.{rule_width}
use Rattle.list.proofs.Writing.{Writing}
use Rattle.list.proofs.write.put_rules.Given as goal

abbrev pub invariant-loop-rule : goal.invariant-loop-rule
invariant-loop-rule l = record {
  can_next : goal.iterator-loop-rule.can_next l.rule-iterator;
  is_finite : goal.iterator-loop-rule.is_finite l.rule-iterator;
  size : chunks_exact_size l.rule-iterator ≡ rule_width;
  writing : Writing l.fn.counts l.fn.rules l.fn.out l.fn.start l.out (chunks_exact_rest l.rule-iterator) l.at;
}

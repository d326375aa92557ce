-- The loop of `list_size`: the size so far and the blocks left are the whole.
use Rattle.std.proofs.Common.{◌≡◌, ◌+◌, length}
use Rattle.std.specs.Slice.Iter.{chunks_exact_rest, chunks_exact_size}
use Rattle.list.specs.Flat.{rule_width}
use Rattle.list.proofs.Writing.{blocks}
use Rattle.list.proofs.write.list_size.Given as goal

abbrev pub invariant-loop-rule : goal.invariant-loop-rule
invariant-loop-rule l = record {
  can_next : goal.iterator-loop-rule.can_next l.rule-iterator;
  is_finite : goal.iterator-loop-rule.is_finite l.rule-iterator;
  size : chunks_exact_size l.rule-iterator ≡ rule_width;
  sum : l.size + length (blocks l.fn.counts (chunks_exact_rest l.rule-iterator)) ≡ 12 + length l.fn.counts + length l.fn.finals + length (blocks l.fn.counts l.fn.rules);
}

-- The loop of `read_rules`: what is left to be read behind the rules so far is what was to be read, and the numbers kept are those of these rules.
use Rattle.std.proofs.Common.{length}
use Rattle.list.proofs.Reading.{Reading}
use Rattle.list.proofs.Keys.{Keyed}
use Rattle.list.proofs.read.read_rules.Given as goal

abbrev pub invariant-loop-count : goal.invariant-loop-count
invariant-loop-count l = record {
  reading : Reading l.fn.counts l.fn.finals l.fn.bytes l.at l.count;
  keyed : Keyed l.fn.counts (length l.fn.finals) l.fn.bytes l.keys l.count;
}

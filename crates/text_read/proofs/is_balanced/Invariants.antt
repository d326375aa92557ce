-- `text_read::is_balanced`: what is left balances from this depth exactly if the text does, and the depth is at most the bytes passed.
use Rattle.std.proofs.Common.{◌≡◌, ◌≤◌, drop}
use Rattle.text.specs.Reading.{balanced_from}
use Rattle.text_read.proofs.is_balanced.Given as goal

abbrev pub invariant-loop-byte : goal.invariant-loop-byte
invariant-loop-byte l = record {
  shallow : l.depth ≤ l.byte-index;
  left : balanced_from l.depth (drop l.byte-index l.text) ≡ balanced_from 0 l.text;
}

-- `text_read::index`: indexing the letters left over the places filled gives the whole index.
use Rattle.std.proofs.Common.{◌≡◌, length, drop}
use Rattle.text.specs.Reading.{known_places, indexed_from, known_of}
use Rattle.text_read.proofs.index.Given as goal

abbrev pub invariant-loop-i : goal.invariant-loop-i
invariant-loop-i l = record {
  long : length l.known ≡ known_places;
  left : indexed_from l.i (drop l.i l.letters) (drop l.i l.counts) l.known ≡ known_of l.letters l.counts;
}

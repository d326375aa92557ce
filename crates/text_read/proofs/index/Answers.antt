-- `text_read::index` meets its contract: a letter is a byte and a count at most four, so a place is below 1,280.
use Rattle.std.proofs.Common.{◌∙◌, inl, inr}
use Rattle.text.specs.Reading.{known_of}
use Rattle.text_read.proofs.Laws.{indexed_turn, indexed_all}
use Rattle.text_read.proofs.index.Goals.{then-count-le4, else-count-le4}
use Rattle.text_read.proofs.index.Goals as goal

pub loop-i-preserved : goal.loop-i-preserved
loop-i-preserved c =
    let l = c.loop-i in
    let t = indexed_turn c.args.letters.now c.args.counts.now l.known l.i c.loop-i-test.true c.if-count-le4.known (known_of c.args.letters.now c.args.counts.now)
    (elim c.if-count-le4.branch [ then-count-le4 w ↦ inl (w.if-count-le4.true, w.known-is) | else-count-le4 w ↦ inr (w.if-count-le4.false, w.known-is) ]) l.invariant.left in
    record { long = t.0 ∙ l.invariant.long; left = t.1 }

pub returns : goal.returns
returns c =
    let l = c.loop-i in
    indexed_all c.args.letters.now c.args.counts.now l.known (known_of c.args.letters.now c.args.counts.now) l.i c.loop-i-test.false l.invariant.left

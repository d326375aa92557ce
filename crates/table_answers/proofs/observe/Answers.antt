-- `table_answers::observe` meets its contract, by the laws of Steps: a transition's column is its row of answers.
use Rattle.std.proofs.Common.{◌*◌, ◌≤◌, length, arith}
use Rattle.std.proofs.Math.Seq.{length-take-le}
use Rattle.model.specs.Limits.{most_contexts}
use Rattle.table_columns.proofs.Laws.Rows.{observed_more}
use Rattle.table_answers.proofs.Laws.Steps.{next, tops_below, tops_fill, row_read}
use Rattle.table_answers.proofs.observe.Goals as goal

pub read_column-requires : goal.read_column-requires
read_column-requires c =
    let a = c.args in
    let b = a.bank.now in
    let h = c.loop-k.invariant.needed in
    let f = c.fill_column.ensures in
    let enough : length a.c.now ≤ length c.needed_rows-n.new.tops = omega (arith, c.needed_rows-n.auto.tops, c.requires.3) in
    let long = length-take-le (length a.c.now) c.needed_rows-n.new.tops enough in
    rw (c.words-words.ensures, c.used-used.ensures.value) (
      c.used-used.ensures.ready.finding.room,
      c.requires.0,
      tops_below b.words b.counts b.used h f.1 f.0 enough,
      tops_fill b.words b.counts b.used h f.1 f.0 enough,
      omega (arith, long, c.loop-k.auto.table, c.requires.3, c.loop-k-test.true, c.requires.5),
    )

pub loop-k-preserved : goal.loop-k-preserved
loop-k-preserved c =
    let a = c.args in
    let b = a.bank.now in
    let l = c.loop-k in
    let h = l.invariant.needed in
    let f = c.fill_column.ensures in
    let enough : length a.c.now ≤ length c.needed_rows-n.new.tops = omega (arith, c.needed_rows-n.auto.tops, c.requires.3) in
    let row = row_read b.words b.counts b.used h f.1 f.0 enough l.table (most_contexts * l.k) (rw c.words-words.ensures at c.read_column.ensures) in
    record {
      observed = rw row (observed_more l.invariant.observed (omega (arith, c.loop-k-test.true, c.requires.4)) (omega (arith, c.loop-k-test.true, l.auto.table, c.requires.5)) (omega arith));
      needed = next b.words b.counts b.used h f.1 f.0 enough;
    }

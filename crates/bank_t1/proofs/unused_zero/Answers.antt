-- `bank_t1::unused_zero` meets its contract: a place that is 0 leaves the test to those behind it, another settles it.
use Rattle.std.proofs.Common.{◌∙◌, sym}
use Rattle.bank_t1.proofs.Laws.Kids.{zero_fails, zero_passes, zero_ends}
use Rattle.bank_t1.proofs.unused_zero.Goals as goal

pub returns-then-kid_of-ne0 : goal.returns-then-kid_of-ne0
returns-then-kid_of-ne0 c =
    let a = c.args in
    let l = c.loop-k in
    zero_fails a.words.now a.row.0 a.count l.k l.invariant c.loop-k-test.true (λ e. c.if-kid_of-ne0.true (c.kid_of.ensures ∙ e))

pub loop-k-preserved : goal.loop-k-preserved
loop-k-preserved c =
    let a = c.args in
    let l = c.loop-k in
    zero_passes a.words.now a.row.0 a.count l.k l.invariant c.loop-k-test.true (sym c.kid_of.ensures ∙ c.if-kid_of-ne0.false)

pub returns : goal.returns
returns c =
    let a = c.args in
    zero_ends a.words.now a.row.0 a.count c.loop-k.k c.loop-k.invariant c.loop-k-test.false

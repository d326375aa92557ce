-- `table_verdict::run_list` meets its contract: each symbol's rule is found or ends the run.
use Rattle.std.proofs.Common.{refl, sym, ◌∙◌, get_or}
use Rattle.model.specs.Entry.{store_of}
use Rattle.table_verdict.proofs.Laws.Run as R
use Rattle.table_verdict.proofs.run_list.Goals as goal

pub loop-at-init : goal.loop-at-init
loop-at-init c = rw c.new-stack.ensures (R.running_start c.args.bank.now.counts c.args.symbols.now c.requires.1 c.requires.2, refl)

pub arity_of-count-requires : goal.arity_of-count-requires
arity_of-count-requires c = R.known c.loop-at.invariant.0 c.loop-at-test.true

pub top_places-places-requires : goal.top_places-places-requires
top_places-places-requires c =
    let r = c.loop-at.invariant.0 in
    rw c.arity_of-count.ensures (c.used.ensures.ready.good.wide (get_or c.args.symbols.now c.loop-at.at 0), R.enough r c.loop-at-test.true)

pub returns-then-rep-eq0 : goal.returns-then-rep-eq0
returns-then-rep-eq0 c =
    let x = store_of c.args.bank.now.words c.args.bank.now.counts c.args.bank.now.used in
    sym (R.run_stuck x c.args.reps.now c.loop-at.invariant.0 c.loop-at-test.true c.target_of-rep.result.0 c.top_places-places.result
    c.target_of-rep.ensures (rw c.arity_of-count.ensures at c.top_places-places.ensures) c.if-rep-eq0.true) ∙ c.loop-at.invariant.1

pub put-requires : goal.put-requires
put-requires c =
    let r = c.loop-at.invariant.0 in
    rw c.arity_of-count.ensures (R.enough r c.loop-at-test.true, R.room r c.loop-at-test.true)

pub loop-at-preserved : goal.loop-at-preserved
loop-at-preserved c =
    let x = store_of c.args.bank.now.words c.args.bank.now.counts c.args.bank.now.used in
    let r = c.loop-at.invariant.0 in
    let k = c.target_of-rep.result.0 in
    let e = R.run_on x c.args.reps.now r c.loop-at-test.true k c.top_places-places.result c.target_of-rep.ensures (rw c.arity_of-count.ensures at c.top_places-places.ensures) c.if-rep-eq0.false in
    rw (c.put.ensures, c.arity_of-count.ensures) (R.pushed r c.loop-at-test.true k, sym e ∙ c.loop-at.invariant.1)

pub root-requires : goal.root-requires
root-requires c = R.alone c.loop-at.invariant.0 c.loop-at-test.false

pub returns : goal.returns
returns c =
    let x = store_of c.args.bank.now.words c.args.bank.now.counts c.args.bank.now.used in
    sym (R.run_ends c.loop-at.invariant.0 c.loop-at-test.false x c.args.reps.now c.root.ensures) ∙ c.loop-at.invariant.1

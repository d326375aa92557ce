-- `call_emit::rule_bytes` meets its contract: a child more is its state in the next place.
-- Over all children, with the target behind them, the bytes are the rule's.
use Rattle.std.proofs.Common.{sym, ◌∙◌, ◌<◌, length, length-set, arith}
use Rattle.model.specs.Store.{kids_at}
use Rattle.model.specs.Entry.{store_of}
use Rattle.bank.proofs.Laws.Children.{row_symbol, row_known}
use Rattle.call_emit.proofs.Laws.Transition.{row_used, symbol_small, kid_place, target_place, count_is, count_few, word_early, word_place}
use Rattle.call_emit.proofs.Laws.Rule.{rule_start, rule_more, rule_end}
use Rattle.call_emit.proofs.rule_bytes.Goals as goal

pub bounds-counts-symbol : goal.bounds-counts-symbol
bounds-counts-symbol c =
    let r = c.requires in
    omega (arith, c.symbol_of-symbol.ensures, row_known r.0 c.args.row.0 (row_used r.0 r.1 r.3) r.3.some)

pub overflow_cast-bytes : goal.overflow_cast-bytes
overflow_cast-bytes c = let r = c.requires in omega (arith, c.symbol_of-symbol.ensures, symbol_small r.0 r.1 r.3)

pub loop-i-init : goal.loop-i-init
loop-i-init c =
    let a = c.args in
    let r = c.requires in
    rule_start (store_of a.words.now a.counts.now a.used) a.s.now a.row.0 c.symbol_of-symbol.result (c.symbol_of-symbol.ensures ∙ row_symbol r.0 a.row.0 (row_used r.0 r.1 r.3))

pub overflow_cast-kid : goal.overflow_cast-kid
overflow_cast-kid c =
    let r = c.requires in
    let n = count_is r.0 r.1 r.3 c.symbol_of-symbol.result c.symbol_of-symbol.ensures in
    omega (arith, c.ranges.used.fits, word_early r.0 r.1 r.3 c.loop-i.i c.kid_of-kid.result (omega (arith, n, c.loop-i-test.true)) c.kid_of-kid.ensures)

pub overflow_cast-bytes-in-loop-i : goal.overflow_cast-bytes-in-loop-i
overflow_cast-bytes-in-loop-i c =
    let r = c.requires in
    let n = count_is r.0 r.1 r.3 c.symbol_of-symbol.result c.symbol_of-symbol.ensures in
    let l : c.loop-i.i < length (kids_at (store_of c.args.words.now c.args.counts.now c.args.used) c.args.row.0) = omega (arith, n, c.loop-i-test.true) in
    omega (arith, c.state_of-state.ensures, word_place r.0 r.1 r.3 c.loop-i.i c.kid_of-kid.result l c.kid_of-kid.ensures, kid_place r.0 r.1 r.3 c.loop-i.i l)

pub loop-i-preserved : goal.loop-i-preserved
loop-i-preserved c =
    let a = c.args in
    let r = c.requires in
    let n = count_is r.0 r.1 r.3 c.symbol_of-symbol.result c.symbol_of-symbol.ensures in
    let l : c.loop-i.i < length (kids_at (store_of a.words.now a.counts.now a.used) a.row.0) = omega (arith, n, c.loop-i-test.true) in
    rule_more (store_of a.words.now a.counts.now a.used) a.s.now a.row.0 c.loop-i.invariant (omega (arith, l, count_few r.0 r.1 r.3))
    c.state_of-state.result.0 (c.state_of-state.ensures ∙ word_place r.0 r.1 r.3 c.loop-i.i c.kid_of-kid.result l c.kid_of-kid.ensures)

pub bounds-reps-row : goal.bounds-reps-row
bounds-reps-row c = let r = c.requires in omega (arith, row_used r.0 r.1 r.3, r.2)

pub overflow_cast-bytes-2 : goal.overflow_cast-bytes-2
overflow_cast-bytes-2 c = let r = c.requires in omega (arith, c.state_of-target.ensures, target_place r.0 r.1 r.3)

pub returns : goal.returns
returns c =
    let a = c.args in
    let r = c.requires in
    let l = c.loop-i in
    let n = count_is r.0 r.1 r.3 c.symbol_of-symbol.result c.symbol_of-symbol.ensures in
    let few = count_few r.0 r.1 r.3 in (
      length-set l.bytes 5 c.state_of-target.result.0 ∙ l.invariant.long,
      rule_end (store_of a.words.now a.counts.now a.used) a.s.now a.row.0 a.reps.now l.invariant (omega (arith, n, c.loop-i-test.false)) few
          (count_is r.0 r.1 r.3 _ (sym (row_symbol r.0 a.row.0 (row_used r.0 r.1 r.3)))) c.state_of-target.result.0 c.state_of-target.ensures,
    )

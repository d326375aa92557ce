-- `step_search::turn_of` meets its contract: a row whose children are their own representatives is its own spot; any other has that of its first other child, under one more frame.
use Rattle.std.proofs.Common.{arith, sym}
use Rattle.model.specs.Entry.{store_of}
use Rattle.bank.proofs.Laws.Children.{bank_stored, word_early}
use Rattle.step_search.specs.Spots.{not_own}
use Rattle.bank.proofs.Laws.Exchanged.{place_four}
use Rattle.step_search.proofs.Laws.Descent.{turn_itself, place_has, turn_above, at_rows, exchanged_rows}
use Rattle.step_search.proofs.turn_of.Goals as goal

pub returns-in_default : goal.returns-in_default
returns-in_default c =
    let x = store_of c.args.bank.now.words c.args.bank.now.counts c.args.bank.now.used in
    let t = turn_itself (not_own c.args.reps.now) c.args.reps.now x c.used.ensures.ready.good c.args.row.0 (sym c.in_default.ensures) in
    (c.in_default.ensures, t.spot_is, t.row_is)

pub kid_of-kid-requires : goal.kid_of-kid-requires
kid_of-kid-requires c =
    let r = bank_stored c.used.ensures.ready in
    let i = c.args.row.0 in
    let has = place_has c.used.ensures.ready (not_own c.args.reps.now) i c.requires.2 c.requires.3 c.in-Some.place c.in-Some.ensures in
    (c.requires.3, place_four r i c.requires.3 c.requires.2 c.in-Some.place has)

pub bounds-exchanged-kid : goal.bounds-exchanged-kid
bounds-exchanged-kid c =
    let i = c.args.row.0 in
    let has = place_has c.used.ensures.ready (not_own c.args.reps.now) i c.requires.2 c.requires.3 c.in-Some.place c.in-Some.ensures in
    let a = word_early (bank_stored c.used.ensures.ready) i c.requires.3 c.requires.2 c.in-Some.place has in
    omega (arith, c.kid_of-kid.ensures, a, c.requires.3, exchanged_rows c.args.bank.now.words c.args.bank.now.counts c.args.bank.now.used c.requires.1)

pub overflow_cast-result-2 : goal.overflow_cast-result-2
overflow_cast-result-2 c =
    let i = c.args.row.0 in
    let has = place_has c.used.ensures.ready (not_own c.args.reps.now) i c.requires.2 c.requires.3 c.in-Some.place c.in-Some.ensures in
    omega (arith, place_four (bank_stored c.used.ensures.ready) i c.requires.3 c.requires.2 c.in-Some.place has)

pub bounds-at-kid : goal.bounds-at-kid
bounds-at-kid c =
    let i = c.args.row.0 in
    let has = place_has c.used.ensures.ready (not_own c.args.reps.now) i c.requires.2 c.requires.3 c.in-Some.place c.in-Some.ensures in
    let a = word_early (bank_stored c.used.ensures.ready) i c.requires.3 c.requires.2 c.in-Some.place has in
    omega (arith, c.kid_of-kid.ensures, a, c.requires.3, at_rows c.args.bank.now.words c.args.bank.now.counts c.args.bank.now.used c.requires.1)

pub exchanged-requires : goal.exchanged-requires
exchanged-requires c =
    (c.requires.2, c.requires.3, place_has c.used.ensures.ready (not_own c.args.reps.now) c.args.row.0 c.requires.2 c.requires.3 c.in-Some.place c.in-Some.ensures)

pub returns : goal.returns
returns c =
    let a = turn_above c.used.ensures.ready (not_own c.args.reps.now) c.args.row.0 c.requires.2 c.requires.3 c.in-Some.place c.in-Some.ensures in
    let t = a c.requires.1 c.kid_of-kid.result c.kid_of-kid.ensures c.exchanged.result.0 c.exchanged.ensures.0 in
    (c.in-Some.ensures, t.spot_is, t.row_is)

-- `step_search::first_outside` meets its contract: each child read is the next one of the row, and its test settles the place or leaves it to those behind.
use Rattle.std.proofs.Common.{arith, ◌≡◌, sym, ap, ◌∙◌, ◌<◌, ℕ, List, Bool, not, length}
use Rattle.model.specs.Store.{kids_at}
use Rattle.model.specs.Entry.{store_of}
use Rattle.bank.proofs.Laws.Children.{bank_stored, row_kid, word_early}
use Rattle.step_search.specs.Spots.{own_rep, not_own, outside_by}
use Rattle.step_search.proofs.Laws.Place.{place_here, place_behind, place_nowhere}
use Rattle.step_search.proofs.first_outside.Goals as goal

pub overflow_cast-kid : goal.overflow_cast-kid
overflow_cast-kid c =
    let b = c.used.ensures.ready in
    let early = word_early (bank_stored b) c.args.row.0 c.requires.2 c.requires.1 c.loop-k.k (omega (arith, c.loop-k-test.true, c.count_of-count.ensures)) in
    omega (arith, c.kid_of-kid.ensures, early, c.requires.2, b.finding.few)

pub is_rep-requires : goal.is_rep-requires
is_rep-requires c =
    let early = word_early (bank_stored c.used.ensures.ready) c.args.row.0 c.requires.2 c.requires.1 c.loop-k.k (omega (arith, c.loop-k-test.true, c.count_of-count.ensures)) in
    omega (arith, c.kid_of-kid.ensures, early, c.requires.2, c.requires.0)

-- the test of the child that was read
tested : (reps : List ℕ) (kid j : ℕ) (r b : Bool) → j ≡ kid → r ≡ own_rep reps j → r ≡ b → not_own reps kid ≡ not b
tested reps kid j r b e f g = ap (not_own reps) (sym e) ∙ ap not (sym f ∙ g)

pub returns-then-not-is_rep : goal.returns-then-not-is_rep
returns-then-not-is_rep c =
    let i = c.args.row.0 in
    let k = c.loop-k.k in
    let own = c.args.reps.now in
    let x = store_of c.args.bank.now.words c.args.bank.now.counts c.args.bank.now.used in
    let has : k < length (kids_at x i) = omega (arith, c.loop-k-test.true, c.count_of-count.ensures) in
    let e = c.kid_of-kid.ensures ∙ row_kid (bank_stored c.used.ensures.ready) i c.requires.2 c.requires.1 k has in
    place_here (not_own own) (kids_at x i) k (outside_by own x i) c.loop-k.invariant has (tested own _ _ _ _ e c.is_rep.ensures c.if-not-is_rep.true)

pub loop-k-preserved : goal.loop-k-preserved
loop-k-preserved c =
    let i = c.args.row.0 in
    let k = c.loop-k.k in
    let own = c.args.reps.now in
    let x = store_of c.args.bank.now.words c.args.bank.now.counts c.args.bank.now.used in
    let has : k < length (kids_at x i) = omega (arith, c.loop-k-test.true, c.count_of-count.ensures) in
    let e = c.kid_of-kid.ensures ∙ row_kid (bank_stored c.used.ensures.ready) i c.requires.2 c.requires.1 k has in
    place_behind (not_own own) (kids_at x i) k (outside_by own x i) c.loop-k.invariant has (tested own _ _ _ _ e c.is_rep.ensures c.if-not-is_rep.false)

pub returns : goal.returns
returns c =
    let i = c.args.row.0 in
    let own = c.args.reps.now in
    let x = store_of c.args.bank.now.words c.args.bank.now.counts c.args.bank.now.used in
    place_nowhere (not_own own) (kids_at x i) c.loop-k.k (outside_by own x i) c.loop-k.invariant (omega (arith, c.loop-k-test.false, c.count_of-count.ensures))

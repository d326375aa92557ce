-- `table_verdict::row_rep` meets its contract: a child without a state ends it; over all children the rule that is found decides.
use Rattle.std.proofs.Common.{arith, sym, ap, ◌∙◌, ◌≡◌, List, ℕ, ◌<◌, length, get_or}
use Rattle.model.specs.Store.{kids_at, find_places}
use Rattle.model.specs.Entry.{store_of}
use Rattle.bank.specs.Rows.{kid_in}
use Rattle.bank.specs.Bank.{Bank}
use Rattle.bank.proofs.Laws.Children as C
use Rattle.table_verdict.proofs.Laws.Rows as R
use Rattle.table_verdict.proofs.row_rep.Goals as goal

-- a row that the bank has: its children reached by k
module _ {ws ns : List ℕ} {n : ℕ} {ix : List ℕ} (r : Bank ws ns n ix) {i : ℕ} (used : i < n) (positive : 0 < i) where
  module _ {k : ℕ} (l : k < length (kids_at (store_of ws ns n) i)) where
    early : kid_in ws i k < i
    early = C.word_early (C.bank_stored r) i used positive k l

    kid : {j : ℕ} → j ≡ kid_in ws i k → j ≡ get_or (kids_at (store_of ws ns n) i) k 0
    kid e = e ∙ C.row_kid (C.bank_stored r) i used positive k l

pub bounds-led-kid_of : goal.bounds-led-kid_of
bounds-led-kid_of c = omega (arith, c.kid_of.ensures, early c.used.ensures.ready c.requires.3 c.requires.2 {k = c.loop-k.k} (omega (arith, c.loop-k-test.true, c.count_of-count.ensures)), c.requires.3, c.requires.1)

pub returns-then-rep-eq0 : goal.returns-then-rep-eq0
returns-then-rep-eq0 c =
    let b = c.used.ensures.ready in
    let i = c.args.row.0 in
    let led = c.args.led.now in
    R.kids_stop b.good c.args.reps.now led i c.requires.2 (C.row_used (C.bank_stored b) i c.requires.3) c.requires.4 c.loop-k.k
    (omega (arith, c.loop-k-test.true, c.count_of-count.ensures))
    (ap (λ (j : ℕ). get_or led j 0) (sym (kid b c.requires.3 c.requires.2 {k = c.loop-k.k} (omega (arith, c.loop-k-test.true, c.count_of-count.ensures)) c.kid_of.ensures)) ∙ c.if-rep-eq0.true)

pub loop-k-preserved : goal.loop-k-preserved
loop-k-preserved c =
    let b = c.used.ensures.ready in
    let i = c.args.row.0 in
    let led = c.args.led.now in
    R.kids_more b.good c.args.reps.now led i c.requires.2 (C.row_used (C.bank_stored b) i c.requires.3) c.requires.4 c.loop-k.invariant
    (omega (arith, c.loop-k-test.true, c.count_of-count.ensures))
    (get_or led c.kid_of.result 0)
    (ap (λ (j : ℕ). get_or led j 0) (kid b c.requires.3 c.requires.2 {k = c.loop-k.k} (omega (arith, c.loop-k-test.true, c.count_of-count.ensures)) c.kid_of.ensures)) c.if-rep-eq0.false

pub returns : goal.returns
returns c =
    let b = c.used.ensures.ready in
    let i = c.args.row.0 in
    let x = store_of c.args.bank.now.words c.args.bank.now.counts c.args.bank.now.used in
    let a = c.symbol_of.ensures ∙ C.row_symbol (C.bank_stored b) i c.requires.3 in
    R.kids_end b.good c.args.reps.now c.args.led.now i c.requires.2 (C.row_used (C.bank_stored b) i c.requires.3) c.requires.4 c.loop-k.invariant
    (omega (arith, c.count_of-count.ensures, c.loop-k-test.false)) c.target_of.result.0
    (c.target_of.ensures ∙ ap (λ (b : ℕ). get_or c.args.reps.now (find_places x b c.loop-k.places) 0) a)

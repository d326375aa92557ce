-- `add::fill_frames`: the innermost frame filled with the row, or the frames below and then the row above, are the fill.
-- The measure is the row's number, for a child is an earlier row. Where rows run out below, they run out for the whole.
use mathlib.Core.Path.{◌≡◌, sym}
use mathlib.Core.List.{List}
use Rattle.std.proofs.Common.{Option}
use Prim.Native.Nat.{ℕ, ◌<◌}
use native.Mathlib.Omega.{arith}
use borrow.Author.Rules.{rules}
use Rattle.model.specs.Limits.{most_rows}
use Rattle.model.specs.Store.{fill}
use Rattle.model.specs.Entry.{store_of}
use Rattle.bank.specs.Bank.{path_of}
use Rattle.bank_fill.specs.declared.add.Added.{Added}
use Rattle.bank_fill.specs.Adding.{Came}
use Rattle.bank_fill.proofs.Laws.Coming.{Comes, comes_as}
use Rattle.bank_fill.proofs.Laws.Adding.{lent_of}
use Rattle.bank_fill.proofs.Laws.Filling.{fill_none, down_four, down_falls, down_asked, up_full, up_lent, up_row, up_kid, up_comes}
use Rattle.bank_fill.proofs.add.+fill_frames.Goals as goal

-- how filling the frames below ended
below_as : (ws ns : List ℕ) (n : ℕ) (ds : List ℕ) (kid i : ℕ) {r s : Option Added} {us ix : List ℕ} →
    Came ws ns n (fill (store_of ws ns n) (path_of ds (store_of ws ns n) kid) i) r us ix → r ≡ s → Comes ws ns n (fill (store_of ws ns n) (path_of ds (store_of ws ns n) kid) i) s us ix
below_as ws ns n ds kid i d e = comes_as e (record { came = d })

pub kid_of-kid-requires : goal.kid_of-kid-requires
kid_of-kid-requires t c = let q = c.requires.holds in (omega (arith, q.row_used, q.bank.finding.room), down_four q)

pub bounds-down-kid : goal.bounds-down-kid
bounds-down-kid t c = let q = c.requires.holds in omega (arith, down_falls q c.kid_of-kid.result c.kid_of-kid.ensures, q.row_used, q.places_long)

pub above-requires : goal.above-requires
above-requires t c = let q = c.requires.holds in (lent_of q.bank, q.row_used, down_four q, q.with_used)

pub returns-then-down-kid-eq0 : goal.returns-then-down-kid-eq0
returns-then-down-kid-eq0 t c =
    let k = c.kid_of-kid.result in
    λ ns q. (up_comes q k c.kid_of-kid.ensures (fill_none q.bank c.args.down.now k c.args.with.0 c.if-down-kid-eq0.true) c.above.ensures).came

pub overflow_cast-kid-2 : goal.overflow_cast-kid-2
overflow_cast-kid-2 t c =
    let q = c.requires.holds in
    let l : c.kid_of-kid.result < most_rows = omega (arith, down_falls q c.kid_of-kid.result c.kid_of-kid.ensures, q.row_used, q.bank.finding.few) in
    search rules

pub fill_frames-requires : goal.fill_frames-requires
fill_frames-requires t c =
    let q = c.requires.holds in
    let k = c.kid_of-kid in (
      omega (arith, down_falls q k.result k.ensures, c.decreases),
      record { counts = c.requires.counts; holds = down_asked q k.result k.ensures c.if-down-kid-eq0.false },
    )

pub returns-in_err-below : goal.returns-in_err-below
returns-in_err-below t c =
    let k = c.kid_of-kid in
    λ ns q.
    let below = c.fill_frames.ensures ns (down_asked q k.result k.ensures c.if-down-kid-eq0.false) in
    let d = below_as c.args.words.now ns c.args.used c.args.down.now k.result c.args.with.0 below c.in_err-below.was in
    (comes_as (sym c.from_residual.ensures) (up_full q k.result k.ensures d)).came

pub above-requires-2 : goal.above-requires-2
above-requires-2 t c =
    let q = c.requires.holds in
    let k = c.kid_of-kid in
    let below = c.fill_frames.ensures c.requires.counts (down_asked q k.result k.ensures c.if-down-kid-eq0.false) in
    let d = below_as c.args.words.now c.requires.counts c.args.used c.args.down.now k.result c.args.with.0 below c.in_ok-below.was in
    (up_lent q k.result k.ensures d, up_row q k.result k.ensures d, down_four q, up_kid q k.result k.ensures d)

pub returns : goal.returns
returns t c =
    let k = c.kid_of-kid in
    λ ns q.
    let below = c.fill_frames.ensures ns (down_asked q k.result k.ensures c.if-down-kid-eq0.false) in
    let d = below_as c.args.words.now ns c.args.used c.args.down.now k.result c.args.with.0 below c.in_ok-below.was in
    (up_comes q k.result k.ensures d c.above-2.ensures).came

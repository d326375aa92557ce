-- `sizes::row_size`: four children of at most 1,025 symbols and the root fit a number, and their sum, cut, is the row's size.
use mathlib.Core.Path.{◌≡◌, ap, ◌∙◌}
use Prim.Native.Nat.{ℕ, ◌<◌, min}
use Rattle.std.proofs.lemmas.Grind.{common_steps}
use native.Mathlib.Omega.{arith}
use lib.ListN.{get_or}
use Rattle.bank.specs.Rows.{symbol_in}
use Rattle.bank.proofs.Laws.Children.{row_known}
use Rattle.bank_listed.proofs.Laws.Cut.{cut_least}
use Rattle.bank_listed.proofs.Laws.Summed.{starts, kid_early, entry_most, adds, ends}
use Rattle.bank_listed.proofs.sizes.row_size.Goals as goal

pub bounds-counts-symbol : goal.bounds-counts-symbol
bounds-counts-symbol c = let r = c.requires in omega (arith, row_known r.0.rows c.args.row.0 r.2 r.1, c.symbol_of-symbol.ensures)

pub loop-k-init : goal.loop-k-init
loop-k-init c = let r = c.requires in starts r.0 r.1 r.2

pub bounds-sizes-kid_of : goal.bounds-sizes-kid_of
bounds-sizes-kid_of c =
    let r = c.requires in
    let e = ap (λ (a : ℕ). get_or c.args.counts.now a 0) c.symbol_of-symbol.ensures in
    let h : c.loop-k.k < get_or c.args.counts.now (symbol_in c.args.words.now c.args.row.0) 0 = omega (arith, c.loop-k-test.true, e) in
    omega (arith, kid_early r.0 r.1 r.2 c.loop-k.k h c.kid_of.result c.kid_of.ensures, r.2, r.0.few)

pub overflow_add-size : goal.overflow_add-size
overflow_add-size c =
    let r = c.requires in
    let e = ap (λ (a : ℕ). get_or c.args.counts.now a 0) c.symbol_of-symbol.ensures in
    let h : c.loop-k.k < get_or c.args.counts.now (symbol_in c.args.words.now c.args.row.0) 0 = omega (arith, c.loop-k-test.true, e) in
    let most = entry_most r.0 r.1 r.2 c.loop-k.k h c.kid_of.result c.kid_of.ensures in
    let few = r.0.rows.good.wide (symbol_in c.args.words.now c.args.row.0) in
    omega (arith, most, c.loop-k.invariant.most, few)

pub loop-k-preserved : goal.loop-k-preserved
loop-k-preserved c =
    let r = c.requires in
    let e = ap (λ (a : ℕ). get_or c.args.counts.now a 0) c.symbol_of-symbol.ensures in
    let h : c.loop-k.k < get_or c.args.counts.now (symbol_in c.args.words.now c.args.row.0) 0 = omega (arith, c.loop-k-test.true, e) in
    adds r.0 r.1 r.2 c.loop-k.k h c.kid_of.result c.kid_of.ensures c.loop-k.invariant

pub returns : goal.returns
returns c =
    let r = c.requires in
    let e = ap (λ (a : ℕ). get_or c.args.counts.now a 0) c.symbol_of-symbol.ensures in
    let least : c.min.result ≡ min c.loop-k.size 1025 = grind (arith, common_steps) in
    least ∙ cut_least c.loop-k.size ∙ ends r.0 r.1 r.2 (omega (arith, c.loop-k-test.false, e)) c.loop-k.invariant

-- `run_lists::fit::alphabet_fits` meets its contract: where the length is within its limits, the counts decide.
use Rattle.std.proofs.Common.{rules, tests, arith, ◌≡◌, ◌∙◌, sym, ℕ, length, Bool, true}
use Rattle.std.proofs.lemmas.Iterator.{YieldsList-from_slice}
use Rattle.std.proofs.lemmas.Iterator.Search.{all_from_yields_List}
use lib.Dec.{leb}
use borrow.Author.Tests.{le-leb, eqb-false}
use Rattle.model.specs.Limits.{most_symbols, most_children}
use Rattle.model.proofs.Laws.Methods.{all_all}
use Rattle.run_lists.proofs.fit.alphabet_fits.Goals as goal

pub returns-then-counts-le-MOST_SYMBOLS : goal.returns-then-counts-le-MOST_SYMBOLS
returns-then-counts-le-MOST_SYMBOLS c =
    let ns = c.args.counts.now in
    let small : ℕ → Bool = λ n. leb n most_children in
    let some = eqb-false (length ns) 0 (sym c.is_empty.ensures ∙ c.if-counts-le-MOST_SYMBOLS.true.0) in
    let low : leb 1 (length ns) ≡ true = le-leb 1 (length ns) (omega (arith, some)) in
    let high : leb (length ns) most_symbols ≡ true = le-leb (length ns) most_symbols (omega arith) in
    let t = all_from_yields_List small _ _ c.all.result c.all.ensures.ran (YieldsList-from_slice ns cc) (λ x b q k. search (rules, tests)) in
    rw (low, high) (t ∙ all_all small ns)

-- `table::differ_known` meets its contract: `any` over the pairs of answers is model's test.
use Rattle.std.proofs.Common.{◌≡◌, rules, tests}
use Rattle.std.specs.List.{list_any, zip}
use Rattle.std.proofs.lemmas.Iterator.{YieldsList-from_slice, YieldsList-from_zip}
use Rattle.std.proofs.lemmas.Iterator.Search.{any_from_yields_List}
use Rattle.table.proofs.Laws.Differ.{differs, any_differs}
use Rattle.table.proofs.differ_known.Goals as goal

pub returns : goal.returns
returns c =
    let v = c.answers-row.result.now in
    let w = c.answers-other.result.now in
    let a : c.any.result ≡ list_any differs (zip v w) = any_from_yields_List differs c.any.new.self _ c.any.result c.any.ensures.ran (YieldsList-from_zip (YieldsList-from_slice v cc) (YieldsList-from_slice w cc)) (λ x b q k. search (rules, tests)) in
    rw (← c.answers-row.ensures, ← c.answers-other.ensures, a) (any_differs v w)

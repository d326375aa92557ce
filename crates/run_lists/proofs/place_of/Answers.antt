-- `run_lists::place_of` meets its contract: `position` is model's place, and the length where there is none.
use Rattle.std.proofs.Common.{rules, tests, nat_eq}
use Rattle.std.proofs.lemmas.Iterator.{YieldsList-from_slice}
use Rattle.std.proofs.lemmas.Iterator.Search.{position_from_yields_List}
use Rattle.model.proofs.Laws.Methods.{place_found}
use Rattle.run_lists.proofs.place_of.Goals as goal

pub returns : goal.returns
returns c =
    let xs = c.args.xs.now in
    let x = c.args.row.0 in
    let p = position_from_yields_List (λ y. nat_eq y x) _ _ c.position.result c.position.ensures.ran (YieldsList-from_slice xs cc) (λ y b q k. search (rules, tests)) in
    rw c.unwrap_or.ensures (place_found x xs c.position.result p)

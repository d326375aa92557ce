-- `table::first_in` meets its contract: `position` finds the first unknown answer.
use Rattle.std.proofs.Common.{◌≡◌, refl, rules, tests, nat_eq, zero-add}
use Rattle.std.specs.List.{position}
use Rattle.std.proofs.lemmas.Iterator.{YieldsList-from_slice}
use Rattle.std.proofs.lemmas.Iterator.Search.{position_from_yields_List}
use Rattle.table.proofs.Laws.Gap.{first_found}
use Rattle.table.proofs.first_in.Goals as goal

pub returns-in_err-at : goal.returns-in_err-at
returns-in_err-at c =
    let row = c.answers-row.result.now in
    let p : c.position.result ≡ position (λ v. nat_eq v 0) row = position_from_yields_List (λ v. nat_eq v 0) _ _ c.position.result c.position.ensures.ran (YieldsList-from_slice row cc) (λ v b q k. search (rules, tests)) in
    rw (c.from_residual.ensures, ← c.answers-row.ensures, first_found row 0 c.position.result p, c.in_err-at.was) refl

pub returns : goal.returns
returns c =
    let row = c.answers-row.result.now in
    let p : c.position.result ≡ position (λ v. nat_eq v 0) row = position_from_yields_List (λ v. nat_eq v 0) _ _ c.position.result c.position.ensures.ran (YieldsList-from_slice row cc) (λ v b q k. search (rules, tests)) in
    rw (← c.answers-row.ensures, first_found row 0 c.position.result p, c.in_ok-at.was, zero-add) refl

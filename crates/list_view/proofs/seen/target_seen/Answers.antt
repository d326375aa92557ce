-- `list_view::seen::target_seen` meets its contract: of a list, the blocks behind the first two decide.
use Rattle.std.proofs.Common.{◌∙◌, ap}
use Rattle.model.specs.Listing.{behind}
use Rattle.list_view.proofs.Loads.{target_read}
use Rattle.list_view.proofs.seen.target_seen.Goals as goal

pub returns : goal.returns
returns c =
    let a = c.args in
    c.found.ensures ∙ c.find_target.ensures ∙
    target_read a.bytes.now c.in-Some.rules c.in-Some.ensures c.rest-2.result.now a.symbol a.states.now (c.rest-2.ensures ∙ ap behind c.rest.ensures)

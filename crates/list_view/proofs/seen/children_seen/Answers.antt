-- `list_view::seen::children_seen` meets its contract: of a list, the byte of the first body tells.
use Rattle.std.proofs.Common.{◌∙◌, ap}
use Rattle.list_view.specs.Shown.{found_as}
use Rattle.list_view.proofs.Loads.{found_item, children_read}
use Rattle.list_view.proofs.seen.children_seen.Goals as goal

pub returns : goal.returns
returns c =
    let a = c.args in
    c.found.ensures ∙ ap found_as c.copied.ensures ∙ found_item c.body.result.now a.symbol c.get.result c.get.ensures.lookup ∙
    children_read a.bytes.now c.in-Some.field-0 c.in-Some.ensures c.body.result.now a.symbol c.body.ensures

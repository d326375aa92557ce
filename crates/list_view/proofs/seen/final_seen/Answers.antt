-- `list_view::seen::final_seen` meets its contract: of a list, the byte of the second body tells.
use Rattle.std.proofs.Common.{◌∙◌, ap}
use Rattle.model.specs.Listing.{body_at}
use Rattle.list_view.proofs.Loads.{final_read}
use Rattle.list_view.proofs.seen.final_seen.Goals as goal

pub returns : goal.returns
returns c =
    let a = c.args in
    c.found.ensures ∙ c.final_at.ensures ∙ final_read a.bytes.now c.in-Some.field-0 c.in-Some.ensures c.body.result.now a.state (c.body.ensures ∙ ap body_at c.rest.ensures)

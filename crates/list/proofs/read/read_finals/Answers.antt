-- `list::read::read_finals` meets its contract: where the states fit, the rules behind them decide.
use Rattle.std.proofs.Common.{◌≡◌, sym, ap, ◌∙◌, true, List, ℕ}
use Rattle.model.specs.Listing.{body_at, is_block, finals_fit}
use Rattle.model.specs.Entry.{loaded_by}
use Rattle.list.specs.Blocks.{read_rules}
use Rattle.list.proofs.Reading.{finals_read}
use Rattle.list.proofs.read.read_finals.Goals as goal

pub returns : goal.returns
returns c =
    let a = c.args in
    let e : is_block 2 a.bytes.now ≡ true = cc in
    let f : finals_fit (body_at a.bytes.now) ≡ true = ap finals_fit (sym c.body-finals.ensures) ∙ cc in
    c.read_rules.ensures ∙ ap (λ (us : List ℕ). loaded_by (read_rules a.counts.now us c.rest.result.now)) c.body-finals.ensures ∙
    ap (λ (us : List ℕ). loaded_by (read_rules a.counts.now (body_at a.bytes.now) us)) c.rest.ensures ∙ ap loaded_by (sym (finals_read a.counts.now a.bytes.now e f))

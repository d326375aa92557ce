-- `list::read::is_rule` meets its contract: where the body fits, its number decides.
use Rattle.std.proofs.Common.{◌∙◌, sym}
use Rattle.model.proofs.Laws.Methods.{any_among}
use Rattle.list.proofs.Keys.{new_among}
use Rattle.list.proofs.read.is_rule.Goals as goal

pub returns-then-rule_fits : goal.returns-then-rule_fits
returns-then-rule_fits c =
    let a = c.args in
    new_among a.counts.now a.states a.keys.now a.at.now c.body-found.result.now c.key_of.result c.contains.result c.body-found.ensures (sym c.rule_fits.ensures ∙ c.if-rule_fits.true) c.key_of.ensures
    (c.contains.ensures.value ∙ any_among c.key_of.result a.keys.now)

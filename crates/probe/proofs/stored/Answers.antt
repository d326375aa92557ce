-- A record that is not at fault parses.
use Rattle.std.proofs.Common.{sym, ◌∙◌}
use Rattle.model.proofs.Laws.Refused.{unrefused}
use Rattle.model.proofs.Laws.Trees.{record_fault_parses}
use Rattle.probe.proofs.stored.Goals as goal

pub store-requires : goal.store-requires
store-requires c =
    let e = unrefused _ (sym c.is_err.ensures.value ∙ c.if-is_err.false) in
    let p = record_fault_parses c.args.counts.now c.args.symbols.now (sym c.record_fault.ensures ∙ e) in
    (c.requires, p.0, p.2)

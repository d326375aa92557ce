-- Sound tables with no question open have the proposal that the lines read.
use Rattle.std.proofs.Common.{rules, sym, subst, ◌∙◌}
use Rattle.model.specs.Entry.{Arrays}
use Rattle.sound.specs.Proposal.{Proposal}
use Rattle.sound.proofs.Laws.Proposal.{proposal}
use Rattle.call_take.proofs.call_in.Goals as goal

pub fault_of-requires : goal.fault_of-requires
fault_of-requires c =
    let l = c.args.lists in
    let f : Arrays l = record { counts = search rules; s = search rules; t = search rules; c = search rules } in
    let w = c.lists_sound.ensures.working c.if-not-lists_sound.false in
    let e = sym c.lists_sound.ensures.value ∙ c.if-not-lists_sound.false in
    (c.requires.1, w.bank, λ idle. subst (Proposal c.args.words.now l) (sym c.column-reps.ensures) (proposal l c.requires.1 f w e idle))

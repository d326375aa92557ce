-- What looking tells decides, then the phase.
use Rattle.std.proofs.Common.{rules, sym, subst}
use Rattle.std.specs.Prelude.{Result}
use Rattle.model.specs.Calls.{accept}
use Rattle.model.specs.Entry.{Arrays}
use Rattle.model.specs.declared.Lists.{Lists}
use Rattle.model.specs.declared.refusal.Refusal.{Refusal}
use Rattle.model.proofs.Laws.Refused.{handed_on}
use Rattle.call.specs.Calls.{CallAs}
use Rattle.call_room.proofs.Laws.Accepted.{accept_unlooked, accept_asking, accept_again, accept_taken}
use Rattle.call_room.proofs.accept.Goals as goal
use Rattle.call_room.proofs.accept.Goals.{then-lists-ne0-via-then-lists-ne0, then-lists-ne0-via-else-lists-ne0+then-lists-eq1}

pub returns-in_err-looked : goal.returns-in_err-looked
returns-in_err-looked c =
    let ws = c.args.words.now in
    let l = c.args.lists in
    let r = c.in_err-looked.field-0.0 in
    subst (λ (o : Result Lists Refusal). CallAs ws l accept o ws) (sym (handed_on _ r c.from_residual.ensures.1)) (accept_unlooked ws l r c.in_err-looked.ensures)

pub returns-then-lists-ne0 : goal.returns-then-lists-ne0
returns-then-lists-ne0 c =
    let ws = c.args.words.now in
    let l = c.args.lists in
    elim c.then-lists-ne0.branch [
      | then-lists-ne0-via-then-lists-ne0 w ↦ accept_asking ws l c.in_ok-looked.ensures w.if-lists-ne0.true
      | then-lists-ne0-via-else-lists-ne0+then-lists-eq1 w ↦ accept_again ws l c.in_ok-looked.ensures w.if-lists-ne0.false w.if-lists-eq1.true
    ]

pub returns : goal.returns
returns c =
    let l = c.args.lists in
    let f : Arrays l = record { counts = search rules; s = search rules; t = search rules; c = search rules } in
    accept_taken c.args.words.now l c.in_ok-looked.ensures c.if-lists-ne0.false c.if-lists-eq1.false f c.accepting.result c.accepting.ensures

-- What is lent refuses.
use Rattle.std.proofs.Common.{sym, subst}
use Rattle.std.specs.Prelude.{Result}
use Rattle.model.specs.declared.Lists.{Lists}
use Rattle.model.specs.declared.refusal.Refusal.{Refusal}
use Rattle.model.proofs.Laws.Refused.{handed_on}
use Rattle.call.specs.Said.{call_of}
use Rattle.call.specs.Calls.{CallAs}
use Rattle.call.proofs.Laws.Called.{called_lent}
use Rattle.call_room.proofs.tried.made.Goals as goal

pub returns-in_err-lent_fault : goal.returns-in_err-lent_fault
returns-in_err-lent_fault c =
    let s = c.args in
    let r = c.in_err-lent_fault.field-0.0 in
    let k = call_of s.said s.symbols.now in
    subst (λ (o : Result Lists Refusal). CallAs s.words.now s.lists k o s.words.now) (sym (handed_on _ r c.from_residual.ensures.1)) (called_lent s.words.now s.lists k r c.in_err-lent_fault.ensures)

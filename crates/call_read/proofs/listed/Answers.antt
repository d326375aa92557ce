-- What is lent refuses, and leaves the output.
use Rattle.std.proofs.Common.{ap, sym, ◌∙◌, length}
use Rattle.model.specs.Calls.{emits}
use Rattle.model.specs.Entry.{emitted_by, out_by}
use Rattle.model.specs.Refusals.{reason_number, emitted_as}
use Rattle.model.proofs.Laws.Refused.{number_some, handed_on}
use Rattle.call.proofs.Laws.LentFault.{lent_refused}
use Rattle.call_read.proofs.listed.Goals as goal

pub returns-in_err-lent_fault-clause-value : goal.returns-in_err-lent_fault-clause-value
returns-in_err-lent_fault-clause-value c =
    let s = c.args in
    let r = c.in_err-lent_fault.field-0.0 in
    ap emitted_as (handed_on _ r c.from_residual.ensures.1) ∙
    sym (ap emitted_by (lent_refused s.words.now s.lists (emits (length s.out.now)) (reason_number r) c.in_err-lent_fault.ensures (number_some r)))

pub returns-in_err-lent_fault-clause-bytes : goal.returns-in_err-lent_fault-clause-bytes
returns-in_err-lent_fault-clause-bytes c =
    let s = c.args in
    let r = c.in_err-lent_fault.field-0.0 in
    sym (ap (out_by s.out.now) (lent_refused s.words.now s.lists (emits (length s.out.now)) (reason_number r) c.in_err-lent_fault.ensures (number_some r)))

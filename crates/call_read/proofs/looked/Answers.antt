-- What looking at the used rows tells is what looking tells.
use Rattle.std.proofs.Common.{ap, sym, ◌∙◌}
use Rattle.model.specs.Calls.{looks}
use Rattle.model.specs.Entry.{seen_by}
use Rattle.model.specs.Refusals.{reason_number}
use Rattle.model.proofs.Laws.Refused.{number_some, handed_on}
use Rattle.call.proofs.Laws.LentFault.{size_lent, lists_lent, lent_refused}
use Rattle.call_read.specs.Read.{looked_seen}
use Rattle.call_read.proofs.Laws.Used.{read_same, part_unsound, part_sound}
use Rattle.call_read.proofs.looked.Goals as goal

pub returns-in-None : goal.returns-in-None
returns-in-None c =
    let ws = c.args.words.now in
    let l = c.args.lists in
    let e = sym c.in_ok-lent_fault.ensures in
    let s = size_lent ws l e in
    let f = lists_lent ws l e in
    part_unsound ws l s f (read_same ws l s f c.words_read.result c.words_read.ensures) c.in-None.ensures.0

pub returns-in-Some : goal.returns-in-Some
returns-in-Some c =
    let ws = c.args.words.now in
    let l = c.args.lists in
    let e = sym c.in_ok-lent_fault.ensures in
    let s = size_lent ws l e in
    let f = lists_lent ws l e in
    part_sound ws l s f (read_same ws l s f c.words_read.result c.words_read.ensures) c.in-Some.ensures.4.sound

pub returns-in_err-lent_fault : goal.returns-in_err-lent_fault
returns-in_err-lent_fault c =
    let ws = c.args.words.now in
    let l = c.args.lists in
    let r = c.in_err-lent_fault.field-0.0 in
    ap (looked_seen l) (handed_on _ r c.from_residual.ensures.1) ∙ sym (ap seen_by (lent_refused ws l looks (reason_number r) c.in_err-lent_fault.ensures (number_some r)))

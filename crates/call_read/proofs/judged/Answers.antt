-- The verdict on the used rows is the verdict.
use Rattle.std.proofs.Common.{◌≡◌, rules, ap, sym, ◌∙◌, take}
use Rattle.model.specs.Calls.{judges}
use Rattle.model.specs.Entry.{judged_by, judge_seen}
use Rattle.model.specs.Refusals.{reason_number, verdict_as}
use Rattle.model.proofs.Laws.Refused.{number_some, handed_on}
use Rattle.call.proofs.Laws.LentFault.{size_lent, lists_lent, lent_refused}
use Rattle.call_read.proofs.Laws.Used.{read_same, part_unjudged}
use Rattle.call_read.proofs.judged.Goals as goal

pub returns-in_err-lent_fault : goal.returns-in_err-lent_fault
returns-in_err-lent_fault c =
    let ws = c.args.words.now in
    let l = c.args.lists in
    let xs = c.args.symbols.now in
    let r = c.in_err-lent_fault.field-0.0 in
    ap verdict_as (handed_on _ r c.from_residual.ensures.1) ∙ sym (ap (judged_by xs) (lent_refused ws l (judges xs) (reason_number r) c.in_err-lent_fault.ensures (number_some r)))

pub returns-in-None : goal.returns-in-None
returns-in-None c =
    let ws = c.args.words.now in
    let l = c.args.lists in
    let e = sym c.in_ok-lent_fault.ensures in
    let s = size_lent ws l e in
    let f = lists_lent ws l e in
    part_unjudged ws l s f (read_same ws l s f c.words_read.result c.words_read.ensures) c.in-None.ensures.0 c.args.symbols.now

pub returns-in-Some : goal.returns-in-Some
returns-in-Some c =
    let ws = c.args.words.now in
    let l = c.args.lists in
    let e = sym c.in_ok-lent_fault.ensures in
    let s = size_lent ws l e in
    let f = lists_lent ws l e in
    let part : verdict_as c.in-Some.verdict ≡ judge_seen (take c.words_read.result ws) l c.args.symbols.now = search rules in
    part ∙ (read_same ws l s f c.words_read.result c.words_read.ensures).judged c.args.symbols.now

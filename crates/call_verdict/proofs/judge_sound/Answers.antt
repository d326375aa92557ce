-- A line that applies refuses; else the tables are left, and the verdict of their automaton is told.
use Rattle.std.proofs.Common.{ap, sym, ◌∙◌}
use Rattle.model.specs.Entry.{judged_as, judged_by}
use Rattle.model.specs.Refusals.{reason_number, verdict_as}
use Rattle.model.proofs.Laws.Refused.{number_some, handed_on}
use Rattle.call_verdict.proofs.Laws.Judging.{none_applies, judged_refused, judged_taken}
use Rattle.call_verdict.proofs.judge_sound.Goals as goal

pub returns-in_err-judge_fault : goal.returns-in_err-judge_fault
returns-in_err-judge_fault c =
    let s = c.args in
    let r = c.in_err-judge_fault.field-0.0 in
    let e = judged_refused s.words.now s.lists s.symbols.now c.requires.0 c.requires.1 c.requires.2 (reason_number r) (c.in_err-judge_fault.ensures s.words.now) (number_some r) in
    ap verdict_as (handed_on _ r c.from_residual.ensures.1) ∙ sym (ap (judged_by s.symbols.now) e)

pub verdict_of-requires : goal.verdict_of-requires
verdict_of-requires c =
    let s = c.args in
    let n = none_applies s.words.now s.lists s.symbols.now (sym (c.in_ok-judge_fault.ensures s.words.now)) in
    (c.requires.1, c.requires.3, c.requires.4 n.0, n.1)

pub returns : goal.returns
returns c =
    let s = c.args in
    let e = judged_taken s.words.now s.lists s.symbols.now c.requires.0 c.requires.1 c.requires.2 (sym (c.in_ok-judge_fault.ensures s.words.now)) in
    ap judged_as c.verdict_of.ensures ∙ sym (ap (judged_by s.symbols.now) e)

-- `text_print::tell::tell` meets its contract: each test picks the line that it picks in the definition.
use Rattle.std.proofs.Common.{rules}
use Rattle.model.specs.Entry.{store_of}
use Rattle.text.specs.Lines.{seen_text}
use Rattle.text_print.specs.Writing.{Wrote}
use Rattle.text_print.proofs.Laws.Runs.{wrote_then, wrote_as, wrote_end, wrote_over}
use Rattle.text_print.proofs.Laws.Seen.{seen_refused, seen_accepted, seen_question, seen_proposal}
use Rattle.text_print.proofs.tell.tell.Goals.{then-seen-ne0, else-seen-ne0+then-seen-eq2, else-seen-ne0+else-seen-eq2+then-seen-eq1, else-seen-ne0+else-seen-eq2+else-seen-eq1}
use Rattle.text_print.proofs.tell.tell.Goals as goal

pub returns-clause-out : goal.returns-clause-out
returns-clause-out c =
    let s = c.args in
    let x = store_of s.words.now s.counts.now s.used in
    let e = c.end.ensures.written in
    let w : Wrote (seen_text s.letters.now x s.seen) c.new-line.result c.end.new.self = elim c.if-seen-ne0.branch [
      | then-seen-ne0 w ↦ wrote_as (seen_refused s.letters.now x s.seen w.if-seen-ne0.true) (wrote_end (wrote_then w.put.ensures w.put_number.ensures.written) w.line-is e)
      | else-seen-ne0+then-seen-eq2 w ↦ wrote_as (seen_accepted s.letters.now x s.seen w.if-seen-ne0.false w.if-seen-eq2.true) (wrote_end w.put-then-seen-eq2.ensures w.line-is e)
      | else-seen-ne0+else-seen-eq2+then-seen-eq1 w ↦
          wrote_as (seen_question s.letters.now x s.seen w.if-seen-ne0.false w.if-seen-eq1.true) (wrote_end (wrote_then w.put-then-seen-eq1.ensures w.put_question.ensures.written) w.line-is e)
      | else-seen-ne0+else-seen-eq2+else-seen-eq1 w ↦
          wrote_as (seen_proposal s.letters.now x s.seen w.if-seen-ne0.false w.if-seen-eq2.false w.if-seen-eq1.false)
          (wrote_end (wrote_then (wrote_then (wrote_then w.put-else-seen-eq1.ensures w.put_number-else-seen-eq1.ensures.written) w.put_number-else-seen-eq1-2.ensures.written) w.put_number-else-seen-eq1-3.ensures.written) w.line-is e)
    ] in
    let h = wrote_over c.new-line.ensures.start w in
    search (rules, h)

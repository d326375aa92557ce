-- What a call leaves can be told, and is what is heard.
use Rattle.std.proofs.Common.{sym, ◌∙◌}
use Rattle.model.specs.Calls.{answers, accept}
use Rattle.text_reply.proofs.Laws.Hearing.{heard_line, made_tellable, made_heard}
use Rattle.text_reply.proofs.later.Goals as goal

pub made-requires : goal.made-requires
made-requires c =
    let d = c.answer-answered in
    (d.ensures.fit, made_tellable c.args.words.now c.args.script (answers c.in-Answer.mark) d.result d.new.words d.ensures, c.requires)

pub made-requires-in-Accept : goal.made-requires-in-Accept
made-requires-in-Accept c =
    let d = c.accept-accepted in
    (d.ensures.fit, made_tellable c.args.words.now c.args.script accept d.result d.new.words d.ensures, c.requires)

pub returns-in-Answer : goal.returns-in-Answer
returns-in-Answer c =
    let d = c.answer-answered in
    heard_line c.args.words.now c.args.script c.args.line.now (sym c.in-Answer.is ∙ c.asked_of.ensures)
    (made_heard c.args.words.now c.args.script (answers c.in-Answer.mark) d.result d.new.words d.ensures c.made.ensures)

pub returns-in-Accept : goal.returns-in-Accept
returns-in-Accept c =
    let d = c.accept-accepted in
    heard_line c.args.words.now c.args.script c.args.line.now (sym c.in-Accept.is ∙ c.asked_of.ensures)
    (made_heard c.args.words.now c.args.script accept d.result d.new.words d.ensures c.made-in-Accept.ensures)

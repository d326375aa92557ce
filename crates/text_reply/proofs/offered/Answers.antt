-- Where it got 32 with the verdict on its record; the offer leaves the lists.
use Rattle.std.proofs.Common.{sym, ◌∙◌}
use borrow.Author.Tests.{eqb-true}
use Rattle.model.specs.Refusals.{refused_by}
use Rattle.text_reply.proofs.Laws.Hearing.{told_agreed}
use Rattle.text_reply.proofs.offered.Goals as goal

pub returns-then-agrees : goal.returns-then-agrees
returns-then-agrees c =
    let s = c.args in
    told_agreed s.words.now s.script s.symbols.now s.done (eqb-true (refused_by s.done) 32 (sym c.agrees.ensures ∙ c.if-agrees.true)) c.agreed.ensures

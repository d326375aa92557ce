-- `table::state_of` meets its contract, by the laws of Growth: an equal row ends it, another one leaves the rest to decide.
use Rattle.std.proofs.Common.{◌≡◌, sym, ◌∙◌, take, arith}
use Rattle.std.proofs.Math.Seq.{length-take-le}
use Rattle.table.specs.Answers.{answers_at}
use Rattle.table.proofs.Laws.Growth as G
use Rattle.table.proofs.state_of.Goals as goal

pub returns-then-same_answers : goal.returns-then-same_answers
returns-then-same_answers c =
    let a = c.args in
    let row = answers_at a.table.now a.contexts in
    let same = c.same_answers in
    sym (G.state_hit row (row a.a) (take a.states a.s_in_t.now) c.loop-q.q same.result c.loop-q-test.true same.ensures c.if-same_answers.true) ∙ c.loop-q.invariant

pub loop-q-preserved : goal.loop-q-preserved
loop-q-preserved c =
    let a = c.args in
    let row = answers_at a.table.now a.contexts in
    let same = c.same_answers in
    sym (G.state_pass row (row a.a) (take a.states a.s_in_t.now) c.loop-q.q same.result c.loop-q-test.true same.ensures c.if-same_answers.false) ∙ c.loop-q.invariant

pub returns : goal.returns
returns c =
    let a = c.args in
    let row = answers_at a.table.now a.contexts in
    let q = c.loop-q.q in
    let long = length-take-le a.states a.s_in_t.now (omega arith) in
    let end : a.states ≡ q = omega arith in
    end ∙ sym (G.state_end row (row a.a) (take a.states a.s_in_t.now) q c.loop-q-test.false) ∙ c.loop-q.invariant

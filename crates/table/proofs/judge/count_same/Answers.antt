-- `judge::count_same` meets its contract: each representative counts if it has the row.
use Rattle.std.proofs.Common.{take, arith}
use Rattle.table.specs.Answers.{answers_at}
use Rattle.table.proofs.Laws.Judge.{count_hit, count_pass, count_end}
use Rattle.table.proofs.judge.count_same.Goals as goal
use Rattle.table.proofs.judge.count_same.Goals.{then-same_answers, else-same_answers}

pub loop-p-preserved : goal.loop-p-preserved
loop-p-preserved c =
    let a = c.args in
    let row = answers_at a.table.now a.contexts in
    let l = c.loop-p in
    let same = c.same_answers in
    elim c.if-same_answers.branch [
      | then-same_answers w ↦
          let e = count_hit (row a.a) row (take a.states a.s_in_t.now) l.p-index same.result c.loop-p-test.true same.ensures w.if-same_answers.true in
          record { few = omega (arith, w.n-is, l.invariant.few); counted = omega (arith, e, w.n-is, l.invariant.counted) }
      | else-same_answers w ↦
          let e = count_pass (row a.a) row (take a.states a.s_in_t.now) l.p-index same.result c.loop-p-test.true same.ensures w.if-same_answers.false in
          record { few = omega (arith, w.n-is, l.invariant.few); counted = omega (arith, e, w.n-is, l.invariant.counted) }
    ]

pub returns : goal.returns
returns c =
    let a = c.args in
    let row = answers_at a.table.now a.contexts in
    let l = c.loop-p in
    omega (arith, count_end (row a.a) row (take a.states a.s_in_t.now) l.p-index c.loop-p-test.false, l.invariant.counted)

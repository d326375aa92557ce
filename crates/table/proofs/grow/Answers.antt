-- `table::grow` meets its contract, by the laws of Growth (Growing): a row that S has passes, one that it has not takes the next place,
-- and with 32 there is none left.
use Rattle.std.proofs.Common.{refl, sym, take}
use Rattle.table.proofs.Laws.Growth as G
use Rattle.table.proofs.grow.Goals as goal
use Rattle.table.proofs.grow.Goals.{then-q-n+else-n-eq-MOST_STATES, else-q-n}

pub returns-then-n-eq-MOST_STATES-clause-grown_by : goal.returns-then-n-eq-MOST_STATES-clause-grown_by
returns-then-n-eq-MOST_STATES-clause-grown_by c =
    let l = c.loop-k in
    G.grown_none (G.growing_full l.invariant c.state_of-q.result.0 c.loop-k-test.true c.state_of-q.ensures c.if-q-n.true c.if-n-eq-MOST_STATES.true)

pub loop-k-preserved : goal.loop-k-preserved
loop-k-preserved c =
    let l = c.loop-k in
    let q = c.state_of-q in
    elim c.if-q-n.branch [
      | then-q-n+else-n-eq-MOST_STATES w ↦ rw (w.s-is, w.n-is) (G.growing_new l.invariant q.result.0 c.loop-k-test.true q.ensures w.if-q-n.true w.if-n-eq-MOST_STATES.false)
      | else-q-n w ↦ rw (w.s-is, w.n-is) (G.growing_seen l.invariant q.result.0 c.loop-k-test.true q.ensures w.if-q-n.false)
    ]

pub returns-clause-grown_by : goal.returns-clause-grown_by
returns-clause-grown_by c =
    let l = c.loop-k in
    G.grown_some (take l.n l.s) (record { states = l.n; s = l.s }) (G.growing_end l.invariant c.loop-k-test.false) refl (sym (G.many l.invariant))

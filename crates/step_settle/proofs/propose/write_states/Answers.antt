-- `propose::write_states`: one member more, at a place that is one of T.
use mathlib.Core.Path.{◌≡◌, ap, ◌∙◌}
use Prim.Native.Nat.{ℕ}
use native.Mathlib.Omega.{arith}
use lib.ListN.{take, length-set}
use Rattle.model.specs.Base.{over}
use Rattle.table.specs.Answers.{rows_at}
use Rattle.step_settle.proofs.Laws.States.{states_more}
use Rattle.step_settle.proofs.propose.write_states.Goals as goal

pub loop-i-preserved : goal.loop-i-preserved
loop-i-preserved c =
    let l = c.loop-i in
    (length-set l.s l.i _ ∙ l.invariant.0, states_more c.args.t.now c.args.s_in_t.now c.args.s.now l.i (omega arith) (omega arith) l.invariant.1)

pub returns : goal.returns
returns c =
    let e : c.loop-i.i ≡ c.args.states = omega arith in
    c.loop-i.invariant.1 ∙ ap (λ (n : ℕ). over (rows_at c.args.t.now (take n c.args.s_in_t.now)) c.args.s.now) e

-- `table_verdict::find_reps` meets its contract. A state past the last one has no representative: its row keeps the 0.
use Rattle.std.proofs.Common.{rules, arith, refl, sym, ap, ◌∙◌, ℕ, get_or, take, length, ◌<◌, ◌≤◌}
use Rattle.std.proofs.Math.ListN.{get_or-eq_default}
use Rattle.std.proofs.lemmas.List.{get_or-replicate, get_or_default}
use borrow.Author.Tests.{ltb-true, ltb-false}
use Rattle.table_verdict.proofs.Laws.Reps as R
use Rattle.table_verdict.proofs.find_reps.Goals as goal
use Rattle.table_verdict.proofs.find_reps.Goals.{in-Some, in_default}

pub loop-k-init : goal.loop-k-init
loop-k-init c =
    R.reps_start c.args.table.now c.args.contexts (take (length c.args.s.now) c.args.s_in_t.now) c.args.s.now c.args.t.now c.fill.new.self
    (R.all_zero c.fill.new.self (length c.args.reps.now) (search rules) (λ j l. rw (c.fill.ensures.after (search rules)) (get_or-replicate (length c.args.reps.now) j 0 0 l)))

pub loop-k-preserved : goal.loop-k-preserved
loop-k-preserved c =
    let ps = take (length c.args.s.now) c.args.s_in_t.now in
    let s = c.args.s.now in
    let t = c.args.t.now in
    let q = c.state_of-q.result.0 in
    let e = ap (λ (q : ℕ). get_or s q 0) c.state_of-q.ensures in
    let small : get_or t c.loop-k.k 0 < length c.loop-k.reps = omega (arith, c.requires.4 c.loop-k.k) in
    elim c.match-get.branch [
      | in-Some w ↦
          let l : q < length s = ltb-true q (length s) (sym w.in-Some.ensures.lookup.0) in
          rw w.reps-is
          (R.reps_noted c.args.table.now c.args.contexts ps s t c.loop-k.invariant c.loop-k-test.true c.requires.5 (get_or t c.loop-k.k 0) _ refl
          (w.in-Some.ensures.lookup.1 ∙ get_or_default s q w.in-Some.rep.now 0 l ∙ e) small)
      | in_default w ↦
          let l : length s ≤ q = omega (arith, ltb-false q (length s) (sym w.in_default.ensures.lookup.0)) in
          rw w.reps-is (R.reps_passed c.args.table.now c.args.contexts ps s t c.loop-k.invariant c.loop-k-test.true c.requires.5 (sym e ∙ get_or-eq_default s 0 l))
    ]

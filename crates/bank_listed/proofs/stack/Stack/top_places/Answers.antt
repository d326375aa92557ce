-- `Stack::top_places`: the rows stand in the array in order from `height - count` on.
use Rattle.std.proofs.Common.{◌≡◌, ℕ, List, ◌<◌, ◌-◌, slice_set, length, take, drop, sym, ap, ◌∙◌, arith, rules, length-set, length-drop, get_or-drop}
use Rattle.model.specs.Limits.{most_listed}
use Rattle.model.specs.Base.{top}
use Rattle.model.specs.Store.{padded}
use Rattle.bank_listed.proofs.Laws.ArrayStack.{stack_high, stack_top, places_more}
use Rattle.bank_listed.proofs.stack.Stack.top_places.Goals as goal

pub overflow_sub-self-inside : goal.overflow_sub-self-inside
overflow_sub-self-inside c = omega (arith, c.requires.1, stack_high c.self.inside.rows c.self.inside.height c.self.view_is (search rules) c.self.invariant)

pub loop-k-preserved : goal.loop-k-preserved
loop-k-preserved c =
    let l = c.loop-k in
    let q = c.self.inside in
    let long : length q.rows ≡ most_listed = search rules in
    let high = stack_high q.rows q.height c.self.view_is long c.self.invariant in
    let ks : List ℕ = drop (q.height - c.args.count) q.rows in
    let v = c.from.ensures ∙ sym (get_or-drop (q.height - c.args.count) q.rows l.k 0) in
    let h : l.k < length ks = rw length-drop (omega (arith, long, high, c.self.invariant, c.requires.1, c.loop-k-test.true)) in
    (simp length-set l.invariant.0, (λ t. slice_set (l.invariant.1 t) l.k (v t)) ∙ places_more ks l.k h (omega (arith, c.requires.0, c.loop-k-test.true)))

pub returns : goal.returns
returns c =
    let q = c.self.inside in
    let long : length q.rows ≡ most_listed = search rules in
    let high = stack_high q.rows q.height c.self.view_is long c.self.invariant in
    let e : c.loop-k.k ≡ c.args.count = omega (arith, c.loop-k-test.false) in
    let topmost = stack_top q.rows q.height c.args.count (omega (arith, long, c.self.invariant)) (omega (arith, high, c.requires.1)) in
    c.loop-k.invariant.1 ∙ ap (λ n. padded (take n (drop (q.height - c.args.count) q.rows))) e ∙
    ap padded (sym topmost ∙ ap (top c.args.count) c.self.view_is)

-- The loop of `Stack::top_places`: the first k of the topmost rows stand in the first places, and 0 in the others.
-- In the array they stand in order from `height - count` on.
use Rattle.std.proofs.Common.{◌≡◌, ◌-◌, take, drop, length}
use Rattle.model.specs.Store.{padded}
use Rattle.bank_listed.proofs.stack.Stack.top_places.Given as goal

abbrev pub invariant-loop-k : goal.invariant-loop-k
invariant-loop-k l =
    let q = l.self-inside in
    (length l.places ≡ 4) × (l.places ≡ padded (take l.k (drop (q.height - l.fn.count) q.rows)))

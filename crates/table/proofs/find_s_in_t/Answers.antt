-- `table::find_s_in_t` meets its contract, by the laws of a place in a list.
use Rattle.std.proofs.Common.{sym, subst, ℕ, ◌+◌, set, arith}
use Rattle.table.proofs.Laws.InT.{Finding, place_found, place_next}
use Rattle.table.proofs.find_s_in_t.Goals as goal

pub overflow_cast-s_in_t : goal.overflow_cast-s_in_t
overflow_cast-s_in_t c =
    let a = c.args in
    let p = place_found a.s.now a.t.now c.requires.3 c.loop-i.i c.loop-i-test.true in
    omega (arith, c.place_of.ensures, p.0)

pub loop-i-preserved : goal.loop-i-preserved
loop-i-preserved c =
    let a = c.args in
    let n = place_next a.s.now a.t.now c.requires.3 c.requires.0 c.loop-i.invariant c.loop-i-test.true in
    subst (λ (p : ℕ). Finding a.s.now a.t.now (set c.loop-i.s_in_t c.loop-i.i p) (c.loop-i.i + 1)) (sym c.place_of.ensures) n

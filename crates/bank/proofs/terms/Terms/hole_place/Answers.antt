-- `Terms::hole_place` meets its contract: the mark of a row with a hole is the place of a child, plus one.
use Rattle.std.proofs.Common.{◌-◌, ℕ, ap, arith}
use Rattle.bank.proofs.Laws.HoleKid.{hole_step}
use Rattle.bank.proofs.terms.Terms.hole_place.Goals as goal

pub returns : goal.returns
returns c =
    let q = rw (← c.self.view_is) at c.requires in
    let s = hole_step c.self.invariant c.args.row.0 q.0 q.1 in
    let e = ap (λ (k : ℕ). k - 1) c.hole_of-mark.ensures in
    rw (← c.self.view_is) (record { place = (e, omega (arith, e, s.within), omega (arith, s.before)); ready = c.self.invariant })

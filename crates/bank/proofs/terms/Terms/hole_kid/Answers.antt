-- `Terms::hole_kid` meets its contract: the word at the place of the hole is the child there, an earlier row.
use Rattle.std.proofs.Common.{◌∙◌, arith}
use Rattle.bank.proofs.Laws.HoleKid.{hole_read}
use Rattle.bank.proofs.terms.Terms.hole_kid.Goals as goal

pub overflow_cast-result : goal.overflow_cast-result
overflow_cast-result c =
    let q = rw (← c.self.view_is) at c.requires in
    let p = rw (← c.self.view_is) at c.hole_place.ensures.place in
    let k = hole_read c.self.invariant c.args.row.0 q.0 q.1 c.hole_place.result p.0 in
    omega (arith, c.kid_of-kid.ensures, k.0, k.1, q.0, c.self.invariant.finding.few)

pub returns : goal.returns
returns c =
    let q = rw (← c.self.view_is) at c.requires in
    let p = rw (← c.self.view_is) at c.hole_place.ensures.place in
    let k = hole_read c.self.invariant c.args.row.0 q.0 q.1 c.hole_place.result p.0 in
    rw (← c.self.view_is) (record { kid = (c.kid_of-kid.ensures ∙ k.0, omega (arith, c.kid_of-kid.ensures, k.1)); ready = c.self.invariant })

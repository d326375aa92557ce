-- `run_lists::no_repeats` meets its contract: what is left of the list decides.
use Rattle.std.proofs.lemmas.List.{nil_from_length}
use Rattle.model.specs.Base.{no_repeats}
use Rattle.run_lists.proofs.no_repeats.Goals as goal

pub returns-then-is_among : goal.returns-then-is_among
unfolding no_repeats
returns-then-is_among c =
    let e = c.in-Some.ensures.cases.0 in
    rw (c.loop-x.invariant, e, ← c.is_among.ensures, c.if-is_among.true)

pub loop-x-preserved : goal.loop-x-preserved
unfolding no_repeats
loop-x-preserved c =
    let e = c.in-Some.ensures.cases.0 in
    rw (c.loop-x.invariant, e, ← c.is_among.ensures, c.if-is_among.false)

pub returns : goal.returns
unfolding no_repeats
returns c =
    let e = nil_from_length _ c.in_default.ensures.cases in
    rw (c.loop-x.invariant, e)

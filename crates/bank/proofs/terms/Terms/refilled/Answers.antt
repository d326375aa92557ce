-- `Terms::refilled` meets its contract: the child exchanged is the one with the hole.
use Rattle.bank.proofs.terms.Terms.refilled.Goals as goal

pub exchanged-requires : goal.exchanged-requires
exchanged-requires c = (c.hole_place-place.ensures.place.2, c.requires.0, c.hole_place-place.ensures.place.1)

-- `propose::proposed` meets its contract: S by its places in T is grown by places, which is its growth by rows, and written back.
use Rattle.std.proofs.Common.{refl, ap, rules, Ok}
use Rattle.model.specs.Entry.{Arrays}
use Rattle.step_settle.proofs.Laws.States.{proposes_none, proposes_some}
use Rattle.step_settle.proofs.propose.proposed.Goals as goal

pub returns-in_default : goal.returns-in_default
returns-in_default c =
    let a : Arrays c.args.lists = record { counts = search rules; s = search rules; t = search rules; c = search rules } in
    let e = rw (c.state_rows.ensures, c.rule_rows-t.ensures) at c.find_s_in_t.ensures in
    let g = rw c.in_default.is at c.grow.ensures.grown_by in
    proposes_none c.requires.0 a e.0 e.1 _ g refl

pub returns : goal.returns
returns c =
    let a : Arrays c.args.lists = record { counts = search rules; s = search rules; t = search rules; c = search rules } in
    let e = rw (c.state_rows.ensures, c.rule_rows-t.ensures) at c.find_s_in_t.ensures in
    let g = c.in-Some.ensures in
    proposes_some c.requires.0 a e.0 e.1 _ c.in-Some.grown g.grown_by g.below (rw c.rule_rows-t.ensures at c.write_states.ensures) (ap Ok c.proposing.ensures)

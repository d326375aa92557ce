-- `call_read::read_in` meets its contract: of sound tables the step gets an index and the representatives, which give the proposal.
use Rattle.std.proofs.Common.{rules, refl, sym, ◌∙◌}
use Rattle.model.specs.Entry.{Arrays}
use Rattle.call_read.proofs.Laws.Reads.{read_by}
use Rattle.call_read.proofs.read_in.Goals as goal

pub step-requires : goal.step-requires
step-requires g c =
    let a : Arrays c.args.lists = record { counts = search rules; s = search rules; t = search rules; c = search rules } in
    let e = c.if-not-lists_sound.false in
    c.requires.3 _ _ _ (read_by c.args.words.now c.args.lists c.requires.0 c.requires.1 a (c.lists_sound.ensures.working e) (sym c.lists_sound.ensures.value ∙ e) c.column.ensures)

pub returns : goal.returns
returns g c =
    let a : Arrays c.args.lists = record { counts = search rules; s = search rules; t = search rules; c = search rules } in
    let e = c.if-not-lists_sound.false in
    (_, _, _, _, read_by c.args.words.now c.args.lists c.requires.0 c.requires.1 a (c.lists_sound.ensures.working e) (sym c.lists_sound.ensures.value ∙ e) c.column.ensures, refl, c.step.ensures, refl)

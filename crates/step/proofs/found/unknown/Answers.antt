-- `found::unknown`: the frames along the way down are filled with the representative, and the row that comes of it is asked for.
use native.Mathlib.Omega.{arith}
use borrow.Author.Rules.{rules}
use Rattle.model.specs.Entry.{Arrays}
use Rattle.bank.proofs.Laws.Words.{used_of}
use Rattle.run_lists.specs.Members.{counts_in}
use Rattle.step_settle.proofs.Laws.Ends.{question_ends}
use Rattle.step.proofs.found.unknown.Goals as goal

pub fill-added-requires : goal.fill-added-requires
fill-added-requires c =
    let r = c.requires in
    rw c.alphabet.ensures (r.0, r.2, omega (arith, r.3.within, used_of c.args.words.now (counts_in c.args.lists) c.args.lists.used), r.4, r.5)

pub returns : goal.returns
returns c =
    let a : Arrays c.args.lists = record { counts = search rules; s = search rules; t = search rules; c = search rules } in
    let r = c.requires in
    (question_ends r.1 a _ r.5 c.args.hand.0 c.args.rep.0 r.4 c.opened.result c.fill-added.result (record { came = rw c.alphabet.ensures at c.fill-added.ensures }) c.opened.ensures).ended

-- `call_take::take::given` meets its contract: by what was said.
use mathlib.Core.Path.{sym, ap, ◌∙◌}
use borrow.Author.Rules.{rules}
use Rattle.call.specs.declared.Said.{Said}
use Rattle.call_take.specs.Taken.{given_by}
use Rattle.call_take.proofs.take.given.Statement.{statement}
use Rattle.call_take.proofs.take.given.Tie as tie

enum_told : tie.Need-enum_told-1
enum_told c = search rules

closed-requires : tie.Need-closed-requires
closed-requires c κs = search rules

enum-told-2 : tie.Need-enum_told-in-Offer
enum-told-2 c = search rules

taken-up-requires : tie.Need-taken_up-requires
taken-up-requires c κs = search rules

returns : tie.Need-returns-in-Answer
returns c =
    let s : tie.Start = c.before.before in
    c.closed.ensures ∙ ap (λ (k : Said). given_by s.args.lists k s.args.row.0 s.args.used) (sym c.in-Answer.is)

returns-2 : tie.Need-returns-in-Offer
returns-2 c =
    let s : tie.Start = c.before.before in
    c.taken_up.ensures ∙ ap (λ (k : Said). given_by s.args.lists k s.args.row.0 s.args.used) (sym c.in-Offer.is)

pub given_spec : {M : Type 1} → statement M
given_spec = tie.close (tie.spec enum_told closed-requires enum-told-2 taken-up-requires returns returns-2)

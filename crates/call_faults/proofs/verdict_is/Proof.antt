-- `call_faults::verdict_is` meets its contract: the verdict is yes or no, and so is the mark.
use mathlib.Core.Path.{ap, ◌∙◌}
use borrow.Author.Rules.{rules}
use Rattle.model.specs.Automata.{is_yes}
use Rattle.model.specs.Entry.{tables_of}
use Rattle.call_faults.proofs.Laws.OfferLines.{verdict_marked}
use Rattle.call_faults.proofs.verdict_is.Statement.{statement}
use Rattle.call_faults.proofs.verdict_is.Tie as tie

verdict-of-requires : tie.Need-verdict_of-verdict-requires
verdict-of-requires c κs =
    let s : tie.Start = c.before.before.before.before in
    (s.requires.0, s.requires.1, s.requires.2, s.requires.3.faultless)

is-yes-requires : tie.Need-is_yes-requires
is-yes-requires c κs = search rules

returns : tie.Need-returns
returns c =
    let s : tie.Start = c.before.before.before.before.before.before in
    verdict_marked (tables_of s.args.words.now s.args.lists) s.args.symbols.now s.args.mark c.is_yes.result s.requires.3.mark (c.is_yes.ensures ∙ ap is_yes c.before.verdict_of-verdict.ensures)

pub verdict_is_spec : {M : Type 1} → statement M
verdict_is_spec = tie.close (tie.spec verdict-of-requires is-yes-requires returns)

-- `sound_roles::transitions::kids_in` meets its contract: the first places of a row, as many as its symbol has, are its children.
use Rattle.std.proofs.Common.{rules, tests, arith, ◌∙◌}
use Rattle.std.proofs.lemmas.List.{get_or_default}
use Rattle.std.proofs.lemmas.Iterator.{YieldsList-from_slice}
use Rattle.std.proofs.lemmas.Iterator.Adapters.{serves_from_places}
use Rattle.std.proofs.lemmas.Iterator.Search.{all_from_yields_List}
use Rattle.model.specs.Base.{among}
use Rattle.model.specs.Store.{kids_at}
use Rattle.model.specs.Entry.{store_of}
use Rattle.model.proofs.Laws.Methods.{all_all_among}
use Rattle.bank.proofs.Laws.Children.{bank_stored, kids_counted, row_early}
use Rattle.sound_roles.proofs.transitions.kids_in.Goals as goal

pub all-requires-clause-callable : goal.all-requires-clause-callable
all-requires-clause-callable c =
    let ks = kids_at (store_of c.args.bank.now.words c.args.bank.now.counts c.args.bank.now.used) c.args.row.0 in
    let these = kids_counted (bank_stored c.used.ensures.ready) c.args.row.0 c.requires.1 in
    serves_from_places
    (YieldsList-from_slice ks cc)
    (λ x q k. search (rules, tests))
    (λ x k l e. omega (arith, e, get_or_default ks k x.now 0 l, row_early (bank_stored c.used.ensures.ready) c.args.row.0 c.requires.1 c.requires.0 k l, c.requires.1, c.used.ensures.ready.finding.few))

pub returns : goal.returns
returns c =
    let ks = kids_at (store_of c.args.bank.now.words c.args.bank.now.counts c.args.bank.now.used) c.args.row.0 in
    let these = kids_counted (bank_stored c.used.ensures.ready) c.args.row.0 c.requires.1 in
    let s = c.args.s.now in
    all_from_yields_List (λ x. among x s) _ _ _ c.all.ensures.ran (YieldsList-from_slice ks cc) (λ x b q k. search (rules, tests))
    ∙ all_all_among s ks

-- `take::row_for`: for an answer the row asked about is there and nothing is added; for an offer the record is stored.
use mathlib.Core.Path.{sym, ap, subst, ◌∙◌}
use Rattle.model.specs.Calls.{fault_of}
use Rattle.model.specs.Entry.{tables_of}
use Rattle.model.proofs.Laws.Trees.{record_fault_parses}
use Rattle.model.proofs.Laws.Step.{listed_well}
use Rattle.bank_fill.specs.Adding.{Came, added_row}
use Rattle.bank_fill.proofs.Laws.Coming.{comes_same}
use Rattle.run_lists.specs.Members.{counts_in}
use Rattle.call.specs.declared.Said.{Said}
use Rattle.call.specs.Said.{call_of}
use Rattle.call_take.specs.Taken.{built_for}
use Rattle.call_take.proofs.take.row_for.Goals as goal

pub store-requires : goal.store-requires
store-requires c =
    let x = tables_of c.args.words.now c.args.lists in
    let free = ap (λ (k : Said). fault_of x (call_of k c.args.symbols.now)) (sym c.in-Offer.is) ∙ c.requires.2 in
    let p = record_fault_parses (counts_in c.args.lists) c.args.symbols.now (listed_well x c.args.symbols.now c.in-Offer.field-0 free) in
    rw c.alphabet.ensures (c.requires.1, p.0, p.2)

pub returns-in-Answer : goal.returns-in-Answer
returns-in-Answer c =
    subst (λ (k : Said).
    Came c.args.words.now (counts_in c.args.lists) c.args.lists.used (built_for (tables_of c.args.words.now c.args.lists) k c.args.symbols.now)
    (added_row c.args.lists.asked c.args.lists.used) c.args.words.now c.args.index.now)
    (sym c.in-Answer.is) (comes_same c.requires.1 c.args.lists.asked).came

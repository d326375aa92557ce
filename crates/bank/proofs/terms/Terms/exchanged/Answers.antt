-- `Terms::exchanged` meets its contract: what is looked for is the row with the child at the place exchanged, and row 0 in its place gives row 0.
-- By the laws of Exchanged.
use Rattle.std.proofs.Common.{sym, arith}
use Rattle.model.specs.Entry.{store_of}
use Rattle.bank.specs.Bank.{frame_at}
use Rattle.bank.proofs.Laws.Exchanged.{next_none, child_set}
use Rattle.bank.proofs.terms.Terms.exchanged.Goals as goal

pub returns-then-with-eq0 : goal.returns-then-with-eq0
returns-then-with-eq0 c =
    let x = store_of c.args.self.now.words c.args.self.now.counts c.args.self.now.used in
    (sym (next_none x (frame_at x c.args.row.0 c.args.place) c.args.with.0 c.if-with-eq0.true), omega arith)

pub returns : goal.returns
returns c =
    let q = rw (← c.self.view_is) at c.requires in
    let f = rw (← c.self.view_is, c.from.ensures) at c.find.ensures in
    rw (← c.self.view_is)
    (child_set c.self.invariant c.args.row.0 q.1 q.0 c.args.place q.2 c.symbol_of-symbol.result c.places_of-places.result
    c.symbol_of-symbol.ensures c.places_of-places.ensures c.args.with.0 c.if-with-eq0.false c.find.result.0 f)

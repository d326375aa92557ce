-- `table::first_unknown` meets its contract, by the laws of Gap: a context that is found ends it, and none leaves the rest to decide.
use Rattle.std.proofs.Common.{sym, ◌∙◌}
use Rattle.table.proofs.Laws.Gap as G
use Rattle.table.proofs.first_unknown.Goals as goal

pub returns-in-Some : goal.returns-in-Some
returns-in-Some c =
    let a = c.args in
    sym (G.gap_hit a.table.now a.contexts a.rules c.loop-k.k c.in-Some.context c.loop-k-test.true (sym c.in-Some.is ∙ c.first_in.ensures)) ∙ c.loop-k.invariant

pub loop-k-preserved : goal.loop-k-preserved
loop-k-preserved c =
    let a = c.args in
    sym (G.gap_pass a.table.now a.contexts a.rules c.loop-k.k c.loop-k-test.true (sym c.in_default.is ∙ c.first_in.ensures)) ∙ c.loop-k.invariant

pub returns : goal.returns
returns c =
    let a = c.args in
    sym (G.gap_end a.table.now a.contexts a.rules c.loop-k.k c.loop-k-test.false) ∙ c.loop-k.invariant

-- `table_verdict::verdict_on` meets its contract: where the run gives a state, its representative's answer decides.
use Rattle.table_verdict.proofs.Laws.Accepts as verdict
use Rattle.table_verdict.proofs.verdict_on.Goals as goal

pub verdict_at-requires : goal.verdict_at-requires
verdict_at-requires c = verdict.list_in c.args.bank.now.counts c.used.ensures.ready.finding c.requires.0 c.args.symbols.now c.in-Ok.rep c.in-Ok.ensures

pub returns-in-Ok : goal.returns-in-Ok
returns-in-Ok c = verdict.list_says c.args.bank.now.counts c.used.ensures.ready.finding c.requires.0 c.args.symbols.now c.in-Ok.rep c.in-Ok.ensures c.verdict_at.ensures

-- `call_verdict::verdict_of` meets its contract: the automaton by representatives is the one proposed.
use Rattle.run_lists.specs.Members.{counts_in}
use Rattle.model.proofs.Laws.Trees.{record_fault_parses}
use Rattle.call_verdict.proofs.Laws.Judging.{reps_read, verdict_proposed}
use Rattle.call_verdict.proofs.verdict_of.Goals as goal

pub verdict_on-requires : goal.verdict_on-requires
verdict_on-requires c =
    let p = record_fault_parses (counts_in c.args.lists) c.args.symbols.now c.requires.3 in
    rw (c.new-bank.ensures, c.alphabet.ensures) (reps_read c.args.words.now c.args.lists c.requires.1 c.requires.2, p.0, p.2)

pub returns : goal.returns
returns c =
    let p = record_fault_parses (counts_in c.args.lists) c.args.symbols.now c.requires.3 in
    let v = rw (c.new-bank.ensures, c.alphabet.ensures) at c.verdict_on.ensures in
    verdict_proposed c.args.words.now c.args.lists c.requires.1 c.requires.2 c.args.symbols.now p.0 v

-- `settle::settled` meets its contract: the table of answers is the store's up to its first gap, which is the first unknown answer.
-- Where there is no gap the table is whole, and the automaton is proposed; else the gap's context filled with its transition is asked.
use Rattle.std.proofs.Common.{sym, ◌∙◌, rules, arith}
use Rattle.model.specs.Entry.{Arrays}
use Rattle.step_settle.proofs.Laws.Lists.{noted}
use Rattle.step_settle.proofs.Laws.Settled.{answered, used_rules, are_contexts, contexts_few_law, known, states_among, Worked, worked, closed_sized, closed_ends}
use Rattle.step_settle.proofs.Laws.Settled.{rule_within, context_within, context_used, context_holed, rule_used, open_ends}
use Rattle.step_settle.proofs.settle.settled.Goals as goal

pub observe_to_gap-n-requires : goal.observe_to_gap-n-requires
observe_to_gap-n-requires c =
    let a : Arrays c.args.lists = record { counts = search rules; s = search rules; t = search rules; c = search rules } in
    let run = c.requires.1 in
    rw (c.new-bank.ensures, c.alphabet-counts.ensures, c.rule_rows-t.ensures, c.context_rows-c.ensures)
    (answered run, used_rules run, are_contexts run, contexts_few_law run a, known run a c.requires.3, noted c.requires.0 c.args.notes.now c.requires.2)

pub proposed-requires : goal.proposed-requires
proposed-requires c =
    let a : Arrays c.args.lists = record { counts = search rules; s = search rules; t = search rules; c = search rules } in
    let run = c.requires.1 in
    (run.fit, states_among run, closed_sized run a (worked c.alphabet-counts.ensures c.rule_rows-t.ensures c.context_rows-c.ensures (rw c.new-bank.ensures at c.observe_to_gap-n.ensures)) (sym c.first_unknown.ensures ∙ c.in_default.is))

pub returns-in_default : goal.returns-in_default
returns-in_default c =
    let a : Arrays c.args.lists = record { counts = search rules; s = search rules; t = search rules; c = search rules } in
    (closed_ends c.requires.1 a (worked c.alphabet-counts.ensures c.rule_rows-t.ensures c.context_rows-c.ensures (rw c.new-bank.ensures at c.observe_to_gap-n.ensures)) (sym c.first_unknown.ensures ∙ c.in_default.is) c.requires.4 c.requires.5 c.requires.6 c.proposed.result c.proposed.ensures).ended

pub bounds-c-gap : goal.bounds-c-gap
bounds-c-gap c =
    let a : Arrays c.args.lists = record { counts = search rules; s = search rules; t = search rules; c = search rules } in
    rw c.context_rows-c.ensures (context_within c.requires.1 a (worked c.alphabet-counts.ensures c.rule_rows-t.ensures c.context_rows-c.ensures (rw c.new-bank.ensures at c.observe_to_gap-n.ensures)) (sym c.first_unknown.ensures ∙ c.in-Some.is))

pub bounds-t-gap : goal.bounds-t-gap
bounds-t-gap c =
    let a : Arrays c.args.lists = record { counts = search rules; s = search rules; t = search rules; c = search rules } in
    rw c.rule_rows-t.ensures (rule_within c.requires.1 a (worked c.alphabet-counts.ensures c.rule_rows-t.ensures c.context_rows-c.ensures (rw c.new-bank.ensures at c.observe_to_gap-n.ensures)) (sym c.first_unknown.ensures ∙ c.in-Some.is))

pub fill_context-added-requires : goal.fill_context-added-requires
fill_context-added-requires c =
    let a : Arrays c.args.lists = record { counts = search rules; s = search rules; t = search rules; c = search rules } in
    let run = c.requires.1 in
    let w : Worked c.args.words.now c.args.lists c.observe_to_gap-n.new.table c.observe_to_gap-n.result = worked c.alphabet-counts.ensures c.rule_rows-t.ensures c.context_rows-c.ensures (rw c.new-bank.ensures at c.observe_to_gap-n.ensures) in
    let is = sym c.first_unknown.ensures ∙ c.in-Some.is in
    let room = noted c.requires.0 c.args.notes.now c.requires.2 in
    rw (c.alphabet-counts.ensures, c.rule_rows-t.ensures, c.context_rows-c.ensures)
    (c.requires.0, context_used run a w is, context_holed run a w is, rule_used run a w is, omega (arith, room, c.observe_to_gap-n.auto.notes))

pub returns : goal.returns
returns c =
    let a : Arrays c.args.lists = record { counts = search rules; s = search rules; t = search rules; c = search rules } in
    let is = sym c.first_unknown.ensures ∙ c.in-Some.is in
    (open_ends c.requires.1 a (worked c.alphabet-counts.ensures c.rule_rows-t.ensures c.context_rows-c.ensures (rw c.new-bank.ensures at c.observe_to_gap-n.ensures)) is c.requires.4 c.requires.5 c.requires.6 (record { came = rw (c.alphabet-counts.ensures, c.rule_rows-t.ensures, c.context_rows-c.ensures) at c.fill_context-added.ensures }) c.opened.result c.opened.ensures).ended

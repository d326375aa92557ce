-- `call_emit::emit_proposed` meets its contract: finals and rules are those of the proposed automaton.
-- Their list is put into the output, or 20 told.
use Rattle.std.proofs.Common.{◌∙◌, refl, ◌≤◌, length, rules, arith}
use Rattle.model.specs.Limits.{most_rules}
use Rattle.model.specs.Entry.{Arrays}
use Rattle.model.proofs.Laws.Lent.{lists_fit_facts}
use Rattle.run_lists.specs.Members.{rules_in}
use Rattle.run_lists.proofs.Laws.Arrays.{rules_told}
use Rattle.call_emit.proofs.Laws.Proposed.{reps_used, proposal_is}
use Rattle.call_emit.proofs.Laws.Emitting.{listed}
use Rattle.call_emit.proofs.emit_proposed.Goals as goal

pub write_finals-requires : goal.write_finals-requires
write_finals-requires c =
    let p = c.requires.4 in
    rw c.state_rows-s.ensures (p.rows.room, p.ruled.few, reps_used c.args.lists p, refl)

pub returns : goal.returns
returns c =
    let r = c.requires in
    let l = c.args.lists in
    let a : Arrays c.args.lists = record { counts = search rules; s = search rules; t = search rules; c = search rules } in
    let few : length (rules_in c.args.lists) ≤ most_rules = omega (arith, rules_told r.1 a, (lists_fit_facts l r.1).rules) in
    let f = rw c.state_rows-s.ensures at c.write_finals.ensures in
    let w = rw (c.alphabet-counts.ensures, c.state_rows-s.ensures, c.rule_rows-t.ensures) at c.write_rules.ensures in
    let k = rw (c.alphabet-counts.ensures, c.state_rows-s.ensures, c.rule_rows-t.ensures) at c.write_listed.ensures in
    let e = listed c.args.words.now l c.args.out.now r.0 r.1 r.2 r.3 _ (proposal_is l r.4 few _ _ f.0 w) in
    record { value = k.result_value ∙ e.0; bytes = k.bytes ∙ e.1 }

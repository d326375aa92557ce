-- `found::new_transition`: a transition more than the most is short of them, and else the record is put down over the lists with it.
use mathlib.Core.Path.{◌≡◌, refl, ap}
use Prim.Native.Nat.{◌<◌}
use native.Mathlib.Omega.{arith}
use borrow.Author.Rules.{rules}
use lib.ListN.{length}
use Rattle.model.specs.Limits.{most_rules}
use Rattle.model.specs.declared.Lists.{Lists}
use Rattle.model.proofs.Laws.Lent.{lists_fit_facts}
use Rattle.bank.specs.Notes.{down_in}
use Rattle.step.proofs.Laws.Advanced.{Putting, rules_full, rule_putting, rule_put}
use Rattle.step.proofs.found.new_transition.Goals as goal

pub put_down-requires : goal.put_down-requires
put_down-requires c =
    let r = c.requires in
    let long : length c.args.lists.t ≡ most_rules = search rules in
    let room : c.args.lists.rules < most_rules = let f = (lists_fit_facts c.args.lists r.1.fit).rules in omega arith in
    let q : Putting c.args.words.now c.args.lists c.args.index.now (down_in c.args.notes.now) c.args.hand.0 = record { bank = r.0; run = r.1; room = r.4; record_row = r.5; fits = r.7 } in
    let p = rule_putting q long room c.args.spot.0 c.with_rule-left.ensures r.6 in
    (p.bank, p.run, r.2, omega (arith, ap (λ (l : Lists). l.rules) c.with_rule-left.ensures, r.3), p.room, p.record_row, p.fits)

pub returns-then-lists-eq-MOST_RULES : goal.returns-then-lists-eq-MOST_RULES
returns-then-lists-eq-MOST_RULES c =
    let long : length c.args.lists.t ≡ most_rules = search rules in
    (rules_full c.args.words.now c.args.lists long c.if-lists-eq-MOST_RULES.true c.args.hand.0 _ _ refl).ended

pub returns : goal.returns
returns c =
    let r = c.requires in
    let long : length c.args.lists.t ≡ most_rules = search rules in
    let room : c.args.lists.rules < most_rules = let f = (lists_fit_facts c.args.lists r.1.fit).rules in omega arith in
    let q : Putting c.args.words.now c.args.lists c.args.index.now (down_in c.args.notes.now) c.args.hand.0 = record { bank = r.0; run = r.1; room = r.4; record_row = r.5; fits = r.7 } in
    (rule_put q long room c.args.spot.0 c.with_rule-left.ensures c.put_down.result c.put_down.new.words (record { ended = c.put_down.ensures })).ended

-- `list_view::lookup::find_target` meets its contract: the first block left has the left side, or those behind it decide.
use Rattle.std.proofs.Common.{◌≡◌, ◌∙◌, sym, ap, ℕ, List, ◌+◌, ◌-◌, true, false, arith}
use Rattle.model.specs.Automata.{has_left_side, target_in}
use Rattle.model.specs.Listing.{body_at, behind, rule_in}
use Rattle.model.specs.View.{present, target_found}
use Rattle.list.specs.Blocks.{rules_in}
use Rattle.list_view.proofs.Looks.{target_found_law, target_passed, target_none}
use Rattle.list_view.proofs.lookup.find_target.Goals as goal

pub returns-then-left_is : goal.returns-then-left_is
returns-then-left_is c =
    let a = c.args in
    let l = c.loop in
    let body = c.body-found.ensures in
    let e : has_left_side a.symbol a.states.now (rule_in (body_at l.at.now)) ≡ true =
    ap (λ (us : List ℕ). has_left_side a.symbol a.states.now (rule_in us)) (sym body) ∙ sym c.left_is.ensures ∙ c.if-left_is.true in
    ap present (c.target_byte.ensures ∙ ap (λ (us : List ℕ). (rule_in us).target) body) ∙
    ap target_found (sym (target_found_law a.symbol a.states.now (a.rules - l.counter) l.at.now (omega arith) e) ∙ l.invariant)

pub loop-preserved : goal.loop-preserved
loop-preserved c =
    let a = c.args in
    let l = c.loop in
    let e : has_left_side a.symbol a.states.now (rule_in (body_at l.at.now)) ≡ false =
    ap (λ (us : List ℕ). has_left_side a.symbol a.states.now (rule_in us)) (sym c.body-found.ensures) ∙ sym c.left_is.ensures ∙ c.if-left_is.false in
    let n : a.rules - (l.counter + 1) ≡ a.rules - l.counter - 1 = omega arith in
    ap (λ (us : List ℕ). target_in a.symbol a.states.now (rules_in (a.rules - (l.counter + 1)) us)) c.rest-at.ensures ∙
    ap (λ (m : ℕ). target_in a.symbol a.states.now (rules_in m (behind l.at.now))) n ∙ sym (target_passed a.symbol a.states.now (a.rules - l.counter) l.at.now (omega arith) e) ∙ l.invariant

pub returns : goal.returns
returns c =
    let a = c.args in
    let l = c.loop in
    ap target_found (sym (target_none a.symbol a.states.now (a.rules - l.counter) l.at.now (omega arith)) ∙ l.invariant)

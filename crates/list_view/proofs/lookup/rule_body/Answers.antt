-- `list_view::lookup::rule_body` meets its contract: a block less is left, and it is the first.
use Rattle.std.proofs.Common.{◌≡◌, ◌∙◌, sym, ap, ℕ, ◌+◌, ◌-◌, arith}
use Rattle.model.specs.Listing.{body_at, behind}
use Rattle.list.specs.Blocks.{after}
use Rattle.list_view.proofs.Looks.{after_head, after_none}
use Rattle.list_view.proofs.lookup.rule_body.Goals as goal

pub loop-init : goal.loop-init
loop-init c = let e : c.args.k - 0 ≡ c.args.k = omega arith in ap (λ (m : ℕ). after m c.rest-at.result.now) e ∙ ap (after c.args.k) (c.rest-at.ensures ∙ ap behind c.rest.ensures)

pub loop-preserved : goal.loop-preserved
loop-preserved c =
    let l = c.loop in
    let n : c.args.k - (l.counter + 1) ≡ c.args.k - l.counter - 1 = omega arith in
    ap (after (c.args.k - (l.counter + 1))) c.rest-at-in-loop.ensures ∙ ap (λ (m : ℕ). after m (behind l.at.now)) n ∙ sym (after_head (c.args.k - l.counter) l.at.now (omega arith)) ∙ l.invariant

pub returns : goal.returns
returns c =
    let l = c.loop in
    c.body.ensures ∙ ap body_at (sym (after_none (c.args.k - l.counter) l.at.now (omega arith)) ∙ l.invariant)

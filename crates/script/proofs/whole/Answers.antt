-- `script::whole` meets its contract: a newline moves the place on, byte after byte.
use Rattle.std.proofs.Common.{◌∙◌, ℕ, ◌+◌, ap, sym, drop, arith}
use Rattle.script.specs.LineEnd.{whole_from}
use Rattle.script.proofs.Lines.{whole_none, whole_here, whole_later, ready_lines}
use Rattle.script.proofs.whole.Goals.{then-input-i-eq10, else-input-i-eq10}
use Rattle.script.proofs.whole.Goals as goal

pub loop-i-preserved : goal.loop-i-preserved
loop-i-preserved c =
    let l = c.loop-i in
    let bs = c.args.input.now in
    elim c.if-input-i-eq10.branch [
      | then-input-i-eq10 w ↦
          ap (λ (k : ℕ). whole_from (l.i + 1) k (drop (l.i + 1) bs)) w.end-is ∙ sym (whole_here bs l.i l.end (omega arith) w.if-input-i-eq10.true) ∙ l.invariant
      | else-input-i-eq10 w ↦
          ap (λ (k : ℕ). whole_from (l.i + 1) k (drop (l.i + 1) bs)) w.end-is ∙ sym (whole_later bs l.i l.end (omega arith) w.if-input-i-eq10.false) ∙ l.invariant
    ]

pub returns : goal.returns
returns c =
    let l = c.loop-i in
    let s = c.args in
    sym (whole_none s.input.now l.i l.end (omega arith)) ∙ l.invariant ∙ ready_lines s.input.now s.at s.from c.if-from-input.false

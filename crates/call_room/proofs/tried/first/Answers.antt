-- `tried::first` meets its contract: what the call on the first words says of them, said of all.
use Rattle.std.proofs.Common.{◌+◌, ◌++◌, ◌/◌, length, drop, sym, ◌∙◌, arith}
use borrow.Author.Tests.{eqb-true, eqb-false}
use Rattle.model.specs.Limits.{row_width}
use Rattle.model.specs.Refusals.{refused_by}
use Rattle.call.specs.Said.{call_of}
use Rattle.call_room.specs.Tried.{FirstAs}
use Rattle.call_room.proofs.Laws.First.{first_as}
use Rattle.call_room.proofs.tried.first.Goals as goal
use Rattle.call_room.proofs.tried.first.Goals.{else-lacks_rows-via-then-lacks_rows+else-n-words, else-lacks_rows-via-else-lacks_rows}

pub returns-then-n-words : goal.returns-then-n-words
returns-then-n-words c =
    let s = c.args in
    let d = c.in_smallest-done in
    let f : FirstAs s.words.now c.min-n.result s.lists (call_of s.said s.symbols.now) d.result (d.new.words ++ drop c.min-n.result s.words.now) =
    first_as s.words.now s.lists (call_of s.said s.symbols.now) d.result d.new.words c.requires.0 c.requires.1 (s.lists.used + length s.saved.now / row_width)
    (omega arith) (omega arith) c.min-n.result (λ h. omega arith) (λ h. omega arith) d.ensures in (
      f.short (eqb-true (refused_by d.result) 34 (sym c.lacks_rows.ensures ∙ c.if-lacks_rows.true)),
      omega (arith, c.if-n-words.true),
    )

pub returns : goal.returns
returns c =
    let s = c.args in
    let d = c.in_smallest-done in
    let f : FirstAs s.words.now c.min-n.result s.lists (call_of s.said s.symbols.now) d.result (d.new.words ++ drop c.min-n.result s.words.now) =
    first_as s.words.now s.lists (call_of s.said s.symbols.now) d.result d.new.words c.requires.0 c.requires.1 (s.lists.used + length s.saved.now / row_width)
    (omega arith) (omega arith) c.min-n.result (λ h. omega arith) (λ h. omega arith) d.ensures in
    elim c.else-lacks_rows.branch [
      | else-lacks_rows-via-then-lacks_rows+else-n-words w ↦ f.all (omega (arith, w.if-n-words.false))
      | else-lacks_rows-via-else-lacks_rows w ↦ f.done (eqb-false (refused_by d.result) 34 (sym c.lacks_rows.ensures ∙ w.if-lacks_rows.false))
    ]

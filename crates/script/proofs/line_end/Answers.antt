-- `script::line_end` meets its contract: a line ends where `position` finds the first newline behind its start.
use Rattle.std.proofs.Common.{ap, ◌∙◌, ◌+◌, ◌-◌, ℕ, nat_eq, length, take, drop, rules, tests}
use Rattle.std.proofs.lemmas.Iterator.{YieldsList-from_slice}
use Rattle.std.proofs.lemmas.Iterator.Search.{position_from_yields_List}
use Rattle.std.proofs.lemmas.List.{take_rest}
use Rattle.script.specs.LineEnd.{line_length}
use Rattle.script.proofs.Laws.{end_found}
use Rattle.script.proofs.line_end.Goals as goal

pub returns : goal.returns
returns c =
    let bs = c.args.input.now in
    let xs = take (length bs - c.args.from) (drop c.args.from bs) in
    let p = position_from_yields_List (λ b. nat_eq b 10) _ _ c.position-place.result c.position-place.ensures.ran (YieldsList-from_slice xs cc) (λ b t q k. search (rules, tests)) in
    ap (λ (n : ℕ). c.args.from + n) (c.unwrap_or.ensures ∙ end_found xs c.position-place.result p ∙ ap line_length (take_rest bs c.args.from))

-- `judge::all_differ` meets its contract: `all` over the representatives, each of which differs from those behind it.
use Rattle.std.proofs.Common.{◌∙◌, rules, tests, ℕ, ◌+◌, map, get_or, take, drop, arith}
use Rattle.std.proofs.lemmas.Iterator.{YieldsList-from_range}
use Rattle.std.proofs.lemmas.Iterator.Search.{all_from_yields_List}
use Rattle.model.specs.Base.{all}
use Rattle.model.specs.Sound.{differ_known}
use Rattle.table.specs.Answers.{answers_at}
use Rattle.table.proofs.Laws.Judge.{differ_each}
use Rattle.table.proofs.judge.all_differ.Goals as goal

pub returns : goal.returns
returns c =
    let a = c.args in
    let row = answers_at a.table.now a.contexts in
    let ps = a.s_in_t.now in
    all_from_yields_List (λ (q : ℕ). all (differ_known (row (get_or ps q 0))) (map row (drop (q + 1) (take a.states ps)))) _ _ _ c.all.ensures.ran (YieldsList-from_range 0 a.states a.states (cc) (omega arith)) (λ x b q k. search (rules, tests)) ∙ differ_each row a.states ps (omega arith) 0 a.states (omega arith)

-- `judge::all_once` meets its contract: `all` over the places of T.
use Rattle.std.proofs.Common.{◌∙◌, rules, tests, ℕ, eqb, map, take, arith}
use Rattle.std.proofs.lemmas.Iterator.{YieldsList-from_range}
use Rattle.std.proofs.lemmas.Iterator.Search.{all_from_yields_List}
use Rattle.model.specs.Sound.{count_same}
use Rattle.table.specs.Answers.{answers_at}
use Rattle.table.proofs.Laws.Judge.{all_places}
use Rattle.table.proofs.judge.all_once.Goals as goal

pub returns : goal.returns
returns c =
    let a = c.args in
    let row = answers_at a.table.now a.contexts in
    all_from_yields_List (λ (k : ℕ). eqb (count_same (row k) (map row (take a.states a.s_in_t.now))) 1) _ _ _ c.all.ensures.ran (YieldsList-from_range 0 a.rules a.rules (cc) (omega arith)) (λ x b q k. search (rules, tests)) ∙ all_places _ 0 a.rules

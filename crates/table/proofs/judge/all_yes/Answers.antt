-- `judge::all_yes` meets its contract: `all` over the places of T.
use Rattle.std.proofs.Common.{◌∙◌, rules, tests, ℕ, arith}
use Rattle.std.proofs.lemmas.Iterator.{YieldsList-from_range}
use Rattle.std.proofs.lemmas.Iterator.Search.{all_from_yields_List}
use Rattle.model.specs.Base.{among}
use Rattle.table.specs.Answers.{answers_at}
use Rattle.table.proofs.Laws.Judge.{all_places}
use Rattle.table.proofs.judge.all_yes.Goals as goal

pub returns : goal.returns
returns c =
    let a = c.args in
    all_from_yields_List (λ (k : ℕ). among 2 (answers_at a.table.now a.contexts k)) _ _ _ c.all.ensures.ran (YieldsList-from_range 0 a.rules a.rules (cc) (omega arith)) (λ x b q k. search (rules, tests)) ∙ all_places _ 0 a.rules

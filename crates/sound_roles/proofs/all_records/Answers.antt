-- `sound_roles::all_records` meets its contract: `all` is model's test.
use Rattle.std.proofs.Common.{rules, tests, ◌∙◌}
use Rattle.std.proofs.lemmas.Iterator.{YieldsList-from_slice}
use Rattle.std.proofs.lemmas.Iterator.Search.{all_from_yields_List}
use Rattle.model.proofs.Laws.Methods.{all_all}
use Rattle.sound_roles.specs.Marked.{record_by}
use Rattle.sound_roles.proofs.all_records.Goals as goal

pub returns : goal.returns
returns c =
    let xs = c.args.xs.now in
    let is = record_by c.args.index.now c.args.used in
    all_from_yields_List is _ _ _ c.all.ensures.ran (YieldsList-from_slice xs cc) (λ x b q k. search (rules, tests))
    ∙ all_all is xs

-- `list::read::all_below` meets its contract: `all` of an iterator is model's test.
use Rattle.std.proofs.Common.{rules, tests, ◌∙◌, ℕ, Bool, nat_lt}
use Rattle.std.proofs.lemmas.Iterator.{YieldsList-from_slice}
use Rattle.std.proofs.lemmas.Iterator.Search.{all_from_yields_List}
use Rattle.model.proofs.Laws.Methods.{all_all}
use Rattle.list.proofs.read.all_below.Goals as goal

pub returns : goal.returns
returns c =
    let bs = c.args.bytes.now in
    let small : ℕ → Bool = λ q. nat_lt q c.args.bound in
    all_from_yields_List small _ _ c.all.result c.all.ensures.ran (YieldsList-from_slice bs cc) (λ x b q k. search (rules, tests)) ∙ all_all small bs

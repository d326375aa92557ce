-- `judge::differs` meets its contract: `all` over the representatives from a place on.
use Rattle.std.proofs.Common.{◌≡◌, ◌∙◌, sym, ap, rules, tests, ℕ, ◌+◌, ◌-◌, ◌<◌, List, map, take, drop, arith}
use Rattle.std.proofs.lemmas.List.{drop-take}
use Rattle.std.proofs.lemmas.Iterator.{YieldsList-from_slice}
use Rattle.std.proofs.lemmas.Iterator.Adapters.{serves_from_places}
use Rattle.std.proofs.lemmas.Iterator.Search.{all_from_yields_List}
use Rattle.model.specs.Base.{all}
use Rattle.model.specs.Sound.{differ_known}
use Rattle.table.specs.Answers.{answers_at}
use Rattle.table.proofs.Laws.Rows.{sized_to}
use Rattle.table.proofs.Laws.Judge.{all_rows, place_within}
use Rattle.table.proofs.judge.differs.Goals as goal

pub all-requires-clause-callable : goal.all-requires-clause-callable
all-requires-clause-callable c =
    let a = c.args in
    serves_from_places (YieldsList-from_slice (take (a.states - a.from) (drop a.from a.s_in_t.now)) cc) (λ x q k. search (rules, tests)) (λ x k l e.
    let w : x.now < a.rules = place_within a.rules a.states a.s_in_t.now (omega arith) c.requires.3.within a.from k x.now l e in
    let own = sized_to c.requires.0 a.a c.requires.1 in
    let other = sized_to c.requires.0 x.now w in
    search rules)

pub returns : goal.returns
returns c =
    let a = c.args in
    let row = answers_at a.table.now a.contexts in
    let ps : List ℕ = take (a.states - a.from) (drop a.from a.s_in_t.now) in
    let z : a.from + (a.states - a.from) ≡ a.states = omega arith in
    let e : ps ≡ drop a.from (take a.states a.s_in_t.now) = sym (drop-take a.from (a.states - a.from) a.s_in_t.now) ∙ ap (λ (n : ℕ). drop a.from (take n a.s_in_t.now)) z in
    all_from_yields_List (λ (p : ℕ). differ_known (row a.a) (row p)) _ _ _ c.all.ensures.ran (YieldsList-from_slice ps cc) (λ x b q k. search (rules, tests)) ∙ all_rows (differ_known (row a.a)) row ps ∙ ap (λ (qs : List ℕ). all (differ_known (row a.a)) (map row qs)) e

-- `list_view::lookup::left_is` meets its contract: where the symbol is the same, the states decide.
use Rattle.std.proofs.Common.{◌∙◌, sym, ap, ℕ, List}
use Rattle.model.specs.Base.{same}
use Rattle.model.proofs.Laws.Methods.{pointwise_same}
use Rattle.list.proofs.Fits.{left_states}
use Rattle.list_view.proofs.lookup.left_is.Goals as goal

pub returns-then-byte_at-symbol : goal.returns-then-byte_at-symbol
returns-then-byte_at-symbol c =
    let a = c.args in
    c.eq.ensures ∙ pointwise_same c.states_in.result.now a.states.now ∙ ap (λ (qs : List ℕ). same qs a.states.now) c.states_in.ensures ∙
    sym (left_states a.body.now a.symbol a.states.now (sym c.byte_at.ensures ∙ c.if-byte_at-symbol.true))

-- `Terms::count_of` meets its contract: the symbol of a good row is known, and its count is that of the row's children.
use Rattle.std.proofs.Common.{◌<◌, ◌∙◌, ℕ, ap, get_or, arith}
use Rattle.bank.specs.Terms.{Parts}
use Rattle.bank.proofs.Laws.Children.{bank_stored, row_known, count_kids}
use Rattle.bank.proofs.terms.Terms.count_of.Goals as goal

pub bounds-self-inside-symbol : goal.bounds-self-inside-symbol
bounds-self-inside-symbol c =
    let h : c.args.row.0 < c.self.inside.used = omega (arith, ap (λ (p : Parts). p.used) c.self.view_is) in
    omega (arith, row_known (bank_stored c.self.invariant) c.args.row.0 h c.requires.0, c.symbol_of-symbol.ensures)

pub returns : goal.returns
returns c =
    let h : c.args.row.0 < c.self.inside.used = omega (arith, ap (λ (p : Parts). p.used) c.self.view_is) in
    rw (← c.self.view_is) (ap (λ (a : ℕ). get_or c.self.inside.counts.now a 0) c.symbol_of-symbol.ensures ∙ count_kids (bank_stored c.self.invariant) c.args.row.0 h)

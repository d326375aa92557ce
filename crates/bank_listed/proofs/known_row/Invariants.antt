-- The loop of `known_row`: what is left to read, with the rows on the stack, is known where the whole is.
use Rattle.std.proofs.Common.{◌≡◌, drop}
use Rattle.model.specs.Terms.{known_from, known_row}
use Rattle.model.specs.Entry.{store_of}
use Rattle.bank_listed.proofs.Laws.Reading.{Reading}
use Rattle.bank_listed.proofs.known_row.Given as goal

abbrev pub invariant-loop-symbol : goal.invariant-loop-symbol
invariant-loop-symbol l =
    Reading (store_of l.fn.words l.fn.counts l.fn.used) l.fn.symbols l.stack l.symbol-index ×
    (known_from (store_of l.fn.words l.fn.counts l.fn.used) (drop l.symbol-index l.fn.symbols) l.stack ≡ known_row (store_of l.fn.words l.fn.counts l.fn.used) l.fn.symbols)

-- What is left, with the trees that are ready, has the fault of the whole.
use Rattle.std.proofs.Common.{◌≡◌, ◌≤◌, drop}
use Rattle.model.specs.Terms.{symbols_fault, record_fault}
use Rattle.bank_listed.proofs.record_fault.Given as goal

abbrev pub invariant-loop-symbol : goal.invariant-loop-symbol
invariant-loop-symbol l = record {
  ready : l.trees ≤ l.symbol-index;
  same : symbols_fault l.counts l.trees (drop l.symbol-index l.symbols) ≡ record_fault l.counts l.symbols;
}

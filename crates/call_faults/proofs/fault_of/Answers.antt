-- The lines of an answer hold whatever the words are.
use Rattle.std.proofs.Common.{ap, sym, ◌∙◌}
use Rattle.model.specs.Calls.{fault_of}
use Rattle.model.specs.Entry.{tables_of}
use Rattle.call.specs.declared.Said.{Said}
use Rattle.call.specs.Said.{call_of}
use Rattle.call_faults.proofs.fault_of.Goals as goal

pub returns-in-Answer : goal.returns-in-Answer
returns-in-Answer c =
    let s = c.args in
    c.answer_fault.ensures s.words.now ∙ ap (λ (v : Said). fault_of (tables_of s.words.now s.lists) (call_of v s.symbols.now)) (sym c.in-Answer.is)

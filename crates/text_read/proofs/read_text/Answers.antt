-- `text_read::read_text` meets its contract: one record in a balanced text, with no byte behind it, is the text read.
use Rattle.std.proofs.Common.{◌∙◌, sym, arith}
use Rattle.text_read.proofs.Laws.{Text, text_none, text_some}
use Rattle.text_read.proofs.read_text.Goals.{then-whole-text-via-then-whole-text, then-whole-text-via-else-whole-text+then-size-eq0}
use Rattle.text_read.proofs.read_text.Goals as goal

pub returns-then-whole-text-clause-text : goal.returns-then-whole-text-clause-text
returns-then-whole-text-clause-text c =
    let a = c.args in
    let t : Text a.letters.now a.counts.now c.index-known.result a.text.now c.read_record-whole.result c.read_record-whole.new.text =
    record { few = omega arith; balanced = sym c.is_balanced.ensures ∙ c.if-not-is_balanced.false; known = c.index-known.ensures; came = c.read_record-whole.ensures } in
    text_none t (λ e. elim c.then-whole-text.branch [
      | then-whole-text-via-then-whole-text w ↦ absurd (omega arith)
      | then-whole-text-via-else-whole-text+then-size-eq0 w ↦ omega arith
    ])

pub returns-clause-text : goal.returns-clause-text
returns-clause-text c =
    let a = c.args in
    let t : Text a.letters.now a.counts.now c.index-known.result a.text.now c.read_record-whole.result c.read_record-whole.new.text =
    record { few = omega arith; balanced = sym c.is_balanced.ensures ∙ c.if-not-is_balanced.false; known = c.index-known.ensures; came = c.read_record-whole.ensures } in
    text_some t (omega arith) (omega arith)

-- `add::put`: a row that is found is handed back; without room nothing is written; else the row is written and entered at the slot where the search ended.
use mathlib.Core.Path.{sym, ◌∙◌}
use Rattle.bank_fill.specs.Adding.{found, no_room, written}
use Rattle.bank_fill.proofs.add.put.Goals as goal

pub returns-then-found-ne0 : goal.returns-then-found-ne0
returns-then-found-ne0 c = found (c.row_at-found.ensures ∙ c.seek-slot.ensures.1) c.if-found-ne0.true

pub returns-then-words-used : goal.returns-then-words-used
returns-then-words-used c = no_room (sym c.seek-slot.ensures.1 ∙ sym c.row_at-found.ensures ∙ c.if-found-ne0.false) c.if-words-used.true

pub returns : goal.returns
returns c =
    let e = c.seek-slot.ensures in
    let free = sym c.row_at-found.ensures ∙ c.if-found-ne0.false in
    written (sym e.1 ∙ free) c.if-words-used.false e.0 free c.write_row.ensures.words c.enter.ensures

-- `bank_t1::t1` meets its contract: the clauses of T1 in their order, and where all hold, the index and the holes are ready.
use Rattle.std.proofs.Common.{◌≡◌, ◌∙◌, sym, true, false, length, arith, ◌≤◌, ◌*◌}
use Rattle.std.proofs.lemmas.Grind.{common_steps}
use Rattle.model.specs.Limits.{row_width}
use Rattle.model.specs.Sound.{alphabet_fits, is_hole, is_t1}
use Rattle.bank.specs.Rows.{node_in, answer_in}
use Rattle.bank_t1.proofs.Laws.T1.{stored, no_alphabet_law, no_rows, few_rows, no_hole, rows_decide, bank}
use Rattle.bank_t1.proofs.t1.Goals as goal

pub returns-then-is_hole : goal.returns-then-is_hole
returns-then-is_hole c =
    let s = c.args in
    let a : alphabet_fits s.counts.now ≡ true = grind (arith, common_steps) in
    let some : 1 ≤ s.used = grind (arith, common_steps) in
    let room : row_width * s.used ≤ length s.words.now = grind (arith, common_steps) in
    let hole : is_hole (node_in s.words.now 0) (answer_in s.words.now 0) ≡ true = grind (arith, common_steps) in
    let e = rows_decide s.words.now s.counts.now s.used a some room hole in
    let m = c.rows_pass.ensures in
    record { result_value = m.value ∙ e; bank = λ f. bank s.words.now s.counts.now s.used c.requires.0 (sym e ∙ sym m.value ∙ f) (m.marked f) }

pub returns-else-is_hole-clause-result_value : goal.returns-else-is_hole-clause-result_value
returns-else-is_hole-clause-result_value c =
    let s = c.args in
    let e : false ≡ is_t1 (stored s.words.now s.counts.now s.used) = grind (arith, common_steps, no_alphabet_law, no_rows, few_rows, no_hole) in
    c.if-is_hole.false ∙ e

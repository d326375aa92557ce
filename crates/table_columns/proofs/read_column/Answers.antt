-- `table_columns::read_column` meets its contract, by the laws of Rows: one number more, and at the end all of them.
use Rattle.std.proofs.Common.{◌≡◌, sym, ◌∙◌, ℕ, List, ◌*◌, ◌<◌, length, get_or, arith}
use Rattle.std.proofs.Math.ListN.{length-map}
use Rattle.model.specs.Limits.{most_contexts}
use Rattle.model.proofs.Laws.Lists.{map_at}
use Rattle.bank.specs.Rows.{answer_in}
use Rattle.bank.specs.Notes.{room_in}
use Rattle.table_columns.specs.Notes.{filled_note, column_answers}
use Rattle.table_columns.proofs.Laws.Rows.{put_more, put_all}
use Rattle.table_columns.proofs.read_column.Goals as goal

-- as many answers as positions, each that of the row that its position fills to
answers_long : (ws ns ps : List ℕ) (z : ℕ) → length (column_answers ws z ns ps) ≡ length ps
answers_long ws ns ps z = length-map ps (λ (p : ℕ). answer_in ws (filled_note z ns p))

answer_is : (ws ns ps : List ℕ) (z j : ℕ) → j < length ps → get_or (column_answers ws z ns ps) j 0 ≡ answer_in ws (filled_note z ns (get_or ps j 0))
answer_is ws ns ps z j l = map_at (λ (p : ℕ). answer_in ws (filled_note z ns p)) ps j l

pub loop-j-preserved : goal.loop-j-preserved
loop-j-preserved c =
    let a = c.args in
    let z = room_in a.notes.now in
    let l = c.loop-j in
    let long = answers_long a.words.now a.notes.now a.tops.now z in
    let is = answer_is a.words.now a.notes.now a.tops.now z l.j c.loop-j-test.true in
    put_more (column_answers a.words.now z a.notes.now a.tops.now) a.table.now (most_contexts * a.k) (omega (arith, c.requires.4)) l.j c.answer_of.result (omega (arith, c.loop-j-test.true)) l.invariant (c.answer_of.ensures ∙ sym is)

pub returns : goal.returns
returns c =
    let a = c.args in
    let z = room_in a.notes.now in
    let l = c.loop-j in
    let long = answers_long a.words.now a.notes.now a.tops.now z in
    put_all (column_answers a.words.now z a.notes.now a.tops.now) a.table.now (most_contexts * a.k) (omega (arith, c.requires.4)) l.j (omega (arith, l.auto.j-end, c.loop-j-test.false)) l.invariant

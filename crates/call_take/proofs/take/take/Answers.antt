-- `take::take`: rows that run out are put back; else the step goes on from the tables with the mark stored,
-- and where it runs short the answer is set back and the rows put back.
use mathlib.Core.Path.{◌≡◌, ap, sym, ◌∙◌}
use mathlib.Core.List.{List}
use Prim.Native.Nat.{ℕ, ◌+◌}
use native.Mathlib.Omega.{arith}
use borrow.Author.Rules.{rules}
use Rattle.std.specs.Prelude.{Option}
use Rattle.model.specs.Entry.{Arrays, tables_of}
use Rattle.model.specs.declared.Lists.{Lists}
use Rattle.bank.specs.Rows.{with_answer}
use Rattle.bank_fill.specs.declared.add.Added.{Added}
use Rattle.bank_fill.specs.Adding.{Came}
use Rattle.bank_fill.proofs.Laws.Coming.{Comes, comes_as}
use Rattle.run_lists.specs.Members.{counts_in}
use Rattle.call.specs.declared.Said.{Said}
use Rattle.call_take.specs.Taken.{mark_of, built_for}
use Rattle.call_take.proofs.Laws.Taken.{Given, full_called, built_at, row_within, steps_on, short_within, back_held, back_size, short_called, left_called, short_by, left_by}
use Rattle.call_take.proofs.take.take.Goals as goal

-- how the row for the mark came
came : (ws : List ℕ) (l : Lists) (k : Said) (xs : List ℕ) {r s : Option Added} {us ix : List ℕ} → r ≡ s →
    Came ws (counts_in l) l.used (built_for (tables_of ws l) k xs) r us ix → Comes ws (counts_in l) l.used (built_for (tables_of ws l) k xs) s us ix
came ws l k xs e d = comes_as e (record { came = d })

-- its mark set
marked : (us : List ℕ) (j : ℕ) (k : Said) {a b : ℕ} {us' : List ℕ} → a ≡ mark_of k → b ≡ a → us' ≡ with_answer us j (b + 1) → us' ≡ with_answer us j (mark_of k + 1)
marked us j k p q e = e ∙ ap (λ (m : ℕ). with_answer us j (m + 1)) (q ∙ p)

pub returns-in_default : goal.returns-in_default
returns-in_default c =
    let a : Arrays c.args.lists = record { counts = search rules; s = search rules; t = search rules; c = search rules } in
    let r = c.requires in
    let t : Given c.args.words.now c.args.lists c.args.said c.args.symbols.now c.args.index.now c.args.table.now c.args.notes.now =
    record { size = r.0; lent = r.1; sound = r.2; free = r.3; working = r.4; wide = r.6; arrays = a } in
    full_called t (came c.args.words.now c.args.lists c.args.said c.args.symbols.now c.in_default.is c.row_for.ensures) c.save.ensures c.restore.ensures

pub answer_of-old-requires : goal.answer_of-old-requires
answer_of-old-requires c =
    let a : Arrays c.args.lists = record { counts = search rules; s = search rules; t = search rules; c = search rules } in
    let r = c.requires in
    let t : Given c.args.words.now c.args.lists c.args.said c.args.symbols.now c.args.index.now c.args.table.now c.args.notes.now =
    record { size = r.0; lent = r.1; sound = r.2; free = r.3; working = r.4; wide = r.6; arrays = a } in
    row_within t (built_at t (came c.args.words.now c.args.lists c.args.said c.args.symbols.now c.in-Some.is c.row_for.ensures))

pub set_answer-requires : goal.set_answer-requires
set_answer-requires c =
    let a : Arrays c.args.lists = record { counts = search rules; s = search rules; t = search rules; c = search rules } in
    let r = c.requires in
    let t : Given c.args.words.now c.args.lists c.args.said c.args.symbols.now c.args.index.now c.args.table.now c.args.notes.now =
    record { size = r.0; lent = r.1; sound = r.2; free = r.3; working = r.4; wide = r.6; arrays = a } in
    row_within t (built_at t (came c.args.words.now c.args.lists c.args.said c.args.symbols.now c.in-Some.is c.row_for.ensures))

pub advance-stepped-requires : goal.advance-stepped-requires
advance-stepped-requires c =
    let a : Arrays c.args.lists = record { counts = search rules; s = search rules; t = search rules; c = search rules } in
    let r = c.requires in
    let t : Given c.args.words.now c.args.lists c.args.said c.args.symbols.now c.args.index.now c.args.table.now c.args.notes.now =
    record { size = r.0; lent = r.1; sound = r.2; free = r.3; working = r.4; wide = r.6; arrays = a } in
    let q = built_at t (came c.args.words.now c.args.lists c.args.said c.args.symbols.now c.in-Some.is c.row_for.ensures) in
    let m = marked c.row_for.new.words c.in-Some.field-0.row.0 c.args.said c.mark_of.ensures c.from.ensures c.set_answer.ensures.words in
    steps_on t q m c.given-begun.ensures

pub set_answer-requires-then-is_err : goal.set_answer-requires-then-is_err
set_answer-requires-then-is_err c =
    let a : Arrays c.args.lists = record { counts = search rules; s = search rules; t = search rules; c = search rules } in
    let r = c.requires in
    let t : Given c.args.words.now c.args.lists c.args.said c.args.symbols.now c.args.index.now c.args.table.now c.args.notes.now =
    record { size = r.0; lent = r.1; sound = r.2; free = r.3; working = r.4; wide = r.6; arrays = a } in
    let q = built_at t (came c.args.words.now c.args.lists c.args.said c.args.symbols.now c.in-Some.is c.row_for.ensures) in
    let m = marked c.row_for.new.words c.in-Some.field-0.row.0 c.args.said c.mark_of.ensures c.from.ensures c.set_answer.ensures.words in
    let w = short_by c.advance-stepped.result (sym c.is_err.ensures.value ∙ c.if-is_err.true) in
    short_within t q m c.given-begun.ensures (record { ended = c.advance-stepped.ensures }) w.1

pub restore-requires-then-is_err : goal.restore-requires-then-is_err
restore-requires-then-is_err c =
    let a : Arrays c.args.lists = record { counts = search rules; s = search rules; t = search rules; c = search rules } in
    let r = c.requires in
    let t : Given c.args.words.now c.args.lists c.args.said c.args.symbols.now c.args.index.now c.args.table.now c.args.notes.now =
    record { size = r.0; lent = r.1; sound = r.2; free = r.3; working = r.4; wide = r.6; arrays = a } in
    let q = built_at t (came c.args.words.now c.args.lists c.args.said c.args.symbols.now c.in-Some.is c.row_for.ensures) in
    let m = marked c.row_for.new.words c.in-Some.field-0.row.0 c.args.said c.mark_of.ensures c.from.ensures c.set_answer.ensures.words in
    let g = c.given-begun.ensures in
    let w = short_by c.advance-stepped.result (sym c.is_err.ensures.value ∙ c.if-is_err.true) in
    let o = c.answer_of-old.ensures in
    let b = c.set_answer-then-is_err.ensures.words in (
      back_held t q m g (record { ended = c.advance-stepped.ensures }) w.1 o b,
      omega (arith, back_size t q m g (record { ended = c.advance-stepped.ensures }) w.1 o b, c.save.ensures.long),
    )

pub returns-then-is_err : goal.returns-then-is_err
returns-then-is_err c =
    let a : Arrays c.args.lists = record { counts = search rules; s = search rules; t = search rules; c = search rules } in
    let r = c.requires in
    let t : Given c.args.words.now c.args.lists c.args.said c.args.symbols.now c.args.index.now c.args.table.now c.args.notes.now =
    record { size = r.0; lent = r.1; sound = r.2; free = r.3; working = r.4; wide = r.6; arrays = a } in
    let q = built_at t (came c.args.words.now c.args.lists c.args.said c.args.symbols.now c.in-Some.is c.row_for.ensures) in
    let m = marked c.row_for.new.words c.in-Some.field-0.row.0 c.args.said c.mark_of.ensures c.from.ensures c.set_answer.ensures.words in
    let g = c.given-begun.ensures in
    let w = short_by c.advance-stepped.result (sym c.is_err.ensures.value ∙ c.if-is_err.true) in
    short_called t q m g (record { ended = c.advance-stepped.ensures }) w.1 c.answer_of-old.ensures c.set_answer-then-is_err.ensures.words c.save.ensures c.restore-then-is_err.ensures

pub returns-else-is_err : goal.returns-else-is_err
returns-else-is_err c =
    let a : Arrays c.args.lists = record { counts = search rules; s = search rules; t = search rules; c = search rules } in
    let r = c.requires in
    let t : Given c.args.words.now c.args.lists c.args.said c.args.symbols.now c.args.index.now c.args.table.now c.args.notes.now =
    record { size = r.0; lent = r.1; sound = r.2; free = r.3; working = r.4; wide = r.6; arrays = a } in
    let q = built_at t (came c.args.words.now c.args.lists c.args.said c.args.symbols.now c.in-Some.is c.row_for.ensures) in
    let m = marked c.row_for.new.words c.in-Some.field-0.row.0 c.args.said c.mark_of.ensures c.from.ensures c.set_answer.ensures.words in
    let g = c.given-begun.ensures in
    left_called t q m g (record { ended = c.advance-stepped.ensures }) (left_by c.advance-stepped.result (sym c.is_err.ensures.value ∙ c.if-is_err.false)).1

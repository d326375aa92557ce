-- `context::fill_context`: the way down along the copied marks is the context's, so what is filled is the context.
use mathlib.Core.Path.{sym, ap}
use mathlib.Core.List.{List}
use native.Mathlib.Omega.{arith}
use Rattle.model.specs.Store.{Frame, fill}
use Rattle.model.specs.Entry.{store_of}
use Rattle.bank.specs.Bank.{path_of}
use Rattle.bank_fill.proofs.Laws.Coming.{Comes, comes_by}
use Rattle.bank_fill.proofs.Laws.Ways.{path_frames, path_fits}
use Rattle.bank_fill.proofs.context.fill_context.Goals as goal

pub fill-requires : goal.fill-requires
fill-requires c =
    let r = c.requires in
    (r.0, omega (arith, c.copy_marks.auto.down, r.4), r.1, r.3, path_fits r.0 c.copy_marks.new.down c.copy_marks.ensures c.args.context.0 r.1 r.2)

pub returns : goal.returns
returns c =
    let a = c.args in
    let x = store_of a.words.now a.counts.now a.used in
    let down = c.copy_marks.new.down in
    let along : Comes a.words.now a.counts.now a.used (fill x (path_of down x a.context.0) a.with.0) c.fill.result c.fill.new.words c.fill.new.index = record { came = c.fill.ensures } in
    (comes_by (ap (λ (fs : List Frame). fill x fs a.with.0) (sym (path_frames c.requires.0 down c.copy_marks.ensures a.context.0 c.requires.1))) along).came

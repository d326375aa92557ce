-- `table_columns::fill_next` meets its contract: a row found is the next entry, and where none is found the whole run is cleared.
-- By the laws of Columns: a row whose hole child fills to nothing stored does so too.
use Rattle.std.proofs.Common.{◌+◌, ◌*◌, arith}
use Rattle.std.proofs.Math.Seq.{get_or-set_other}
use Rattle.bank.specs.Notes.{room_in}
use Rattle.table_columns.proofs.Laws.Columns.{column_more, column_run, same_set, same_cleared}
use Rattle.table_columns.proofs.fill_next.Goals as goal

pub returns-then-outer-eq0 : goal.returns-then-outer-eq0
returns-then-outer-eq0 c =
    let p = c.requires in
    let f = c.refilled-outer in
    let g = c.clear_run in
    let z = room_in c.args.notes.now in (
      column_run f.ensures.ready p.0 p.2 p.4 p.5 f.result.0 f.ensures.row.0 f.ensures.row.1 p.3 (omega arith) c.if-outer-eq0.true p.1 g.ensures,
      same_cleared g.ensures g.auto.notes,
      g.ensures.before (3 * z + 0) (omega (arith, p.4)),
      p.1.ahead c.args.p p.4 p.5,
      p.1.last c.args.p p.4 p.5,
    )

pub returns : goal.returns
returns c =
    let p = c.requires in
    let f = c.refilled-outer in
    let z = room_in c.args.notes.now in (
      column_more f.ensures.ready p.0 p.2 p.4 p.5 f.result.0 f.ensures.row.0 f.ensures.row.1 p.3 (omega arith),
      same_set z c.args.notes.now c.args.p f.result.0,
      get_or-set_other c.args.notes.now (3 * z + c.args.p) (3 * z + 0) f.result.0 0 (λ e. omega (arith, p.4)),
      omega arith,
      omega (arith, p.5),
    )

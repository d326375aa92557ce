-- `sound::prepare` meets its contract: where T1 and the roles of rows hold, the answers are worked out over rows that can be read.
use Rattle.std.proofs.Common.{arith, refl, sym}
use Rattle.sound.proofs.Laws.Prepared.{t1_answered, t_used, c_contexts}
use Rattle.sound.proofs.prepare.Goals as goal

pub observe-requires : goal.observe-requires
observe-requires c =
    let ws = c.args.words.now in
    let ns = c.args.counts.now in
    let u = c.args.used in
    let s = c.args.s.now in
    let t = c.args.t.now in
    let cs = c.args.c.now in
    let few = c.requires.1 in
    let room = c.requires.2 in
    let bank = c.if-not-t1.ensures.bank refl in
    let roles = sym (rw c.new-bank.ensures at c.if-not-roles_fit.ensures) in
    rw c.new-bank.ensures (
      t1_answered ws ns u s t cs (sym c.if-not-t1.ensures.result_value),
      t_used ws ns u s t cs roles,
      c_contexts ws ns u s t cs roles,
      few.few_c,
      few.few_t,
      room.table_long,
      omega (arith, bank.finding.room, room.notes_long),
    )

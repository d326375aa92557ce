-- `sound::is_sound` meets its contract: its parts make the soundness test, by the laws of Members.
-- What it leaves is made where the representatives have been found; the last part writes into the notes, and leaves the representatives.
use Rattle.std.proofs.Common.{arith, refl, sym, ◌∙◌, false}
use lib.Dec.{eqb}
use Rattle.model.specs.Table.{tables}
use Rattle.model.specs.Sound.{is_t1}
use Rattle.model.specs.Entry.{store_of, answers_in}
use Rattle.model.proofs.Laws.Tests.{and_right}
use Rattle.sound.specs.Given.{roles_fit}
use Rattle.sound.proofs.Laws.Prepared.{t_one, s_in_t, t_used}
use Rattle.sound.proofs.Laws.Members.{roles_settle, table_settles, members_read, standing_decides}
use Rattle.sound.proofs.Laws.Working.{working_made, working_kept}
use Rattle.sound.proofs.is_sound.Goals as goal

pub returns-then-not-prepare-clause-result_value : goal.returns-then-not-prepare-clause-result_value
returns-then-not-prepare-clause-result_value c =
    let x = store_of c.args.words.now c.args.counts.now c.args.used in
    let w = answers_in c.args.used c.args.words.now in
    let r = c.args.standing in
    roles_settle (tables x w c.args.s.now c.args.t.now c.args.c.now r.hand.0 r.asked.0 (eqb r.accepted 1)) (sym c.if-not-prepare.ensures.result_value)

pub represent-missing-requires : goal.represent-missing-requires
represent-missing-requires c =
    let ws = c.args.words.now in
    let ns = c.args.counts.now in
    let u = c.args.used in
    let s = c.args.s.now in
    let t = c.args.t.now in
    let cs = c.args.c.now in
    let idle = tables (store_of ws ns u) (answers_in u ws) s t cs 0 0 false in
    let f = and_right (is_t1 idle) (roles_fit idle) (sym c.if-not-prepare.ensures.result_value) in
    let o = c.if-not-prepare.ensures.observed refl in
    let l = c.prepare.auto.notes in (
      o.1.sized,
      c.requires.1.few_s,
      refl,
      s_in_t ws ns u s t cs f,
      λ k h. omega (arith, t_used ws ns u s t cs f k h, o.0.finding.room, l, c.requires.2.notes_long),
      t_one ws ns u s t cs f,
    )

pub standing_fits-requires : goal.standing_fits-requires
standing_fits-requires c =
    let o = c.if-not-prepare.ensures.observed refl in
    let l = c.prepare.auto.notes in
    let k = c.represent-missing.auto.notes in
    let r = c.represent-missing.ensures in
    let w = working_made {notes = c.represent-missing.new.notes} o.0 o.1 r.1 r.2 r.3 (omega (arith, l, k, c.requires.2.notes_long)) in
    let fits = sym c.if-not-prepare.ensures.result_value in
    rw c.new-bank.ensures (omega (arith, w.bank.finding.room, w.notes_long), members_read w r.1 r.2 c.args.standing c.represent-missing.result r.0 fits (sym c.table_fits.ensures ∙ c.if-table_fits.true))

pub returns-then-table_fits-clause-result_value : goal.returns-then-table_fits-clause-result_value
returns-then-table_fits-clause-result_value c =
    let o = c.if-not-prepare.ensures.observed refl in
    let l = c.prepare.auto.notes in
    let k = c.represent-missing.auto.notes in
    let r = c.represent-missing.ensures in
    let w = working_made {notes = c.represent-missing.new.notes} o.0 o.1 r.1 r.2 r.3 (omega (arith, l, k, c.requires.2.notes_long)) in
    let fits = sym c.if-not-prepare.ensures.result_value in
    rw c.new-bank.ensures at c.standing_fits.ensures.result_value ∙ standing_decides w r.1 r.2 c.args.standing c.represent-missing.result r.0 fits (sym c.table_fits.ensures ∙ c.if-table_fits.true)

pub returns-then-table_fits-clause-working : goal.returns-then-table_fits-clause-working
returns-then-table_fits-clause-working c =
    let o = c.if-not-prepare.ensures.observed refl in
    let l = c.prepare.auto.notes in
    let k = c.represent-missing.auto.notes in
    let r = c.represent-missing.ensures in
    let w = working_made {notes = c.represent-missing.new.notes} o.0 o.1 r.1 r.2 r.3 (omega (arith, l, k, c.requires.2.notes_long)) in
    λ z. working_kept c.standing_fits.ensures.reps c.standing_fits.auto.notes w

pub returns-else-table_fits-clause-result_value : goal.returns-else-table_fits-clause-result_value
returns-else-table_fits-clause-result_value c =
    let o = c.if-not-prepare.ensures.observed refl in
    let l = c.prepare.auto.notes in
    let k = c.represent-missing.auto.notes in
    let r = c.represent-missing.ensures in
    let w = working_made {notes = c.represent-missing.new.notes} o.0 o.1 r.1 r.2 r.3 (omega (arith, l, k, c.requires.2.notes_long)) in
    let fits = sym c.if-not-prepare.ensures.result_value in
    c.if-table_fits.false ∙ table_settles w r.1 r.2 c.args.standing c.represent-missing.result r.0 fits (sym c.table_fits.ensures ∙ c.if-table_fits.false)

-- `add::fill`: a row whose entry names no place has no frame; from any other the frames are filled.
use Rattle.bank_fill.specs.Adding.{FramesAsked}
use Rattle.bank_fill.proofs.Laws.Filling.{fill_none}
use Rattle.bank_fill.proofs.add.fill.Goals as goal

pub returns-then-down-i-eq0 : goal.returns-then-down-i-eq0
returns-then-down-i-eq0 c = (fill_none c.requires.0 c.args.down.now c.args.row.0 c.args.with.0 c.if-down-i-eq0.true).came

pub fill_frames-requires : goal.fill_frames-requires
fill_frames-requires c =
    let r = c.requires in
    record {
      counts = c.args.counts.now;
      holds = record { bank = r.0; places_long = r.1; row_used = r.2; with_used = r.3; named = c.if-down-i-eq0.false; fits = r.4 };
    }

pub returns : goal.returns
returns c =
    let r = c.requires in
    let a = c.args in
    let asked : FramesAsked a.words.now a.counts.now a.used a.index.now a.down.now a.row.0 a.with.0 =
    record { bank = r.0; places_long = r.1; row_used = r.2; with_used = r.3; named = c.if-down-i-eq0.false; fits = r.4 } in
    c.fill_frames.ensures a.counts.now asked

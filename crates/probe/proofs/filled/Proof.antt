-- `probe::filled` meets its contract: what is no context or no used row is refused, and the rest is the fill along the marks of holes.
use mathlib.Core.Path.{◌≡◌, sym, ◌∙◌}
use mathlib.Core.Bool.{true}
use borrow.Author.Tests.{not-true, not-false}
use borrow.Author.Rules.{rules}
use Rattle.model.specs.Store.{has_hole}
use Rattle.model.specs.Entry.{store_of}
use Rattle.bank_t1.proofs.Laws.T1.{hole_ready}
use Rattle.probe.proofs.Laws.Said.{past_context, no_hole, past_row, filled as filled-law}
use Rattle.probe.proofs.filled.Statement.{statement}
use Rattle.probe.proofs.filled.Tie as tie

-- past each test
abbrev start : tie.Else-used-context → tie.Start
start c = c.before.before.before.before

abbrev tested : tie.After-has_hole → tie.Else-used-context
tested c = c.before

is_hole_law : (c : tie.After-has_hole) →
    c.has_hole.result ≡ has_hole (store_of (start (tested c)).args.words.now (start (tested c)).args.counts.now (start (tested c)).args.used) (start (tested c)).args.context
is_hole_law c = c.has_hole.ensures ∙ hole_ready (start (tested c)).requires (start (tested c)).args.context (tested c).if-used-context.false

holed : (c : tie.Else-not-has_hole) →
    has_hole (store_of (start (tested c.before)).args.words.now (start (tested c.before)).args.counts.now (start (tested c.before)).args.used) (start (tested c.before)).args.context ≡ true
holed c = sym (is_hole_law c.before) ∙ not-false _ c.if-not-has_hole.false-raw

refused-requires : tie.Need-refused-requires
refused-requires c κs = search rules

returns : tie.Need-returns-then-used-context
returns c =
    let s = c.before.before.before.before.before in
    past_context s.args.words.now s.args.counts.now s.args.used s.args.context s.args.with c.before.if-used-context.true c.refused.ensures

has-hole-requires : tie.Need-has_hole-requires
has-hole-requires c κs = search rules

refused-requires-2 : tie.Need-refused-requires-then-not-has_hole
refused-requires-2 c κs = search rules

same_length : tie.Need-shape_of-index-then-not-has_hole
same_length c = search rules

returns-2 : tie.Need-returns-then-not-has_hole
returns-2 c =
    let d = c.before.before in
    let s = start (tested d) in
    no_hole s.args.words.now s.args.counts.now s.args.used s.args.context s.args.with (tested d).if-used-context.false (sym (is_hole_law d) ∙ not-true _ c.before.if-not-has_hole.true-raw) c.refused-then-not-has_hole.ensures

refused-requires-3 : tie.Need-refused-requires-then-used-with
refused-requires-3 c κs = search rules

same-length-2 : tie.Need-shape_of-index-then-used-with
same-length-2 c = search rules

returns-3 : tie.Need-returns-then-used-with
returns-3 c =
    let d = c.before.before in
    let s = start (tested d.before) in
    past_row s.args.words.now s.args.counts.now s.args.used s.args.context s.args.with (tested d.before).if-used-context.false (holed d) c.before.if-used-with.true c.refused-then-used-with.ensures

slice-aggregate-fill-context : tie.Need-slice_bounds-fill_context-end
slice-aggregate-fill-context c = search rules

fill-context-requires : tie.Need-fill_context-added-requires
fill-context-requires c κs =
    let e : tie.Else-used-with = c.before.before.before in
    let d = e.before in
    let s = start (tested d.before) in
    (s.requires, (tested d.before).if-used-context.false, holed d, e.if-used-with.false, s.requires.finding.few)

reply-of-requires : tie.Need-reply_of-requires
reply-of-requires c κs = search rules

same-length-3 : tie.Need-shape_of-words
same-length-3 c = search rules

same-length-4 : tie.Need-shape_of-index
same-length-4 c = search rules

returns-4 : tie.Need-returns
returns-4 c =
    let f = c.before.before.before.before.before.before in
    let e : tie.Else-used-with = f.before.before.before.before in
    let d = e.before in
    let s = start (tested d.before) in
    filled-law s.args.words.now s.args.counts.now s.args.used s.args.context s.args.with (tested d.before).if-used-context.false (holed d) e.if-used-with.false c.reply_of.ensures (record { came = f.fill_context-added.ensures })

pub filled_spec : {M : Type 1} → statement M
filled_spec =
    tie.close
    (tie.spec
    refused-requires
    returns
    has-hole-requires
    refused-requires-2
    same_length
    returns-2
    refused-requires-3
    same-length-2
    returns-3
    slice-aggregate-fill-context
    fill-context-requires
    reply-of-requires
    same-length-3
    same-length-4
    returns-4)

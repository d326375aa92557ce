-- `text_lines::open::alphabet_of` meets its contract: each end by the first bytes of what is left.
use Rattle.std.proofs.Common.{◌∙◌, sym, arith}
use Rattle.text_lines.proofs.Laws.Opening.{opened_not, opened_empty, opening_first, opening_short, opening_stop, opening_unparted, opening_more, opening_last}
use Rattle.text_lines.proofs.open.alphabet_of.Goals as goal

pub returns-then-is_empty : goal.returns-then-is_empty
returns-then-is_empty c = opened_empty c.args.line.now c.args.letters.now c.args.counts.now (grind (arith, c.if-is_empty.ensures)) (omega arith) (omega arith)

pub loop-rest-init : goal.loop-rest-init
loop-rest-init c = opening_first c.args.line.now c.args.letters.now c.args.counts.now (grind (arith, c.if-is_empty.ensures)) (omega arith) (omega arith)

pub returns-then-not-pair_fits : goal.returns-then-not-pair_fits
returns-then-not-pair_fits c =
    opened_not (opening_stop c.loop-rest.invariant c.in-len3-up.len_at_least (sym c.pair_fits.ensures ∙ c.if-not-pair_fits.true)) _ _ _

pub returns-in-empty : goal.returns-in-empty
returns-in-empty c =
    opening_last c.loop-rest.invariant c.in-len3-up.len_at_least (sym c.pair_fits.ensures ∙ c.if-not-pair_fits.false) c.in-empty.len_below

pub loop-rest-preserved : goal.loop-rest-preserved
loop-rest-preserved c =
    opening_more c.loop-rest.invariant c.in-len3-up.len_at_least (sym c.pair_fits.ensures ∙ c.if-not-pair_fits.false) c.in-32.len_at_least (omega arith)

pub returns-in_default-behind : goal.returns-in_default-behind
returns-in_default-behind c =
    opened_not
    (opening_unparted c.loop-rest.invariant c.in-len3-up.len_at_least (sym c.pair_fits.ensures ∙ c.if-not-pair_fits.false) c.in_default-behind.len_at_least (omega arith))
    _ _ _

pub returns : goal.returns
returns c = opened_not (opening_short c.loop-rest.invariant c.in_default.len_below) _ _ _

-- `bank_t1::rows_pass` meets its contract: a row that does not fit or has a twin ends the pass, any other is entered.
use Rattle.std.proofs.Common.{◌∙◌, sym}
use Rattle.bank_t1.proofs.Laws.Pass.{roomy_same, starts, breaks, doubled, goes_on, ends}
use Rattle.bank_t1.proofs.rows_pass.Goals as goal

pub loop-i-init : goal.loop-i-init
loop-i-init c = starts _ _ _ c.requires.0 c.clear.new.index (roomy_same c.clear.new.index c.requires.1 c.clear.auto.index) c.clear.ensures

pub returns-in_default-clause-value : goal.returns-in_default-clause-value
returns-in_default-clause-value c = sym (breaks _ _ _ c.loop-i.invariant c.loop-i-test.true (sym c.in_default.is ∙ c.row_fits.ensures))

pub returns-then-twin-ne0-clause-value : goal.returns-then-twin-ne0-clause-value
returns-then-twin-ne0-clause-value c =
    let twin = c.row_at-twin.ensures ∙ c.seat_of-slot.ensures.1 in
    sym (doubled _ _ _ c.loop-i.invariant c.loop-i-test.true (sym c.in-Some.is ∙ c.row_fits.ensures) (λ e. c.if-twin-ne0.true (twin ∙ e)))

pub loop-i-preserved : goal.loop-i-preserved
loop-i-preserved c =
    let twin = c.row_at-twin.ensures ∙ c.seat_of-slot.ensures.1 in
    rw c.enter.ensures
    (goes_on _ _ _ c.loop-i.invariant c.loop-i-test.true (sym c.in-Some.is ∙ c.row_fits.ensures) c.seat_of-slot.result c.seat_of-slot.ensures.0 c.seat_of-slot.ensures.1 (sym twin ∙ c.if-twin-ne0.false))

pub returns-clause-value : goal.returns-clause-value
returns-clause-value c = sym (ends _ _ _ c.loop-i.invariant c.loop-i-test.false).0

pub returns-clause-marked : goal.returns-clause-marked
returns-clause-marked c = λ f. (ends _ _ _ c.loop-i.invariant c.loop-i-test.false).1

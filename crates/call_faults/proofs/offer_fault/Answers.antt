-- The first line that applies, by the tests made before it: an input without fault, then what is stored, then the verdict.
use Rattle.std.proofs.Common.{sym, refl, arith}
use Rattle.model.proofs.Laws.Trees.{record_fault_parses}
use Rattle.run_lists.specs.Members.{counts_in}
use Rattle.call_faults.proofs.Laws.OfferLines.{line_against, line_last, known_row_within, stored_answer}
use Rattle.call_faults.proofs.offer_fault.Goals as goal

pub known_row-row-requires : goal.known_row-row-requires
known_row-row-requires c =
    let p = record_fault_parses (counts_in c.args.lists) c.args.symbols.now (c.in_ok-input_fault.ensures.free refl).faultless in
    rw c.alphabet.ensures (c.requires.1, p.0, p.2)

pub answer_of-answer-requires : goal.answer_of-answer-requires
answer_of-answer-requires c =
    let s = c.args in
    omega (arith, known_row_within s.words.now (counts_in s.lists) s.lists.used c.requires.1 s.symbols.now, rw c.alphabet.ensures at c.known_row-row.ensures, c.requires.1.finding.room)

pub returns-then-contradicts : goal.returns-then-contradicts
returns-then-contradicts c =
    let s = c.args in
    let v = stored_answer s.words.now (counts_in s.lists) s.lists.used c.requires.1 s.symbols.now _ _ (rw c.alphabet.ensures at c.known_row-row.ensures) c.answer_of-answer.ensures in
    line_against s.words.now s.lists s.symbols.now s.mark (c.in_ok-input_fault.ensures.free refl) _ v (sym c.if-contradicts.ensures)

pub returns-then-verdict_is : goal.returns-then-verdict_is
returns-then-verdict_is c =
    let s = c.args in
    let v = stored_answer s.words.now (counts_in s.lists) s.lists.used c.requires.1 s.symbols.now _ _ (rw c.alphabet.ensures at c.known_row-row.ensures) c.answer_of-answer.ensures in
    line_last s.words.now s.lists s.symbols.now s.mark (c.in_ok-input_fault.ensures.free refl) _ v (sym c.if-contradicts.ensures) _ c.if-verdict_is.ensures

pub returns : goal.returns
returns c =
    let s = c.args in
    let v = stored_answer s.words.now (counts_in s.lists) s.lists.used c.requires.1 s.symbols.now _ _ (rw c.alphabet.ensures at c.known_row-row.ensures) c.answer_of-answer.ensures in
    line_last s.words.now s.lists s.symbols.now s.mark (c.in_ok-input_fault.ensures.free refl) _ v (sym c.if-contradicts.ensures) _ c.if-verdict_is.ensures

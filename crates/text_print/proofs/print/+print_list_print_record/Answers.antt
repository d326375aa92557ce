-- `text_print::print`: the two printers meet their contracts: the parts of a text, written one behind the other, are the text.
use Rattle.std.proofs.Common.{arith, ◌<◌, ◌∙◌, ap, length, get_or}
use Rattle.std.proofs.lemmas.List.{length-set}
use Rattle.bank.specs.Rows.{symbol_in}
use Rattle.text.specs.Written.{letter_of}
use Rattle.text_print.proofs.Laws.Printing.{count_is, kid_early, text_some, list_end}
use Rattle.text_print.proofs.Laws.Printed.{prints_end, prints_leaf, count_read, comma_fits, child_fits, others_fit, list_run, bracket_fits, first_fits, rest_fits, record_run}
use Rattle.text_print.proofs.print.+print_list_print_record.Goals as goal

pub print_list-bounds-out-at : goal.print_list-bounds-out-at
print_list-bounds-out-at t c =
    let s = c.args in
    let n = count_read c.requires.0 s.row.0 c.requires.1 s.letters.now c.symbol_of-symbol.ensures c.count_of.ensures in
    let e = c.if-place-count_of.true ∙ n in
    omega (arith, ap length (list_end c.requires.0 s.row.0 c.requires.1 s.letters.now s.place e), c.requires.3)

pub print_list-returns-then-place-count_of : goal.print_list-returns-then-place-count_of
print_list-returns-then-place-count_of t c =
    let s = c.args in
    let n = count_read c.requires.0 s.row.0 c.requires.1 s.letters.now c.symbol_of-symbol.ensures c.count_of.ensures in
    let e = c.if-place-count_of.true ∙ n in
    let r = prints_end c.requires.0 s.row.0 c.requires.1 s.letters.now s.place s.at s.out.now e (omega (arith, ap length (list_end c.requires.0 s.row.0 c.requires.1 s.letters.now s.place e), c.requires.3)) in
    record { value = r.end; out = r.bytes }

pub print_list-bounds-out-at-2 : goal.print_list-bounds-out-at-2
print_list-bounds-out-at-2 t c =
    let s = c.args in
    let n = count_read c.requires.0 s.row.0 c.requires.1 s.letters.now c.symbol_of-symbol.ensures c.count_of.ensures in
    let left : s.place < get_or s.counts.now (symbol_in s.words.now s.row.0) 0 = omega (arith, c.if-place-count_of.false, n, c.requires.2, count_is c.requires.0 s.row.0 c.requires.1) in
    comma_fits c.requires.0 s.row.0 c.requires.1 s.letters.now s.place left s.at s.out.now c.requires.3

pub print_list-kid_of-kid-requires : goal.print_list-kid_of-kid-requires
print_list-kid_of-kid-requires t c =
    let s = c.args in
    let n = count_read c.requires.0 s.row.0 c.requires.1 s.letters.now c.symbol_of-symbol.ensures c.count_of.ensures in
    let few = c.requires.0.good.wide (symbol_in s.words.now s.row.0) in
    let left : s.place < get_or s.counts.now (symbol_in s.words.now s.row.0) 0 = omega (arith, c.if-place-count_of.false, n, c.requires.2, count_is c.requires.0 s.row.0 c.requires.1) in
    (omega (arith, c.requires.0.room, c.requires.1), omega (arith, left, few))

pub print_list-overflow_cast-kid : goal.print_list-overflow_cast-kid
print_list-overflow_cast-kid t c =
    let s = c.args in
    let n = count_read c.requires.0 s.row.0 c.requires.1 s.letters.now c.symbol_of-symbol.ensures c.count_of.ensures in
    let left : s.place < get_or s.counts.now (symbol_in s.words.now s.row.0) 0 = omega (arith, c.if-place-count_of.false, n, c.requires.2, count_is c.requires.0 s.row.0 c.requires.1) in
    let early = kid_early c.requires.0 s.row.0 c.requires.1 s.place left c.kid_of-kid.result c.kid_of-kid.ensures in
    omega (arith, early, c.requires.1, c.ranges.used.fits)

pub print_list-print_record-next-requires : goal.print_list-print_record-next-requires
print_list-print_record-next-requires t c =
    let s = c.args in
    let n = count_read c.requires.0 s.row.0 c.requires.1 s.letters.now c.symbol_of-symbol.ensures c.count_of.ensures in
    let left : s.place < get_or s.counts.now (symbol_in s.words.now s.row.0) 0 = omega (arith, c.if-place-count_of.false, n, c.requires.2, count_is c.requires.0 s.row.0 c.requires.1) in
    let early = kid_early c.requires.0 s.row.0 c.requires.1 s.place left c.kid_of-kid.result c.kid_of-kid.ensures in
    (omega (arith, c.decreases, early, left), (c.requires.0, omega (arith, early, c.requires.1), child_fits c.requires.0 s.row.0 c.requires.1 s.letters.now s.place left s.at s.out.now c.requires.3 c.kid_of-kid.result c.kid_of-kid.ensures))

pub print_list-print_list-requires : goal.print_list-print_list-requires
print_list-print_list-requires t c =
    let s = c.args in
    let n = count_read c.requires.0 s.row.0 c.requires.1 s.letters.now c.symbol_of-symbol.ensures c.count_of.ensures in
    let few = c.requires.0.good.wide (symbol_in s.words.now s.row.0) in
    let left : s.place < get_or s.counts.now (symbol_in s.words.now s.row.0) 0 = omega (arith, c.if-place-count_of.false, n, c.requires.2, count_is c.requires.0 s.row.0 c.requires.1) in
    let v = c.print_record-next.ensures in
    (omega (arith, c.decreases, left, few), (c.requires.0, c.requires.1, omega (arith, left, count_is c.requires.0 s.row.0 c.requires.1), others_fit c.requires.0 s.row.0 c.requires.1 s.letters.now s.place left s.at s.out.now c.requires.3 c.kid_of-kid.result c.kid_of-kid.ensures v.value v.out))

pub print_list-returns : goal.print_list-returns
print_list-returns t c =
    let s = c.args in
    let n = count_read c.requires.0 s.row.0 c.requires.1 s.letters.now c.symbol_of-symbol.ensures c.count_of.ensures in
    let left : s.place < get_or s.counts.now (symbol_in s.words.now s.row.0) 0 = omega (arith, c.if-place-count_of.false, n, c.requires.2, count_is c.requires.0 s.row.0 c.requires.1) in
    let v = c.print_record-next.ensures in
    let r = list_run c.requires.0 s.row.0 c.requires.1 s.letters.now s.place left s.at s.out.now c.requires.3 c.kid_of-kid.result c.kid_of-kid.ensures v.value v.out c.print_list.ensures.value c.print_list.ensures.out in
    record { value = r.end; out = r.bytes }

pub print_record-bounds-out-at : goal.print_record-bounds-out-at
print_record-bounds-out-at t c =
    let s = c.args in
    omega (arith, c.requires.2, text_some c.requires.0 s.row.0 c.requires.1 s.letters.now)

pub print_record-returns-then-count_of-eq0 : goal.print_record-returns-then-count_of-eq0
print_record-returns-then-count_of-eq0 t c =
    let s = c.args in
    let n = count_read c.requires.0 s.row.0 c.requires.1 s.letters.now c.symbol_of-symbol.ensures c.count_of.ensures in
    let is = c.letter_of.ensures ∙ ap (letter_of s.letters.now) c.symbol_of-symbol.ensures in
    let begins : s.at < length s.out.now = omega (arith, c.requires.2, text_some c.requires.0 s.row.0 c.requires.1 s.letters.now) in
    let r = prints_leaf c.requires.0 s.row.0 c.requires.1 s.letters.now c.letter_of.result is s.at s.out.now (omega (arith, c.if-count_of-eq0.true, n)) begins in
    record { value = r.end; out = r.bytes }

pub print_record-bounds-out-at-2 : goal.print_record-bounds-out-at-2
print_record-bounds-out-at-2 t c =
    let s = c.args in
    let n = count_read c.requires.0 s.row.0 c.requires.1 s.letters.now c.symbol_of-symbol.ensures c.count_of.ensures in
    let some : 0 < get_or s.counts.now (symbol_in s.words.now s.row.0) 0 = omega (arith, c.if-count_of-eq0.false, n) in
    simp length-set (bracket_fits c.requires.0 s.row.0 c.requires.1 s.letters.now c.letter_of.result some s.at s.out.now c.requires.2)

pub print_record-overflow_cast-first : goal.print_record-overflow_cast-first
print_record-overflow_cast-first t c =
    let s = c.args in
    let n = count_read c.requires.0 s.row.0 c.requires.1 s.letters.now c.symbol_of-symbol.ensures c.count_of.ensures in
    let some : 0 < get_or s.counts.now (symbol_in s.words.now s.row.0) 0 = omega (arith, c.if-count_of-eq0.false, n) in
    let early = kid_early c.requires.0 s.row.0 c.requires.1 0 some c.kid_of-first.result c.kid_of-first.ensures in
    omega (arith, early, c.requires.1, c.ranges.used.fits)

pub print_record-print_record-next-requires : goal.print_record-print_record-next-requires
print_record-print_record-next-requires t c =
    let s = c.args in
    let n = count_read c.requires.0 s.row.0 c.requires.1 s.letters.now c.symbol_of-symbol.ensures c.count_of.ensures in
    let some : 0 < get_or s.counts.now (symbol_in s.words.now s.row.0) 0 = omega (arith, c.if-count_of-eq0.false, n) in
    let early = kid_early c.requires.0 s.row.0 c.requires.1 0 some c.kid_of-first.result c.kid_of-first.ensures in
    (omega (arith, c.decreases, early), (c.requires.0, omega (arith, early, c.requires.1), first_fits c.requires.0 s.row.0 c.requires.1 s.letters.now c.letter_of.result some s.at s.out.now c.requires.2 c.kid_of-first.result c.kid_of-first.ensures))

pub print_record-print_list-requires : goal.print_record-print_list-requires
print_record-print_list-requires t c =
    let s = c.args in
    let n = count_read c.requires.0 s.row.0 c.requires.1 s.letters.now c.symbol_of-symbol.ensures c.count_of.ensures in
    let some : 0 < get_or s.counts.now (symbol_in s.words.now s.row.0) 0 = omega (arith, c.if-count_of-eq0.false, n) in
    let v = c.print_record-next.ensures in
    (omega (arith, c.decreases), (c.requires.0, c.requires.1, omega (arith, some, count_is c.requires.0 s.row.0 c.requires.1), omega (arith, rest_fits c.requires.0 s.row.0 c.requires.1 s.letters.now c.letter_of.result some s.at s.out.now c.requires.2 c.kid_of-first.result c.kid_of-first.ensures v.value v.out)))

pub print_record-returns : goal.print_record-returns
print_record-returns t c =
    let s = c.args in
    let n = count_read c.requires.0 s.row.0 c.requires.1 s.letters.now c.symbol_of-symbol.ensures c.count_of.ensures in
    let is = c.letter_of.ensures ∙ ap (letter_of s.letters.now) c.symbol_of-symbol.ensures in
    let some : 0 < get_or s.counts.now (symbol_in s.words.now s.row.0) 0 = omega (arith, c.if-count_of-eq0.false, n) in
    let v = c.print_record-next.ensures in
    let r = record_run c.requires.0 s.row.0 c.requires.1 s.letters.now c.letter_of.result some s.at s.out.now c.requires.2 c.kid_of-first.result c.kid_of-first.ensures v.value v.out is c.print_list.ensures.value c.print_list.ensures.out in
    record { value = r.end; out = r.bytes }

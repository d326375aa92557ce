-- `bank_t1::row_fits` meets its contract: what the children say settles the test of the node, and the answer is tested beside it.
use Rattle.std.proofs.Common.{◌≡◌, ◌∙◌, sym, ap, arith, ℕ, ◌<◌, ◌≤◌, List, length, get_or}
use mathlib.Core.Logic.{⊎_elim}
use Rattle.bank.specs.Rows.{symbol_in, answer_in}
use Rattle.bank_t1.specs.Pass.{kids_in}
use Rattle.bank_t1.proofs.Laws.Row.{small, says_unknown, says_answered, says_broken, says_blotted, says_record, says_blank}
use Rattle.bank_t1.proofs.row_fits.Goals as goal

-- the count that was read is that of the row's symbol
count_of : (ns : List ℕ) (a b n : ℕ) → a ≡ b → n ≡ get_or ns a 0 → n ≡ get_or ns b 0
count_of ns a b n e f = f ∙ ap (λ (k : ℕ). get_or ns k 0) e

pub kids_of-requires : goal.kids_of-requires
kids_of-requires c =
    let r = c.requires.0 in
    let e = count_of c.args.counts.now _ _ _ c.symbol_of.ensures (c.in_ok-count.ensures.lookup.3.1 0) in
    (omega (arith, r.room), omega (arith, r.few), rw e (small r c.requires.1), omega (arith, r.long))

pub returns-in_err-count : goal.returns-in_err-count
returns-in_err-count c =
    let l = c.in_err-count.ensures.lookup.3 in
    let e = c.symbol_of.ensures in
    c.from_residual.ensures ∙ says_unknown c.requires.0 c.requires.1 (omega arith)

pub returns-then-answer-gt2 : goal.returns-then-answer-gt2
returns-then-answer-gt2 c = let e = c.answer_of-answer.ensures in says_answered c.requires.0 c.requires.1 (omega arith)

pub returns-in_err-hole : goal.returns-in_err-hole
returns-in_err-hole c =
    let s = c.args in
    let e = c.symbol_of.ensures in
    let l = c.in_ok-count.ensures.lookup.3 in
    let known : symbol_in s.words.now s.row.0 < length s.counts.now = omega (arith, l.0) in
    let told = c.in_err-hole.ensures ∙ ap (kids_in s.words.now s.index.now s.row.0) (count_of s.counts.now _ _ _ e (l.1 0)) in
    c.from_residual-in_err-hole.ensures ∙ says_broken c.requires.0 c.requires.1 known told

pub returns-then-answer-ne0 : goal.returns-then-answer-ne0
returns-then-answer-ne0 c =
    let s = c.args in
    let e = c.symbol_of.ensures in
    let a = c.answer_of-answer.ensures in
    let l = c.in_ok-count.ensures.lookup.3 in
    let known : symbol_in s.words.now s.row.0 < length s.counts.now = omega (arith, l.0) in
    let fine : answer_in s.words.now s.row.0 ≤ 2 = omega arith in
    let told = c.in_ok-hole.ensures ∙ ap (kids_in s.words.now s.index.now s.row.0) (count_of s.counts.now _ _ _ e (l.1 0)) in
    says_blotted c.requires.0 c.requires.1 known fine _ told c.if-hole-ne0.true (λ z. c.if-answer-ne0.true (a ∙ z))

pub returns : goal.returns
returns c =
    let s = c.args in
    let e = c.symbol_of.ensures in
    let a = c.answer_of-answer.ensures in
    let l = c.in_ok-count.ensures.lookup.3 in
    let known : symbol_in s.words.now s.row.0 < length s.counts.now = omega (arith, l.0) in
    let fine : answer_in s.words.now s.row.0 ≤ 2 = omega arith in
    let told = c.in_ok-hole.ensures ∙ ap (kids_in s.words.now s.index.now s.row.0) (count_of s.counts.now _ _ _ e (l.1 0)) in
    ⊎_elim
    (λ w. says_blank c.requires.0 c.requires.1 known fine _ told (sym a ∙ w.1))
    (says_record c.requires.0 c.requires.1 known fine _ told)
    c.else-hole-ne0.either

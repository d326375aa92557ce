-- Past 18 and 17: row 0 is the hole's, and the lists are those of a run that has learnt nothing.
use Rattle.std.proofs.Common.{◌≡◌, true, ap, sym, subst, ◌∙◌, arith}
use Rattle.model.specs.Entry.{lists_fit, rows_lent}
use Rattle.model.specs.declared.Lists.{Lists}
use Rattle.model.proofs.Laws.Lent.{size_fits_facts}
use Rattle.call.specs.Calls.{look_told}
use Rattle.call.proofs.Laws.Started.{started_fit, started_told, hole_written, start_taken}
use Rattle.call.proofs.start.Goals as goal

pub returns : goal.returns
returns c =
    let ws = c.args.words.now in
    let ns = c.args.counts.now in
    let e = sym c.size_fits.ensures ∙ c.if-not-size_fits.false in
    let a = sym c.alphabet_fits.ensures ∙ c.if-not-alphabet_fits.false in
    let f = size_fits_facts ws e in
    let m = c.fresh.ensures in
    let n = rows_lent ws in
    let t = subst (λ (l : Lists). lists_fit l ≡ true) (sym m) (started_fit n ns a) in
    λ l. start_taken ws ns l e a c.fresh.result t (ap look_told m ∙ started_told n ns) m c.write_row.new.words
    (c.write_row.ensures.words ∙ hole_written ws ns (omega (arith, f.whole, f.some)))

-- `text_reply::offer` meets its contract: the symbols of the line's record are read, and an offer of them is made if there are any.
use Rattle.std.proofs.Common.{sym, take, drop}
use Rattle.std.proofs.lemmas.List.{length-take-le}
use Rattle.model.specs.Calls.{offers}
use Rattle.text.specs.Reading.{read_text}
use Rattle.text.specs.Script.{letters_of, counts_of}
use Rattle.text_reply.proofs.Laws.Hearing.{made_tellable, made_heard, text_within, offer_made}
use Rattle.text_reply.proofs.offer.Goals as goal

pub slice_bounds-text-end-2 : goal.slice_bounds-text-end-2
slice_bounds-text-end-2 c =
    text_within (read_text (letters_of c.args.script) (counts_of c.args.script) (drop 2 c.args.line.now)) c.record_in.new.text c.in-Some.size c.in-Some.ensures

pub slice_bounds-offered-end : goal.slice_bounds-offered-end
slice_bounds-offered-end c =
    sym (length-take-le c.in-Some.size c.record_in.new.text
    (text_within (read_text (letters_of c.args.script) (counts_of c.args.script) (drop 2 c.args.line.now)) c.record_in.new.text c.in-Some.size c.in-Some.ensures))

pub offered-requires : goal.offered-requires
offered-requires c =
    let d = c.offer-done in
    (d.ensures.fit, made_tellable c.args.words.now c.args.script (offers (take c.in-Some.size c.record_in.new.text) c.args.mark) d.result d.new.words d.ensures, c.requires.0)

pub returns : goal.returns
returns c =
    let d = c.offer-done in
    offer_made c.args.words.now c.args.script c.args.line.now c.args.mark c.in-Some.ensures
    (made_heard c.args.words.now c.args.script (offers (take c.in-Some.size c.record_in.new.text) c.args.mark) d.result d.new.words d.ensures c.offered.ensures)

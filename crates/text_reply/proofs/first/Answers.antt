-- Read, the first line is a start; refused, it ends the script. What a start leaves can be told: it asks nothing.
use Rattle.std.proofs.Common.{[], take, ◌∙◌}
use Rattle.text.specs.Alphabet.{alphabet_of}
use Rattle.text_reply.proofs.Laws.Left.{start_tellable}
use Rattle.text_reply.proofs.Laws.Replying.{opened_read, opened_refused, opened_taken}
use Rattle.text_reply.proofs.first.Goals as goal

pub told-requires : goal.told-requires
told-requires c = (c.in-Ok.ensures c.args.script.lists).fit

pub told-requires-in-Ok : goal.told-requires-in-Ok
told-requires-in-Ok c =
    (start_tellable c.args.words.now (take c.in-Some.n c.alphabet_of.new.counts) (c.told.ensures [] ∙ (c.in-Ok.ensures c.args.script.lists).seen), c.requires)

pub returns-in-Ok : goal.returns-in-Ok
returns-in-Ok c =
    let z = c.args.script in
    opened_taken c.args.words.now (take c.in-Some.n c.alphabet_of.new.counts) z c.start.result c.start.new.words (c.start.ensures z.lists)
    (opened_read (alphabet_of c.args.line.now) c.in-Some.n z.letters c.alphabet_of.new.letters c.alphabet_of.new.counts c.in-Some.ensures)
    c.in-Ok.lists c.in-Ok.is (c.told.ensures []) c.told-in-Ok.ensures

pub returns-in-Err : goal.returns-in-Err
returns-in-Err c =
    let z = c.args.script in
    opened_refused c.args.words.now (take c.in-Some.n c.alphabet_of.new.counts) z c.start.result c.start.new.words (c.start.ensures z.lists)
    (opened_read (alphabet_of c.args.line.now) c.in-Some.n z.letters c.alphabet_of.new.letters c.alphabet_of.new.counts c.in-Some.ensures)
    c.in-Err.refusal c.in-Err.is c.from.ensures c.at_stage-in-Err.result c.at_stage-in-Err.ensures c.told-in-Err.ensures

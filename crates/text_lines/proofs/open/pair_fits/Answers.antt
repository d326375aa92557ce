-- `text_lines::open::pair_fits`: what `contains` answers, in the words of specs/Alphabet.
use Rattle.std.proofs.Common.{◌∙◌, arith}
use Rattle.std.proofs.lemmas.Bool.Decides.{nat_tests}
use Rattle.model.proofs.Laws.Methods.{any_among}
use Rattle.text_lines.proofs.open.pair_fits.Goals as goal

pub returns-then-is_ascii_digit : goal.returns-then-is_ascii_digit
returns-then-is_ascii_digit c =
    let e = c.contains.ensures.value ∙ any_among c.args.letter c.args.letters.now in
    grind (arith, nat_tests, e)

-- What a later line asks for (§8.3).
use Rattle.std.specs.Prelude.{◌&&◌, cond, List, ℕ, leb, length}
use Rattle.model.specs.Base.{same}
use Rattle.text.specs.Bytes.{yes_word, no_word, ok_word, most_input}
use Rattle.text.specs.Lines.{is_offer, sign_mark}
use Rattle.text_lines.specs.declared.lines.Asked.{Asked}

-- what a later line asks for, the record of an offer not yet read
abbrev pub asked_of : (line : List ℕ) → Asked
asked_of bs =
    cond (same bs yes_word) (Asked.Answer 1)
    (cond (same bs no_word) (Asked.Answer 0)
    (cond (same bs ok_word) Asked.Accept
    (cond (is_offer bs && leb (length bs) most_input) (Asked.Offer (sign_mark bs)) Asked.Nothing)))

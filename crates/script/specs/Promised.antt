-- Every promise of the script program at once: one record, of which proofs/Promises.antt has the one value.
use Rattle.script.specs.LineEnd.{LinesCut}
use Rattle.script.specs.Turns.{TurnsAnswer, TurnsKept}

pub record Promised : Type 0 where
  pub lines_cut : LinesCut
  pub turns_answer : TurnsAnswer
  pub turns_kept : TurnsKept

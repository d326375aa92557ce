-- Every promise kept, each by the term of its own file.
use Rattle.script.specs.Promised.{Promised}
use Rattle.script.proofs.LineEnd.{lines_cut}
use Rattle.script.proofs.Turns.{turns_answer, turns_kept}

pub promised : Promised
promised = record { lines_cut = lines_cut; turns_answer = turns_answer; turns_kept = turns_kept }

-- The first q states have their final bytes.
use Rattle.std.proofs.Common.{◌≡◌, length, take}
use Rattle.model.specs.Limits.{most_states}
use Rattle.model.specs.Table.{finals_of}
use Rattle.model.specs.Entry.{answers_in}
use Rattle.call_emit.proofs.write_finals.Given as goal

abbrev pub invariant-loop-q : goal.invariant-loop-q
invariant-loop-q l = (length l.finals ≡ most_states) × (take l.q l.finals ≡ finals_of (answers_in l.used l.words) (take l.q l.s))

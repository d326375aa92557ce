-- `script::whole`: what is left of the input decides, from the place known so far.
use Rattle.std.proofs.Common.{◌≡◌, drop}
use Rattle.script.specs.LineEnd.{whole_from}
use Rattle.script.proofs.whole.Given as goal

abbrev pub invariant-loop-i : goal.invariant-loop-i
invariant-loop-i l = whole_from l.i l.end (drop l.i l.input) ≡ whole_from l.from l.at (drop l.from l.input)

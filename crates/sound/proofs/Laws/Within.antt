-- Sound tables are within their words.
use mathlib.Core.Path.{◌≡◌}
use mathlib.Core.Bool.{true}
use mathlib.Core.List.{List}
use Prim.Native.Nat.{ℕ, ◌*◌, ◌≤◌}
use native.Mathlib.Omega.{arith}
use lib.ListN.{length}
use Rattle.model.specs.Limits.{row_width}
use Rattle.model.specs.Sound.{is_sound}
use Rattle.model.specs.Entry.{tables_of}
use Rattle.model.specs.declared.Lists.{Lists}
use Rattle.model.proofs.Laws.Lent.{rows_within}
use Rattle.model.proofs.Laws.Sounds.{sound_facts}
use Rattle.bank.proofs.Laws.Words.{used_of}
use Rattle.run_lists.specs.Members.{counts_in}

pub sound_within : (ws : List ℕ) (l : Lists) → is_sound (tables_of ws l) ≡ true → row_width * l.used ≤ length ws
sound_within ws l e =
    let g = (sound_facts (tables_of ws l) e).nearly.core.good in
    let u = used_of ws (counts_in l) l.used in
    rows_within ws l.used (omega (arith, g.fits))

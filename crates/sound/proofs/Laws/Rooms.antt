-- Room to work in: slices that are long enough for the rows lent and for n transitions.
use mathlib.Core.Path.{◌≡◌}
use mathlib.Core.Bool.{true}
use mathlib.Core.List.{List}
use Prim.Native.Nat.{ℕ, ◌*◌, ◌≤◌, ◌<◌}
use native.Mathlib.Omega.{arith}
use lib.ListN.{length}
use Rattle.model.specs.Limits.{row_width, most_rows, most_contexts}
use Rattle.model.specs.Entry.{size_fits}
use Rattle.model.proofs.Laws.Lent.{size_fits_facts}
use Rattle.bank.specs.Index.{index_width}
use Rattle.bank.specs.Notes.{note_width}
use Rattle.sound.specs.Working.{Room}

-- the words of all rows, and no more, are lent
pub words_few : (ws : List ℕ) → size_fits ws ≡ true → length ws ≤ row_width * most_rows
words_few ws e = let w = size_fits_facts ws e in omega (arith, w.whole, w.most)

-- slices for k rows
pub room_for : {ws : List ℕ} {n : ℕ} {index table notes : List ℕ} (k : ℕ) → length ws ≤ row_width * k → 0 < k → k ≤ most_rows → length index ≡ index_width * k → most_contexts * n ≤ length table →
    length notes ≡ note_width * k → Room ws n index table notes
room_for k l a b c d e = record { rows = record { some = omega arith; few = omega arith; long = omega arith }; table_long = d; notes_long = omega arith }

-- A turn noted: three numbers, one in each column behind the representatives. Each column gets its own number, and the representatives stay.
use mathlib.Core.Path.{◌≡◌, ap, ◌∙◌}
use mathlib.Core.List.{List}
use Prim.Native.Nat.{ℕ, ◌+◌, ◌*◌, ◌<◌}
use native.Mathlib.Omega.{arith}
use lib.ListN.{set}
use Rattle.bank.specs.Notes.{room_in, reps_in, down_in, spots_in, exchanged_in}
use Rattle.bank.proofs.Laws.Notes.{room_set, column_set, column_behind, column_before}

module _ (ns : List ℕ) (i place spot row : ℕ) where
  -- the notes after one write, after two, after all three
  abbrev one : List ℕ
  one = set ns (room_in ns + i) place

  abbrev two : List ℕ
  two = set one (2 * room_in ns + i) spot

  abbrev noted : List ℕ
  noted = set two (3 * room_in ns + i) row

  room_one : room_in one ≡ room_in ns
  room_one = room_set ns (room_in ns + i) place

  room_two : room_in two ≡ room_in ns
  room_two = room_set one (2 * room_in ns + i) spot ∙ room_one

  pub turn_noted : i < room_in ns →
      (reps_in noted ≡ reps_in ns) × (down_in noted ≡ set (down_in ns) i place) × (spots_in noted ≡ set (spots_in ns) i spot) × (exchanged_in noted ≡ set (exchanged_in ns) i row)
  turn_noted l =
      let a = 2 * room_in ns + i in
      let b = 3 * room_in ns + i in (
        column_before two b row 0 (omega (arith, room_two)) ∙ column_before one a spot 0 (omega (arith, room_one)) ∙ column_before ns (room_in ns + i) place 0 (omega arith),
        column_before two b row 1 (omega (arith, room_two)) ∙ column_before one a spot 1 (omega (arith, room_one)) ∙ column_set ns (room_in ns + i) place 1 i l (omega arith),
        column_before two b row 2 (omega (arith, room_two)) ∙ column_set one a spot 2 i (omega (arith, room_one)) (omega (arith, room_one)) ∙
            ap (λ (vs : List ℕ). set vs i spot) (column_behind ns (room_in ns + i) place 2 (omega arith)),
        column_set two b row 3 i (omega (arith, room_two)) (omega (arith, room_two)) ∙
            ap (λ (vs : List ℕ). set vs i row) (column_behind one a spot 3 (omega (arith, room_one)) ∙ column_behind ns (room_in ns + i) place 3 (omega arith)),
      )

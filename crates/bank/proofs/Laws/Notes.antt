-- Columns of the notes: each is a part of them, as long as there is room for rows; a number written into one is in no other.
use mathlib.Core.Path.{◌≡◌, sym, ap, ◌∙◌}
use mathlib.Core.List.{List, ◌++◌}
use Prim.Native.Nat.{ℕ, ◌+◌, ◌*◌, ◌-◌, ◌/◌, ◌≤◌, ◌<◌}
use native.Mathlib.Omega.{arith}
use lib.ListN.{length, get_or, set, take, drop, length-set, length-drop, length-append}
use lib.Seq.{get_or-take, get_or-drop, length-take-le, take-append_seam, take-set-le, take-set-lt, drop-set-lt, drop-set-add}
use Rattle.model.proofs.Laws.Tests.{by_equal}
use Rattle.bank.specs.Notes.{note_width, room_in, column_in, reps_in}

-- a column ends within the notes
by_four : {A : Type 0} (k : ℕ) → k < note_width → (k ≡ 0 → A) → (k ≡ 1 → A) → (k ≡ 2 → A) → (k ≡ 3 → A) → A
by_four k l a b c d = by_equal k 0 a (λ e. by_equal k 1 b (λ f. by_equal k 2 c (λ g. d (omega arith))))

within : (n k j : ℕ) → k ≡ j → j * (n / note_width) + n / note_width ≤ n → k * (n / note_width) + n / note_width ≤ n
within n k j e h = rw e h

pub column_within : (n k : ℕ) → k < note_width → k * (n / note_width) + n / note_width ≤ n
column_within n k l =
    by_four k l (λ e. within n k 0 e (omega arith)) (λ e. within n k 1 e (omega arith)) (λ e. within n k 2 e (omega arith)) (λ e. within n k 3 e (omega arith))

-- as many numbers as there is room for rows
pub column_long : (ns : List ℕ) (k : ℕ) → k < note_width → length (column_in ns k) ≡ room_in ns
column_long ns k l =
    let h = column_within (length ns) k l in
    length-take-le (room_in ns) (drop (k * room_in ns) ns) (simp length-drop (omega arith))

pub column_at : (ns : List ℕ) (k i : ℕ) → i < room_in ns → get_or (column_in ns k) i 0 ≡ get_or ns (k * room_in ns + i) 0
column_at ns k i l = get_or-take (room_in ns) (drop (k * room_in ns) ns) i 0 l ∙ get_or-drop (k * room_in ns) ns i 0

-- WRITTEN at a position: into its own column, and into no column before or behind it
module _ (ns : List ℕ) (p v : ℕ) where
  pub room_set : room_in (set ns p v) ≡ room_in ns
  room_set = ap (λ (n : ℕ). n / note_width) (length-set ns p v)

  moved : (k : ℕ) → column_in (set ns p v) k ≡ take (room_in ns) (drop (k * room_in ns) (set ns p v))
  moved k = ap (λ (z : ℕ). take z (drop (k * z) (set ns p v))) room_set

  pub column_set : (k i : ℕ) → i < room_in ns → p ≡ k * room_in ns + i → column_in (set ns p v) k ≡ set (column_in ns k) i v
  column_set k i l e =
      moved k ∙ ap (λ (q : ℕ). take (room_in ns) (drop (k * room_in ns) (set ns q v))) e ∙ ap (take (room_in ns)) (drop-set-add (k * room_in ns) ns i v) ∙
      take-set-lt (room_in ns) (drop (k * room_in ns) ns) i v l

  pub column_behind : (k : ℕ) → p < k * room_in ns → column_in (set ns p v) k ≡ column_in ns k
  column_behind k l = moved k ∙ ap (take (room_in ns)) (drop-set-lt (k * room_in ns) ns p v l)

  pub column_before : (k : ℕ) → k * room_in ns + room_in ns ≤ p → column_in (set ns p v) k ≡ column_in ns k
  column_before k l =
      let e : p ≡ k * room_in ns + (p - k * room_in ns) = omega arith in
      moved k ∙ ap (λ (q : ℕ). take (room_in ns) (drop (k * room_in ns) (set ns q v))) e ∙ ap (take (room_in ns)) (drop-set-add (k * room_in ns) ns (p - k * room_in ns) v) ∙
      take-set-le (room_in ns) (drop (k * room_in ns) ns) (p - k * room_in ns) v (omega arith)

-- THE FIRST COLUMN: what stands at the front of the notes
pub reps_front : (ns : List ℕ) → reps_in ns ≡ take (room_in ns) ns
reps_front ns = let e : 0 * room_in ns ≡ 0 = omega arith in ap (λ (k : ℕ). take (room_in ns) (drop k ns)) e

-- written anew, as long as it was
module _ (ns us : List ℕ) (e : length us ≡ room_in ns) where
  pub front_long : length (us ++ drop (room_in ns) ns) ≡ length ns
  front_long = simp (length-append, length-drop) (omega arith)

  pub front_reps : reps_in (us ++ drop (room_in ns) ns) ≡ us
  front_reps =
      let f : room_in (us ++ drop (room_in ns) ns) ≡ length us = ap (λ (n : ℕ). n / note_width) front_long ∙ sym e in
      reps_front (us ++ drop (room_in ns) ns) ∙ ap (λ (k : ℕ). take k (us ++ drop (room_in ns) ns)) f ∙ take-append_seam us (drop (room_in ns) ns)

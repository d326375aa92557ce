-- A round of the program: one read, then all that can be answered. The place and the bytes before it stay, so the turns stay; at the end of the round
-- the place is behind the last newline, or at the end of the input.
-- By what a read leaves, and by the laws of whole lines.
use mathlib.Core.Path.{◌≡◌, sym, ap, subst, ◌∙◌}
use mathlib.Core.List.{List}
use Prim.Native.Nat.{ℕ, ◌+◌, ◌≤◌}
use native.Mathlib.Omega.{arith}
use lib.Dec.{eqb}
use borrow.Author.Tests.{eqb-true, eqb-false}
use lib.ListN.{length, take, drop}
use lib.Seq.{length-take-le, take-take}
use Rattle.text.specs.declared.Script.{Script}
use Rattle.script.specs.LineEnd.{whole_from}
use Rattle.script.specs.Turns.{Reached}
use Rattle.script.specs.Read.{ReadAs}
use Rattle.script.proofs.Laws.{by_test}
use Rattle.script.proofs.Lines.{far, ready_all, ready_lines, whole_within, whole_more, reached_more, stop_whole}

-- a read, and how far can be answered after it
pub record Round (input input' : List ℕ) (read got at end : ℕ) : Type 0 where
  pub came : ReadAs input read got input'
  pub read_within : read ≤ length input
  pub known : at ≡ whole_from 0 0 (take read input)
  pub bank : let bs = take (read + got) input' in end ≡ far bs at read (eqb read (length bs))

module _ {input input' : List ℕ} {read got at end : ℕ} (r : Round input input' read got at end) where
  size_is : length (take (read + got) input') ≡ read + got
  size_is = length-take-le (read + got) input' (omega (arith, r.came.within, r.came.room))

  known_now : at ≡ whole_from 0 0 (take read (take (read + got) input'))
  known_now = r.known ∙ ap (whole_from 0 0) (sym r.came.before ∙ sym (take-take read (read + got) input' (omega arith)))

  -- no more came: all of it
  pub round_all : got ≡ 0 → end ≡ read + got
  round_all e = r.bank ∙ sym (ready_all (take (read + got) input') at read (omega (arith, e, size_is))) ∙ omega (arith, e)

  -- more came: its whole lines
  pub round_lines : (got ≡ 0 → ⊥) → end ≡ whole_from 0 0 (take (read + got) input')
  round_lines e =
      r.bank ∙ sym (ready_lines (take (read + got) input') at read (λ f. e (omega (arith, f, size_is)))) ∙
      whole_more (take (read + got) input') read at (omega (arith, size_is)) known_now

  at_within : at ≤ read
  at_within =
      let w = whole_within 0 0 (take read input) (omega arith) in
      let n = length-take-le read input r.read_within in
      omega (arith, w.1, n, r.known)

  pub round_far : (at ≤ end) × (end ≤ read + got)
  round_far =
      by_test (eqb got 0)
      (λ t. let e = eqb-true got 0 t in (omega (arith, round_all e, at_within), omega (arith, round_all e)))
      (λ t.
      let e = eqb-false got 0 t in
      let bs : List ℕ = take (read + got) input' in
      let m = whole_more bs read at (omega (arith, size_is)) known_now in
      let w = whole_within read at (drop read bs) at_within in
      let v = whole_within 0 0 bs (omega arith) in
      (omega (arith, round_lines e, m, w.0), omega (arith, round_lines e, v.1, size_is)))

  -- the turns lead to the same place
  pub round_reached : {ws : List ℕ} {z : Script} → Reached (take at input) ws z at → Reached (take end input') ws z at
  round_reached h =
      reached_more input input' at end round_far.0 (omega (arith, at_within, r.read_within))
      (sym (take-take at read input' at_within) ∙ ap (take at) r.came.before ∙ take-take at read input at_within) h

  -- and over whole lines they stop at the end
  pub round_stop : {ws : List ℕ} {z : Script} {at' : ℕ} → (got ≡ 0 → ⊥) → Reached (take end input') ws z at' → length (take end input') ≤ at' → at' ≡ end
  round_stop {ws} {z} {at'} e h l =
      let bs : List ℕ = take (read + got) input' in
      let c : take end input' ≡ take end bs = sym (take-take end (read + got) input' round_far.1) in
      stop_whole bs end (round_lines e) (subst (λ (cs : List ℕ). Reached cs ws z at') c h) (subst (λ (cs : List ℕ). length cs ≤ at') c l)

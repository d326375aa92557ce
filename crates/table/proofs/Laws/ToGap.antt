-- A table worked out up to its first gap tells the first unknown answer: what comes behind an unknown answer is not looked at.
-- By induction on the records sought through, and on the contexts of each.
use mathlib.Core.Path.{◌≡◌, refl, sym, ap, ◌∙◌}
use mathlib.Core.Bool.{Bool, true, false, cond}
use mathlib.Core.List.{List, [], ◌∷◌, ◌++◌}
use Prim.Native.Nat.{ℕ, ◌≤◌}
use native.Mathlib.Omega.{arith}
use lib.Dec.{eqb}
use lib.ListN.{length, take, drop, take-append-drop}
use lib.Seq.{take-take}
use Rattle.std.proofs.Common.{Option, None, Some}
use Rattle.model.specs.Store.{Store}
use Rattle.model.specs.Table.{answer_in}
use Rattle.model.specs.Steps.{Sought, none_unknown, unknown, seek_in, seek}
use Rattle.table.specs.declared.Gap.{Gap}
use Rattle.table.specs.Answers.{gap_from, sought_by, ToGap}
use Rattle.table.proofs.Laws.Tied.{sought_tied}

abbrev found : Sought → ℕ
found none_unknown = 0
found (unknown c i) = 1

module _ (x : Store) (w cs : List ℕ) where
  in_more : (ds : List ℕ) (i : ℕ) (a b : Sought) → ((a ≡ none_unknown → ⊥) → b ≡ a) → (seek_in x w ds i a ≡ none_unknown → ⊥) → seek_in x w ds i b ≡ seek_in x w ds i a
  unfolding seek_in
  in_more [] i a b h f = h f
  in_more (d ∷ ds) i a b h f = go (eqb (answer_in x w d i) 0) (in_more ds i a b h) f
    where
      go : (z : Bool) → ((seek_in x w ds i a ≡ none_unknown → ⊥) → seek_in x w ds i b ≡ seek_in x w ds i a) →
          (cond z (unknown d i) (seek_in x w ds i a) ≡ none_unknown → ⊥) → cond z (unknown d i) (seek_in x w ds i b) ≡ cond z (unknown d i) (seek_in x w ds i a)
      go true ih g = refl
      go false ih g = ih g

  seek_more : (is js : List ℕ) → (seek x w cs is ≡ none_unknown → ⊥) → seek x w cs (is ++ js) ≡ seek x w cs is
  unfolding seek
  seek_more [] js f = absurd (f refl)
  seek_more (i ∷ is) js f = in_more cs i (seek x w cs is) (seek x w cs (is ++ js)) (seek_more is js) f

module _ {x : Store} {w t : List ℕ} {n : ℕ} {c : List ℕ} {m : ℕ} {tb : List ℕ} {r : ℕ} (o : ToGap x w t n c m tb r) (long : n ≤ length t) (wide : m ≤ length c) where
  first : sought_by t c (gap_from tb m 0 r) ≡ seek x w (take m c) (take r t)
  first = sought_tied o.observed (omega (arith, o.few)) wide

  parts : take r t ++ drop r (take n t) ≡ take n t
  parts = ap (λ (is : List ℕ). is ++ drop r (take n t)) (sym (take-take r n t o.few)) ∙ take-append-drop r (take n t)

  pub sought_to_gap : sought_by t c (gap_from tb m 0 r) ≡ seek x w (take m c) (take n t)
  sought_to_gap = go (gap_from tb m 0 r) refl
    where
      go : (g : Option Gap) → gap_from tb m 0 r ≡ g → sought_by t c (gap_from tb m 0 r) ≡ seek x w (take m c) (take n t)
      go None e = first ∙ ap (λ (k : ℕ). seek x w (take m c) (take k t)) (o.whole e)
      go (Some g) e =
          first ∙
          sym (seek_more x w (take m c) (take r t) (drop r (take n t)) (λ z. let d : 1 ≡ 0 = ap found (sym (ap (sought_by t c) e) ∙ first ∙ z) in omega arith)) ∙
          ap (seek x w (take m c)) parts

-- The places of the first unknown answer are those of a transition and of a context.
-- By induction on what is left of T: a row's unknown answer is one of the row.
use mathlib.Core.Path.{◌≡◌, refl, ap}
use mathlib.Core.Option as maybe
use mathlib.Core.Option.{none, some}
use mathlib.Core.List.{List}
use Prim.Native.Nat.{ℕ, zero, suc, ◌+◌, ◌≤◌, ◌<◌}
use native.Mathlib.Omega.{arith}
use Rattle.std.proofs.Common.{Some}
use Rattle.table.specs.Answers.{answers_at, Sized, unknown_in, gap_by, gap_from}
use Rattle.table.specs.declared.Gap.{Gap}
use Rattle.table.proofs.Laws.Gap.{unknown_within}

pub record Within (n m k j : ℕ) : Type 0 where
  pub rule : k < n
  pub context : j < m

module _ (tb : List ℕ) (n m : ℕ) (z : Sized tb n m) (g : Gap) where
  within_from : (i count : ℕ) → i + count ≤ n → gap_from tb m i count ≡ Some g → Within n m g.rule g.context.0
  unfolding gap_from
  within_from i zero l e = cc
  within_from i (suc count) l e = go (within_from (suc i) count (omega arith)) (unknown_in (answers_at tb m i) 0) refl e
    where
      go : (gap_from tb m (suc i) count ≡ Some g → Within n m g.rule g.context.0) → (o : maybe.Option ℕ) → unknown_in (answers_at tb m i) 0 ≡ o →
          gap_by i o (gap_from tb m (suc i) count) ≡ Some g → Within n m g.rule g.context.0
      go ih none u p = ih p
      go ih (some v) u p =
          let a : ◌≡◌ {A = Gap} (record { rule = i; context = record { 0 = v } }) g = cc in
          let b : i ≡ g.rule = ap (λ (e : Gap). e.rule) a in
          let d : v ≡ g.context.0 = ap (λ (e : Gap). e.context.0) a in
          let h = unknown_within tb n m i z (omega arith) v u in
          record { rule = omega arith; context = omega arith }

  pub gap_within : gap_from tb m 0 n ≡ Some g → Within n m g.rule g.context.0
  gap_within e = within_from 0 n (omega arith) e

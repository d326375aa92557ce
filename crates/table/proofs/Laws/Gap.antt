-- The first unknown answer by places: what is left of a row, and what is left of T, decides it.
-- By one step of unknown_in and of gap_from; a place that is found is within the row.
use mathlib.Core.Path.{◌≡◌, refl, sym, ap, ◌∙◌}
use mathlib.Core.Bool.{Bool, true, false, cond}
use mathlib.Core.List.{List, [], ◌∷◌}
use mathlib.Core.Option as maybe
use mathlib.Core.Option.{none, some}
use Prim.Native.Nat.{ℕ, suc, ◌+◌, ◌-◌, ◌≤◌, ◌<◌}
use native.Mathlib.Numerals.{add-one}
use native.Mathlib.Omega.{arith}
use lib.Dec.{eqb}
use lib.ListN.{length}
use Rattle.std.proofs.Common.{Option, None, Some, option_map, nat_eq, nat_lt, not, add-zero}
use Rattle.std.proofs.lemmas.Bool.Decides.{nat_tests}
use Rattle.std.specs.List.{position, position_or_len}
use Rattle.model.specs.declared.Context.{Context}
use Rattle.table.specs.Answers.{answers_at, Sized, unknown_in, context_by, gap_by, gap_from}
use Rattle.table.proofs.Laws.Rows.{row_length, row_fits}

-- a place that is found is one of the row
pub unknown_below : (vs : List ℕ) (from j : ℕ) → unknown_in vs from ≡ some j → j < from + length vs
unfolding unknown_in
unknown_below [] from j e = absurd (let z : ◌≡◌ {A = ℕ} 0 1 = cc in omega arith)
unknown_below (v ∷ vs) from j e = go (unknown_below vs (suc from) j) (eqb v 0) e
  where
    go : (unknown_in vs (suc from) ≡ some j → j < suc from + length vs) → (b : Bool) → cond b (some from) (unknown_in vs (suc from)) ≡ some j → j < from + suc (length vs)
    go ih true p = let q : from ≡ j = cc in omega arith
    go ih false p = let l = ih p in omega arith

-- `position` finds it
pub first_found : (vs : List ℕ) (from : ℕ) (r : Option ℕ) → r ≡ position (λ v. nat_eq v 0) vs → context_by (unknown_in vs from) ≡ option_map (λ j. record { 0 = from + j }) r
unfolding unknown_in
first_found [] from r e = rw e
first_found (v ∷ vs) from r e = go (eqb v 0) (position_or_len (λ v. nat_eq v 0) vs) (first_found vs (suc from)) e
  where
    go : (b : Bool) (p : ℕ) → ((o : Option ℕ) → o ≡ cond (nat_lt p (length vs)) (Some p) None → context_by (unknown_in vs (suc from)) ≡ option_map (λ j. record { 0 = suc from + j }) o) →
        r ≡ cond (nat_lt (cond (not b) (1 + p) 0) (suc (length vs))) (Some (cond (not b) (1 + p) 0)) None → context_by (cond b (some from) (unknown_in vs (suc from))) ≡ option_map (λ j. record { 0 = from + j }) r
    go true p ih q = let z : nat_lt 0 (suc (length vs)) ≡ true = grind (arith, nat_tests) in rw (q, z, add-zero from) refl
    go false p ih q =
        let z : nat_lt (1 + p) (suc (length vs)) ≡ nat_lt p (length vs) = grind (arith, nat_tests) in
        rw (q, z) (after (nat_lt p (length vs)) (ih _ refl))
      where
        after : (b : Bool) → context_by (unknown_in vs (suc from)) ≡ option_map (λ j. record { 0 = suc from + j }) (cond b (Some p) None) →
            context_by (unknown_in vs (suc from)) ≡ option_map (λ j. record { 0 = from + j }) (cond b (Some (1 + p)) None)
        after true h = let y : suc from + p ≡ from + (1 + p) = omega arith in rw (← y) h
        after false h = h

-- the context that is found is at its place, and none is found where there is none
pub place_some : (o : maybe.Option ℕ) (c : Context) → Some c ≡ context_by o → o ≡ some c.0
place_some none c e = cc
place_some (some j) c e = cc

pub place_none : (o : maybe.Option ℕ) → None ≡ context_by o → o ≡ none
place_none none e = refl
place_none (some j) e = cc

-- of a row of the table
pub unknown_within : (tb : List ℕ) (n m k : ℕ) → Sized tb n m → k < n → (j : ℕ) → unknown_in (answers_at tb m k) 0 ≡ some j → j < m
unknown_within tb n m k z l j e =
    let b = unknown_below (answers_at tb m k) 0 j e in
    let h = row_length tb m k (row_fits tb n m k z l) in
    omega arith

-- T from k on
module _ (tb : List ℕ) (m n k : ℕ) where
  pub gap_step : k < n → gap_from tb m k (n - k) ≡ gap_by k (unknown_in (answers_at tb m k) 0) (gap_from tb m (k + 1) (n - (k + 1)))
  unfolding gap_from
  gap_step l =
      let e : n - k ≡ suc (n - (k + 1)) = omega arith in
      ap (gap_from tb m k) e ∙ ap (λ (i : ℕ). gap_by k (unknown_in (answers_at tb m k) 0) (gap_from tb m i (n - (k + 1)))) (sym (add-one k))

  pub gap_hit : (c : Context) → k < n → Some c ≡ context_by (unknown_in (answers_at tb m k) 0) → gap_from tb m k (n - k) ≡ Some (record { rule = k; context = c })
  gap_hit c l e = gap_step l ∙ ap (λ (o : maybe.Option ℕ). gap_by k o (gap_from tb m (k + 1) (n - (k + 1)))) (place_some (unknown_in (answers_at tb m k) 0) c e)

  pub gap_pass : k < n → None ≡ context_by (unknown_in (answers_at tb m k) 0) → gap_from tb m k (n - k) ≡ gap_from tb m (k + 1) (n - (k + 1))
  gap_pass l e = gap_step l ∙ ap (λ (o : maybe.Option ℕ). gap_by k o (gap_from tb m (k + 1) (n - (k + 1)))) (place_none (unknown_in (answers_at tb m k) 0) e)

  pub gap_end : n ≤ k → gap_from tb m k (n - k) ≡ None
  unfolding gap_from
  gap_end l = let e : n - k ≡ 0 = omega arith in ap (gap_from tb m k) e

-- The representatives as an array: a transition has a member of S there, another row has 0, and a row is in S if it is its own.
-- A representative has its transition's row of answers, and members of S with equal rows are equal. Row 0 is no transition.
use mathlib.Core.Path.{◌≡◌, refl, sym, ap, subst, ◌∙◌}
use mathlib.Core.Bool.{Bool, true, false, ◌&&◌, not}
use mathlib.Core.List.{List}
use Prim.Native.Nat.{ℕ, ◌≤◌, ◌<◌}
use native.Mathlib.Omega.{arith}
use native.Mathlib.Decide.{ℕ_discrete}
use lib.Dec.{eqb}
use borrow.Author.Tests.{eq-eqb, ne_eqb}
use lib.ListN.{length, get_or}
use Rattle.model.specs.Limits.{most_rows}
use Rattle.model.specs.Base.{In, among}
use Rattle.model.specs.Store.{Store, used}
use Rattle.model.specs.Table.{answers_of}
use Rattle.model.specs.Entry.{store_of}
use Rattle.model.proofs.Laws.Lists.{member_in, not_in, in_not}
use Rattle.model.proofs.Laws.Search.{rep_is}
use Rattle.bank.proofs.Laws.Words.{used_of}
use Rattle.step_search.specs.Spots.{Noted, own_rep}

module _ {x : Store} {w s t cs reps : List ℕ} (f : Noted x w s t cs reps) where
  -- an entry for each used row
  pub reps_long : used x ≤ length reps
  reps_long = let l = f.full.good.fits in omega (arith, f.long)

  pub record RepOf (u : ℕ) : Type 0 where
    pub in_s : In (get_or reps u 0) s
    pub same_row : answers_of x w cs u ≡ answers_of x w cs (get_or reps u 0)
    pub some : 0 < get_or reps u 0

  pub rep_of_law : (u : ℕ) → In u t → RepOf u
  rep_of_law u h =
      let p = rep_is x w s t cs f.full u h in
      let e = sym (f.of_t u h) in
      let m = subst (λ (j : ℕ). In j s) e p.0 in
      record { in_s = m; same_row = p.1 ∙ ap (answers_of x w cs) e; some = (f.full.shaped.row (get_or reps u 0) (f.full.shaped.among (get_or reps u 0) m)).0 }

  -- row 0
  no_hole : In 0 t → ⊥
  no_hole h = let l = (f.full.shaped.row 0 h).0 in omega arith

  pub hole_rep : get_or reps 0 0 ≡ 0
  hole_rep = f.others 0 (omega arith) no_hole

  hole_outside : among 0 s ≡ false
  hole_outside = not_in 0 s (λ h. no_hole (f.full.shaped.among 0 h))

  -- 0 exactly where the row is no transition
  pub no_transition : (u : ℕ) → get_or reps u 0 ≡ 0 → among u t ≡ false
  no_transition u e = not_in u t (λ h. let l = (rep_of_law u h).some in omega arith)

  pub transition : (u : ℕ) → u < most_rows → (get_or reps u 0 ≡ 0 → ⊥) → In u t
  transition u l z = go (among u t) refl
    where
      go : (b : Bool) → among u t ≡ b → In u t
      go true e = member_in u t e
      go false e = absurd (z (f.others u l (in_not u t e)))

  -- A ROW IS IN S if it is its own representative
  own_rep_law : (i : ℕ) → 0 < i → i < most_rows → eqb (get_or reps i 0) i ≡ among i s
  own_rep_law i p l = go (among i s) refl
    where
      go : (b : Bool) → among i s ≡ b → eqb (get_or reps i 0) i ≡ b
      go true e =
          let m = member_in i s e in
          let r = rep_of_law i (f.full.shaped.among i m) in
          eq-eqb (get_or reps i 0) i (sym (f.full.shaped.differ i (get_or reps i 0) m r.in_s r.same_row))
      go false e = ne_eqb (get_or reps i 0) i (λ q. in_not i s e (subst (λ (j : ℕ). In j s) q (rep_of_law i (transition i l (λ z. omega arith))).in_s))

  pub own_among : (i : ℕ) → i < most_rows → own_rep reps i ≡ among i s
  own_among i l = go (ℕ_discrete i 0)
    where
      go : Dec (i ≡ 0) → own_rep reps i ≡ among i s
      go (yes e) = ap (own_rep reps) e ∙ sym (ap (λ (j : ℕ). among j s) e ∙ hole_outside)
      go (no e) = ap (λ (b : Bool). not b && eqb (get_or reps i 0) i) (ne_eqb i 0 e) ∙ own_rep_law i (omega arith) l

-- by the words
pub reps_rows : (ws ns : List ℕ) (n : ℕ) {w s t cs reps : List ℕ} → Noted (store_of ws ns n) w s t cs reps → n ≤ length reps
reps_rows ws ns n f = let l = reps_long f in omega (arith, used_of ws ns n)

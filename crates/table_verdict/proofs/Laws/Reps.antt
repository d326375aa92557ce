-- Representatives noted transition by transition: after the first k, each of them has the representative of its state, and the other rows have 0.
-- A transition stands at one place of T, so what is noted for it is not noted again.
use mathlib.Core.Path.{◌≡◌, refl, sym, ap, ◌∙◌}
use mathlib.Core.Logic.{◌⊎◌, inl, inr}
use mathlib.Core.Bool.{Bool, true, false, cond}
use mathlib.Core.List.{List, [], ◌∷◌, ◌++◌}
use Prim.Native.Nat.{ℕ, zero, suc, ◌+◌, ◌≤◌, ◌<◌}
use native.Mathlib.Numerals.{add-one}
use native.Mathlib.Omega.{arith}
use lib.Dec.{ltb}
use borrow.Author.Tests.{eq-eqb, ne_eqb, ltb-true, ltb-false}
use lib.ListN.{length, get_or, take, set, get_or-eq_default}
use lib.Seq.{take-suc, take_all, get_or-set_same, get_or-set_other}
use Rattle.model.specs.Limits.{most_rows}
use Rattle.model.specs.Base.{In, among, place_of, no_repeats, Distinct, distinct_nil, distinct_cons}
use Rattle.model.proofs.Laws.Lists.{at_place, apart_out, in_left, in_last, in_snoc, in_member, in_not, not_in, member_in}
use Rattle.model.proofs.Laws.ReflectLists.{distinct_of}
use Rattle.model.proofs.Laws.Tests.{by_equal}
use Rattle.table.specs.Answers.{state_at}
use Rattle.table_verdict.specs.Rules.{RepsBy}

-- THE PLACE of the k-th member of a list without repeats
pub own_place : {t : List ℕ} → Distinct t → (n k : ℕ) → k < length t → place_of (get_or t k 0) n t ≡ n + k
unfolding place_of
own_place distinct_nil n k l = absurd (omega arith)
own_place (distinct_cons {x = x} {xs = xs} a d) n zero l = rw (eq-eqb x x refl) (omega arith)
own_place (distinct_cons {x = x} {xs = xs} a d) n (suc k) l =
    let e : get_or xs k 0 ≡ x → ⊥ = λ p. apart_out a (rw p at (at_place xs k (omega arith))) in
    rw (ne_eqb (get_or xs k 0) x e) (own_place d (suc n) k (omega arith) ∙ omega arith)

-- AMONG THE FIRST k, and one more
module _ (t : List ℕ) (k : ℕ) (within : k < length t) where
  one_more : take (k + 1) t ≡ take k t ++ (get_or t k 0 ∷ [])
  one_more = ap (λ (n : ℕ). take n t) (add-one k) ∙ take-suc t k 0 within

  among_last : among (get_or t k 0) (take (k + 1) t) ≡ true
  among_last = ap (among (get_or t k 0)) one_more ∙ in_member (get_or t k 0) (in_last (take k t) (get_or t k 0))

  among_other : (i : ℕ) → (i ≡ get_or t k 0 → ⊥) → among i (take (k + 1) t) ≡ among i (take k t)
  among_other i n = ap (among i) one_more ∙ go (among i (take k t)) refl
    where
      go : (b : Bool) → among i (take k t) ≡ b → among i (take k t ++ (get_or t k 0 ∷ [])) ≡ among i (take k t)
      go true e = in_member i (in_left (get_or t k 0 ∷ []) (member_in i (take k t) e)) ∙ sym e
      go false e = not_in i (take k t ++ (get_or t k 0 ∷ [])) (λ h. either (in_snoc (take k t) h)) ∙ sym e
        where
          either : In i (take k t) ⊎ (i ≡ get_or t k 0) → ⊥
          either (inl h) = in_not i (take k t) e h
          either (inr p) = n p

-- ALL 0: the first i entries are, and none stands beyond
pub all_zero : (reps : List ℕ) (i : ℕ) → length reps ≤ i → ((j : ℕ) → j < i → get_or reps j 0 ≡ 0) → (j : ℕ) → get_or reps j 0 ≡ 0
all_zero reps i l z j = go (ltb j i) refl
  where
    go : (b : Bool) → ltb j i ≡ b → get_or reps j 0 ≡ 0
    go true e = z j (ltb-true j i e)
    go false e = get_or-eq_default reps 0 (omega (arith, ltb-false j i e))

-- AFTER THE FIRST k transitions
pub record RepsTo (table : List ℕ) (m : ℕ) (places s t reps : List ℕ) (k : ℕ) : Type 0 where
  pub right : (i : ℕ) → i < most_rows → get_or reps i 0 ≡ cond (among i (take k t)) (get_or s (state_at table m places (place_of i 0 t)) 0) 0

module _ (table : List ℕ) (m : ℕ) (ps s t : List ℕ) where
  pub reps_start : (reps : List ℕ) → ((i : ℕ) → get_or reps i 0 ≡ 0) → RepsTo table m ps s t reps 0
  unfolding among
  reps_start reps z = record { right = λ i l. z i }

  pub reps_end : {reps : List ℕ} {k : ℕ} → RepsTo table m ps s t reps k → length t ≤ k → RepsBy table m ps s t reps
  reps_end {reps} {k} h l =
      record { right = λ i b. h.right i b ∙ ap (λ (ts : List ℕ). cond (among i ts) (get_or s (state_at table m ps (place_of i 0 t)) 0) 0) (take_all k t l) }

  module _ {reps : List ℕ} {k : ℕ} (h : RepsTo table m ps s t reps k) (within : k < length t) (one : no_repeats t ≡ true) where
    abbrev i : ℕ
    i = get_or t k 0

    abbrev rep : ℕ
    rep = get_or s (state_at table m ps k) 0

    at_k : place_of i 0 t ≡ k
    at_k = own_place (distinct_of t one) 0 k within ∙ omega arith

    last_right : cond (among i (take (k + 1) t)) (get_or s (state_at table m ps (place_of i 0 t)) 0) 0 ≡ rep
    last_right =
        ap (λ (b : Bool). cond b (get_or s (state_at table m ps (place_of i 0 t)) 0) 0) (among_last t k within) ∙ ap (λ (n : ℕ). get_or s (state_at table m ps n) 0) at_k

    other_right : (j : ℕ) → (j ≡ i → ⊥) → j < most_rows → get_or reps j 0 ≡ cond (among j (take (k + 1) t)) (get_or s (state_at table m ps (place_of j 0 t)) 0) 0
    other_right j n l = h.right j l ∙ ap (λ (b : Bool). cond b (get_or s (state_at table m ps (place_of j 0 t)) 0) 0) (sym (among_other t k within j n))

    pub reps_noted : (row v : ℕ) → row ≡ get_or t k 0 → v ≡ get_or s (state_at table m ps k) 0 → row < length reps → RepsTo table m ps s t (set reps row v) (k + 1)
    reps_noted row v p e l =
        record {
          right = λ j b. by_equal j row
              (λ q. ap (λ (o : ℕ). get_or (set reps row v) o 0) q ∙ get_or-set_same reps row v 0 (omega arith) ∙ e ∙ sym last_right ∙
              ap (λ (o : ℕ). cond (among o (take (k + 1) t)) (get_or s (state_at table m ps (place_of o 0 t)) 0) 0) (sym (q ∙ p)))
              (λ q. get_or-set_other reps row j v 0 q ∙ other_right j (λ z. q (z ∙ sym p)) b);
        }

    pub reps_passed : get_or s (state_at table m ps k) 0 ≡ 0 → RepsTo table m ps s t reps (k + 1)
    reps_passed z =
        record {
          right = λ j b. by_equal j i
              (λ q. ap (λ (o : ℕ). get_or reps o 0) q ∙ none_yet b q ∙ sym (last_right ∙ z) ∙
              ap (λ (o : ℕ). cond (among o (take (k + 1) t)) (get_or s (state_at table m ps (place_of o 0 t)) 0) 0) (sym q))
              (λ q. other_right j q b);
        }
      where
        both : (b : Bool) (v : ℕ) → v ≡ 0 → cond b v 0 ≡ 0
        both true v e = e
        both false v e = refl

        none_yet : {j : ℕ} → j < most_rows → j ≡ i → get_or reps i 0 ≡ 0
        none_yet l q =
            h.right i (omega (arith, q)) ∙ both (among i (take k t)) (get_or s (state_at table m ps (place_of i 0 t)) 0) (ap (λ (n : ℕ). get_or s (state_at table m ps n) 0) at_k ∙ z)

-- S as places in T: each of its members has its place there, found one after the other.
-- By the laws of a place in a list.
use mathlib.Core.Path.{◌≡◌, sym, ap, ◌∙◌}
use mathlib.Core.Bool.{true}
use mathlib.Core.List.{List}
use Prim.Native.Nat.{ℕ, ◌+◌, ◌≤◌, ◌<◌}
use native.Mathlib.Omega.{arith}
use lib.ListN.{length, get_or, take, set, length-set}
use lib.Seq.{get_or-take, length-take-le, get_or-set_same, get_or-set_other}
use Rattle.model.specs.Limits.{most_states}
use Rattle.model.specs.Base.{In, all_among, place_of}
use Rattle.model.proofs.Laws.Lists.{place_at, place_within, in_members, each_at, at_place}
use Rattle.model.proofs.Laws.Tests.{by_equal}
use Rattle.table.specs.Answers.{Placing, Placed}

-- PLACES of S in T, the first i of them found
pub record Finding (s t s_in_t : List ℕ) (i : ℕ) : Type 0 where
  pub long : length s_in_t ≡ most_states
  pub most : i ≤ length s
  pub within : (j : ℕ) → j < i → get_or s_in_t j 0 < length t
  pub names : (j : ℕ) → j < i → get_or t (get_or s_in_t j 0) 0 ≡ get_or s j 0

module _ (s t : List ℕ) (f : all_among s t ≡ true) where
  pub place_found : (i : ℕ) → i < length s → (place_of (get_or s i 0) 0 t < length t) × (get_or t (place_of (get_or s i 0) 0 t) 0 ≡ get_or s i 0)
  place_found i l =
      let k : In (get_or s i 0) t = each_at (in_members s t f) (get_or s i 0) (at_place s i l) in
      let p = place_at (get_or s i 0) 0 k in
      let g : place_of (get_or s i 0) 0 t ≡ p.0 = p.1 ∙ (let y : 0 + p.0 ≡ p.0 = omega arith in y) in
      (let z = place_within (get_or s i 0) 0 t k in omega arith, ap (λ (j : ℕ). get_or t j 0) g ∙ p.2)

  pub place_next : {ps : List ℕ} {i : ℕ} → length s ≤ most_states → Finding s t ps i → i < length s → Finding s t (set ps i (place_of (get_or s i 0) 0 t)) (i + 1)
  place_next {ps} {i} few y l =
      let p : ℕ = place_of (get_or s i 0) 0 t in
      let here : get_or (set ps i p) i 0 ≡ p = get_or-set_same ps i p 0 (omega (arith, y.long)) in
      let there : (j : ℕ) → (j ≡ i → ⊥) → get_or (set ps i p) j 0 ≡ get_or ps j 0 = λ j d. get_or-set_other ps i j p 0 d in
      let found = place_found i l in
      record {
        long = length-set ps i p ∙ y.long;
        most = omega arith;
        within = λ j h. by_equal j i (λ e. omega (arith, here, ap (λ (k : ℕ). get_or (set ps i p) k 0) e, found.0)) (λ d. omega (arith, there j d, y.within j (omega (arith, d))));
        names = λ j h.
            by_equal j i (λ e. ap (λ (k : ℕ). get_or t (get_or (set ps i p) k 0) 0) e ∙ ap (λ (k : ℕ). get_or t k 0) here ∙ found.1 ∙ ap (λ (k : ℕ). get_or s k 0) (sym e))
            (λ d. ap (λ (k : ℕ). get_or t k 0) (there j d) ∙ y.names j (omega (arith, d)));
      }

-- all of them found
-- S and T are the first members of longer arrays: their places there
pub places_cut : (s : List ℕ) (q : ℕ) (t : List ℕ) (n : ℕ) {ps : List ℕ} → q ≤ length s → n ≤ length t →
    Placing ps (length (take q s)) (length (take n t)) → Placed (take n t) (length (take n t)) (take q s) (length (take q s)) ps → Placing ps q n × Placed t n s q ps
places_cut s q t n {ps} a b x y =
    let e = length-take-le q s a in
    let d = length-take-le n t b in
    let within : (i : ℕ) → i < q → get_or ps i 0 < n = λ i h. omega (arith, x.within i (omega arith)) in (
      record { long = x.long; few = omega (arith, x.few); within = within },
      λ i h. (within i h, sym (get_or-take n t (get_or ps i 0) 0 (within i h)) ∙ (y i (omega arith)).1 ∙ get_or-take q s i 0 h),
    )

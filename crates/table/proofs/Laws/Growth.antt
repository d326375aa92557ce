-- The state of a row and the growth of S by places: what is left of S, and what is left of T, decides.
-- By one step of state_from and of grow, at a list taken apart by drop.
use mathlib.Core.Path.{◌≡◌, refl, sym, ap, ◌∙◌}
use mathlib.Core.Bool.{Bool, true, false}
use mathlib.Core.List.{List, [], ◌∷◌, ◌++◌}
use mathlib.Core.Option as maybe
use mathlib.Core.Option.{none, some}
use Prim.Native.Nat.{ℕ, suc, ◌+◌, ◌-◌, ◌≤◌, ◌<◌}
use native.Mathlib.Numerals.{add-one}
use native.Mathlib.Omega.{arith}
use borrow.Author.Tests.{lt-ltb, le-ltb, le-leb, lt-leb}
use native.Mathlib.Decide.{ℕ_discrete}
use lib.ListN.{length, get_or, take, drop, set, drop_of_length-le, length-set}
use lib.Seq.{drop-cons, get_or-take, length-take-le, take-suc-set, get_or-set_same, get_or-set_other}
use Rattle.std.proofs.Common.{None, Some}
use Rattle.model.specs.Limits.{most_states}
use Rattle.model.specs.Base.{same}
use Rattle.model.specs.Table.{state_from}
use Rattle.model.specs.Steps.{grow}
use Rattle.model.proofs.Laws.Renamed.{state_most}
use Rattle.table.specs.declared.Places.{Places}
use Rattle.table.specs.Answers.{places_from, grown_by}

-- a state is a place in S, or the one past it
state_within : (r : ℕ → List ℕ) (v : List ℕ) (n : ℕ) (ps : List ℕ) → n ≤ length ps → state_from r v 0 (take n ps) ≤ n
state_within r v n ps h =
    let e = length-take-le n ps h in
    let b = state_most r v 0 (take n ps) in
    omega arith

-- S from q on
pub left : (n : ℕ) (ps : List ℕ) → n ≤ length ps → (q : ℕ) → q < n → drop q (take n ps) ≡ get_or ps q 0 ∷ drop (q + 1) (take n ps)
left n ps h q l =
    drop-cons (take n ps) q 0 (let e = length-take-le n ps h in omega arith) ∙
    ap (λ (p : ℕ). p ∷ drop (suc q) (take n ps)) (get_or-take n ps q 0 l) ∙
    ap (λ (i : ℕ). get_or ps q 0 ∷ drop i (take n ps)) (sym (add-one q))

pub left_none : (n : ℕ) (ps : List ℕ) → n ≤ length ps → (q : ℕ) → n ≤ q → drop q (take n ps) ≡ []
left_none n ps h q l = drop_of_length-le (take n ps) {i = q} (let e = length-take-le n ps h in omega arith)

module _ (r : ℕ → List ℕ) (v ps : List ℕ) (q : ℕ) where
  pub state_hit : (b : Bool) → q < length ps → b ≡ same v (r (get_or ps q 0)) → b ≡ true → state_from r v q (drop q ps) ≡ q
  unfolding state_from
  state_hit b l e t = rw (drop-cons ps q 0 l, ← e, t)

  pub state_pass : (b : Bool) → q < length ps → b ≡ same v (r (get_or ps q 0)) → b ≡ false → state_from r v q (drop q ps) ≡ state_from r v (q + 1) (drop (q + 1) ps)
  unfolding state_from
  state_pass b l e t = rw (drop-cons ps q 0 l, ← e, t, add-one q)

  pub state_end : length ps ≤ q → state_from r v q (drop q ps) ≡ q
  unfolding state_from
  state_end l = rw (drop_of_length-le ps {i = q} l)

-- T from k on
pub rest : (n k : ℕ) → k < n → places_from k (n - k) ≡ k ∷ places_from (k + 1) (n - (k + 1))
unfolding places_from
rest n k l =
    let e : n - k ≡ suc (n - (k + 1)) = omega arith in
    ap (places_from k) e ∙ ap (λ (i : ℕ). k ∷ places_from i (n - (k + 1))) (sym (add-one k))

module _ (r : ℕ → List ℕ) (s : List ℕ) (n k : ℕ) where
  grow_seen : k < n → state_from r (r k) 0 s < length s → grow r s (places_from k (n - k)) ≡ grow r s (places_from (k + 1) (n - (k + 1)))
  unfolding grow
  grow_seen l h = rw (rest n k l, lt-ltb _ _ h)

  grow_new : k < n → length s ≤ state_from r (r k) 0 s → length s < most_states → grow r s (places_from k (n - k)) ≡ grow r (s ++ (k ∷ [])) (places_from (k + 1) (n - (k + 1)))
  unfolding grow
  grow_new l h f = rw (rest n k l, le-ltb _ _ h, lt-leb _ _ f)

  grow_full : k < n → length s ≤ state_from r (r k) 0 s → most_states ≤ length s → grow r s (places_from k (n - k)) ≡ none
  unfolding grow
  grow_full l h f = rw (rest n k l, le-ltb _ _ h, le-leb _ _ f)

  grow_end : n ≤ k → grow r s (places_from k (n - k)) ≡ some s
  unfolding grow places_from
  grow_end l = let e : n - k ≡ 0 = omega arith in ap (λ (i : ℕ). grow r s (places_from k i)) e

-- what it has become, put together
pub grown_none : {o : maybe.Option (List ℕ)} → none ≡ o → grown_by o None
grown_none e = rw (← e) refl

pub grown_some : {o : maybe.Option (List ℕ)} (s : List ℕ) (p : Places) → some s ≡ o → take p.states p.s ≡ s → p.states ≡ length s → grown_by o (Some p)
grown_some s p e h n = rw (← e) (h, n)

-- ON THE WAY: S stands in the first n of 32 places, and what is left of T from k on decides what it becomes
pub record Growing (r : ℕ → List ℕ) (rules : ℕ) (end : maybe.Option (List ℕ)) (n : ℕ) (ps : List ℕ) (k : ℕ) : Type 0 where
  pub few : n ≤ most_states
  pub long : length ps ≡ most_states
  pub below : (i : ℕ) → i < n → get_or ps i 0 < rules
  pub left_decides : grow r (take n ps) (places_from k (rules - k)) ≡ end

module _ {r : ℕ → List ℕ} {rules : ℕ} {end : maybe.Option (List ℕ)} {n : ℕ} {ps : List ℕ} {k : ℕ} (g : Growing r rules end n ps k) where
  pub many : length (take n ps) ≡ n
  many = length-take-le n ps (omega arith)

  pub growing_end : rules ≤ k → some (take n ps) ≡ end
  growing_end l = sym (grow_end r (take n ps) rules k l) ∙ g.left_decides

  module _ (q : ℕ) (l : k < rules) (e : q ≡ state_from r (r k) 0 (take n ps)) where
    pub growing_full : q ≡ n → n ≡ most_states → none ≡ end
    growing_full p f =
        let h = many in
        sym (grow_full r (take n ps) rules k l (omega arith) (omega arith)) ∙ g.left_decides

    pub growing_seen : (q ≡ n → ⊥) → Growing r rules end n ps (k + 1)
    growing_seen p =
        let h = many in
        let w = state_within r (r k) n ps (omega arith) in
        record {
          few = g.few;
          long = g.long;
          below = g.below;
          left_decides = sym (grow_seen r (take n ps) rules k l (omega arith)) ∙ g.left_decides;
        }

    below_set : (n ≡ most_states → ⊥) → (i : ℕ) → i < n + 1 → get_or (set ps n k) i 0 < rules
    below_set f i h = elim (ℕ_discrete i n) [ yes p ↦ at p | no p ↦ rw (get_or-set_other ps n i k 0 p) (g.below i (let z : i < n = omega (arith, p) in z)) ]
      where
        at : i ≡ n → get_or (set ps n k) i 0 < rules
        at p = rw (p, get_or-set_same ps n k 0 (omega arith)) l

    pub growing_new : q ≡ n → (n ≡ most_states → ⊥) → Growing r rules end (n + 1) (set ps n k) (k + 1)
    growing_new p f =
        let h = many in
        record {
          few = omega arith;
          long = length-set ps n k ∙ g.long;
          below = below_set f;
          left_decides =
              ap (λ (s : List ℕ). grow r s (places_from (k + 1) (rules - (k + 1)))) (ap (λ (i : ℕ). take i (set ps n k)) (add-one n) ∙ take-suc-set ps n k (omega arith)) ∙
              sym (grow_new r (take n ps) rules k l (omega arith) (omega arith)) ∙ g.left_decides;
        }

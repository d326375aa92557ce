-- The six bytes of a rule: the symbol, the states of the children one after the other, the target.
-- The first six bytes alone decide the rule, and a row's children are as many as its symbol has.
use mathlib.Core.Path.{◌≡◌, refl, sym, ap, ◌∙◌}
use mathlib.Core.List.{List, [], ◌∷◌, map}
use Prim.Native.Nat.{ℕ, ◌+◌, ◌≤◌, ◌<◌}
use native.Mathlib.Omega.{arith}
use lib.ListN.{length, get_or, set, take, drop, length-set, length-drop, length-map}
use lib.Seq.{length-take-le, get_or-take, get_or-drop, get_or-set_same, get_or-set_other, ext_get_or}
use Rattle.model.specs.Base.{place_of}
use Rattle.model.specs.Store.{Store, symbol_at, kids_at}
use Rattle.model.proofs.Laws.Tests.{by_equal}
use Rattle.model.proofs.Laws.Lists.{map_at}
use Rattle.table_verdict.specs.Rules.{rule_by}
use Rattle.list.specs.Flat.{flat_width, flat_rule, rule_width}

-- THE CHILD STATES are four bytes at most, from the second on
module _ (us : List ℕ) (long : rule_width ≤ length us) (n : ℕ) (few : n ≤ 4) where
  pub states_long : length (take n (drop 1 us)) ≡ n
  states_long = let d = length-drop 1 us in length-take-le n (drop 1 us) (omega arith)

  pub states_at : (j : ℕ) → j < n → get_or (take n (drop 1 us)) j 0 ≡ get_or us (1 + j) 0
  states_at j l = get_or-take n (drop 1 us) j 0 l ∙ get_or-drop 1 us j 0

pub same_rule : (ns us vs : List ℕ) → rule_width ≤ length us → rule_width ≤ length vs → ((j : ℕ) → j < rule_width → get_or us j 0 ≡ get_or vs j 0) → flat_rule ns us ≡ flat_rule ns vs
same_rule ns us vs l m agree =
    let n : ℕ = flat_width ns (get_or us 0 0) in
    let few : flat_width ns (get_or us 0 0) ≤ 4 = omega arith in
    let a = agree 0 (omega arith) in
    let p = states_long us l n few in
    let q = states_long vs m n few in
    let states : take (flat_width ns (get_or us 0 0)) (drop 1 us) ≡ take (flat_width ns (get_or us 0 0)) (drop 1 vs) =
    ext_get_or 0 (take n (drop 1 us)) (take n (drop 1 vs)) (p ∙ sym q)
    (λ j h. let k : j < flat_width ns (get_or us 0 0) = omega (arith, p, h) in states_at us l n few j k ∙ agree (1 + j) (omega (arith, k, few)) ∙ sym (states_at vs m n few j k)) in
    let t = agree 5 (omega arith) in
    λ i. record { symbol = a i; states = (states ∙ ap (λ (b : ℕ). take (flat_width ns b) (drop 1 vs)) a) i; target = t i }

-- THE BYTES so far: the symbol and the states of the first n children
pub record RuleTo (x : Store) (s : List ℕ) (row : ℕ) (bytes : List ℕ) (n : ℕ) : Type 0 where
  pub long : length bytes ≡ rule_width
  pub symbol : get_or bytes 0 0 ≡ symbol_at x row
  pub kids : (j : ℕ) → j < n → get_or bytes (1 + j) 0 ≡ place_of (get_or (kids_at x row) j 0) 0 s

module _ (x : Store) (s : List ℕ) (i : ℕ) where
  pub rule_start : (a : ℕ) → a ≡ symbol_at x i → RuleTo x s i (a ∷ 0 ∷ 0 ∷ 0 ∷ 0 ∷ 0 ∷ []) 0
  rule_start a e = record { long = refl; symbol = e; kids = λ j l. absurd (omega arith) }

  pub rule_more : {bs : List ℕ} {n : ℕ} → RuleTo x s i bs n → n < 4 → (v : ℕ) → v ≡ place_of (get_or (kids_at x i) n 0) 0 s → RuleTo x s i (set bs (1 + n) v) (n + 1)
  rule_more {bs} {n} r l v e =
      record {
        long = length-set bs (1 + n) v ∙ r.long;
        symbol = get_or-set_other bs (1 + n) 0 v 0 (λ z. omega arith) ∙ r.symbol;
        kids = λ j h. by_equal j n
            (λ z. ap (λ (k : ℕ). get_or (set bs (1 + n) v) (1 + k) 0) z ∙ get_or-set_same bs (1 + n) v 0 (omega (arith, r.long)) ∙ e ∙ ap (λ (k : ℕ). place_of (get_or (kids_at x i) k 0) 0 s) (sym z))
            (λ z. get_or-set_other bs (1 + n) (1 + j) v 0 (λ y. z (omega arith)) ∙ r.kids j (let g : j ≡ n → ⊥ = z in omega (arith, g)));
      }

  pub rule_end : {bs : List ℕ} {n : ℕ} (reps : List ℕ) → RuleTo x s i bs n → length (kids_at x i) ≤ n → length (kids_at x i) ≤ 4 → get_or x.counts (symbol_at x i) 0 ≡ length (kids_at x i) →
      (v : ℕ) → v ≡ place_of (get_or reps i 0) 0 s → flat_rule x.counts (set bs 5 v) ≡ rule_by x s reps i
  rule_end {bs} {n} reps r whole few count v e =
      let us : List ℕ = set bs 5 v in
      let ks : List ℕ = kids_at x i in
      let f : ℕ → ℕ = λ k. place_of k 0 s in
      let l : length us ≡ rule_width = length-set bs 5 v ∙ r.long in
      let six : rule_width ≤ length us = omega (arith, l) in
      let a : get_or us 0 0 ≡ symbol_at x i = get_or-set_other bs 5 0 v 0 (λ z. omega arith) ∙ r.symbol in
      let w : flat_width x.counts (get_or us 0 0) ≡ length ks = ap (flat_width x.counts) a ∙ omega (arith, count, few) in
      let p : length (take (length ks) (drop 1 us)) ≡ length ks = states_long us six (length ks) few in
      let states : take (length ks) (drop 1 us) ≡ map f ks =
      ext_get_or 0 (take (length ks) (drop 1 us)) (map f ks) (p ∙ sym (length-map ks f))
      (λ j h. let k : j < length ks = omega (arith, p, h) in
      states_at us six (length ks) few j k ∙ get_or-set_other bs 5 (1 + j) v 0 (λ z. omega (arith, few, k, z)) ∙ r.kids j (omega (arith, k, whole)) ∙ sym (map_at f ks j k)) in
      let t : get_or us 5 0 ≡ place_of (get_or reps i 0) 0 s = get_or-set_same bs 5 v 0 (omega (arith, r.long)) ∙ e in
      λ z. record { symbol = a z; states = (ap (λ (b : ℕ). take b (drop 1 us)) w ∙ states) z; target = t z }

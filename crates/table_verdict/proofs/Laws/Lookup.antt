-- A rule looked up by its left side: a symbol over representatives has the rule of the one row with that symbol and those children, if it is a transition.
-- Places in S tell its members apart and a good store has no twins, so a left side is one row's, the one that the store finds.
use mathlib.Core.Path.{◌≡◌, refl, sym, ap, subst, ◌∙◌}
use mathlib.Core.Logic.{◌⊎◌, inl, inr}
use mathlib.Core.Bool.{Bool, true, false, true≢false, cond}
use mathlib.Core.List.{List, [], ◌∷◌, map}
use mathlib.Core.Option.{Option, none, some}
use Prim.Native.Nat.{ℕ, zero, suc, ◌<◌, ◌≤◌}
use native.Mathlib.Omega.{arith}
use lib.Dec.{eqb}
use lib.ListN.{length, get_or}
use borrow.Author.Tests.{eqb-true, eq-eqb}
use Rattle.model.specs.Limits.{most_rows}
use Rattle.model.specs.Base.{In, here, later, Each, among, place_of, same}
use Rattle.model.specs.Store.{Store, used, symbol_at, count_of, kids_at, find_row}
use Rattle.model.specs.Automata.{has_left_side, target_in}
use Rattle.model.specs.Facts.{Good}
use Rattle.model.proofs.Laws.Tests.{both_true, true_both, same_eq, same_of, by_equal}
use Rattle.model.proofs.Laws.Lists.{in_cases, in_not, member_in, places_one, place_at, place_within}
use Rattle.model.proofs.Laws.Rows.{find_is, is_find}
use Rattle.table_verdict.specs.Rules.{rule_by, rules_by, Ruled, rep_of}

-- A STATE BY ITS REPRESENTATIVE, and back; 0 is none
abbrev pub place_in : (s : List ℕ) → (row : ℕ) → ℕ
place_in s k = place_of k 0 s

abbrev pub state_by : (s : List ℕ) → (rep : ℕ) → Option ℕ
state_by s zero = none
state_by s (suc k) = some (place_in s (suc k))

abbrev pub Rep : (s : List ℕ) → (rep : ℕ) → Type 0
Rep s r = (r ≡ 0) ⊎ In r s

pub state_some : (s : List ℕ) (r : ℕ) → 0 < r → state_by s r ≡ some (place_in s r)
state_some s zero l = absurd (omega arith)
state_some s (suc k) l = refl

pub at_own_place : (s : List ℕ) (r : ℕ) → In r s → get_or s (place_in s r) 0 ≡ r
at_own_place s r h = let p = place_at r 0 h in let e : place_in s r ≡ p.0 = omega (arith, p.1) in ap (λ (q : ℕ). get_or s q 0) e ∙ p.2

pub own_place_within : (s : List ℕ) (r : ℕ) → In r s → place_in s r < length s
own_place_within s r h = omega (arith, place_within r 0 s h)

pub rep_back : (s : List ℕ) (r : ℕ) → Rep s r → rep_of s (state_by s r) ≡ r
rep_back s zero h = refl
rep_back s (suc k) (inl e) = absurd (omega arith)
rep_back s (suc k) (inr h) = at_own_place s (suc k) h

pub rep_in : {s : List ℕ} {r : ℕ} → Rep s r → (r ≡ 0 → ⊥) → In r s
rep_in (inl e) n = absurd (n e)
rep_in (inr h) n = h

module _ {x : Store} {s t reps : List ℕ} (g : Good x) (d : Ruled x s t reps) where
  -- THE RULE of a transition with the symbol and the children asked for
  module _ (a : ℕ) (ks : List ℕ) (each : Each (λ (k : ℕ). In k s) ks) where
    abbrev states : List ℕ
    states = map (place_in s) ks

    hits : (i : ℕ) → In i t → has_left_side a states (rule_by x s reps i) ≡ true → (symbol_at x i ≡ a) × (kids_at x i ≡ ks)
    hits i h e =
        let c = both_true (eqb (symbol_at x i) a) (same (map (place_in s) (kids_at x i)) states) e in
        (eqb-true (symbol_at x i) a c.0, places_one s (kids_at x i) ks (d.kids i h) each (same_eq (map (place_in s) (kids_at x i)) states c.1))

    hit : (i : ℕ) → symbol_at x i ≡ a → kids_at x i ≡ ks → has_left_side a states (rule_by x s reps i) ≡ true
    hit i p q =
        true_both (eqb (symbol_at x i) a) (same (map (place_in s) (kids_at x i)) states) (eq-eqb (symbol_at x i) a p)
        (same_of (map (place_in s) (kids_at x i)) states (ap (map (place_in s)) q))

    rule_none : (ts : List ℕ) → ((i : ℕ) → In i ts → In i t) → ((i : ℕ) → In i ts → symbol_at x i ≡ a → kids_at x i ≡ ks → ⊥) → target_in a states (rules_by x s ts reps) ≡ none
    unfolding target_in
    rule_none [] sub other = refl
    rule_none (u ∷ ts) sub other = go (rule_none ts (λ i h. sub i (later h)) (λ i h. other i (later h))) (has_left_side a states (rule_by x s reps u)) refl
      where
        go : target_in a states (rules_by x s ts reps) ≡ none → (b : Bool) → has_left_side a states (rule_by x s reps u) ≡ b →
            cond b (some (place_in s (get_or reps u 0))) (target_in a states (rules_by x s ts reps)) ≡ none
        go ih true e = let c = hits u (sub u here) e in absurd (other u here c.0 c.1)
        go ih false e = ih

    rule_found : (ts : List ℕ) → ((i : ℕ) → In i ts → In i t) → (i : ℕ) → In i ts → symbol_at x i ≡ a → kids_at x i ≡ ks →
        target_in a states (rules_by x s ts reps) ≡ some (place_in s (get_or reps i 0))
    unfolding target_in
    rule_found (u ∷ ts) sub i h p q = go (λ m. rule_found ts (λ j l. sub j (later l)) i m p q) (has_left_side a states (rule_by x s reps u)) refl (in_cases h)
      where
        go : (In i ts → target_in a states (rules_by x s ts reps) ≡ some (place_in s (get_or reps i 0))) → (b : Bool) → has_left_side a states (rule_by x s reps u) ≡ b → (i ≡ u) ⊎ In i ts →
            cond b (some (place_in s (get_or reps u 0))) (target_in a states (rules_by x s ts reps)) ≡ some (place_in s (get_or reps i 0))
        go ih true e m =
            let c = hits u (sub u here) e in
            let y = d.row u (sub u here) in
            let z = d.row i (sub i h) in
            let one : u ≡ i = g.twins u i y.0 y.1 z.0 z.1 (c.0 ∙ sym p) (c.1 ∙ sym q) in
            ap (λ (j : ℕ). some (place_in s (get_or reps j 0))) one
        go ih false e (inl m) = absurd (true≢false (sym (hit u (ap (symbol_at x) (sym m) ∙ p) (ap (kids_at x) (sym m) ∙ q)) ∙ e))
        go ih false e (inr m) = ih m
    rule_found [] sub i h p q = elim h [ ]

  -- A ROW'S REPRESENTATIVE: a member of S where the row is a transition, and 0 where it is none
  pub rep_of_law : (i : ℕ) → i < most_rows → Rep s (get_or reps i 0)
  rep_of_law i l = go (among i t) refl
    where
      go : (b : Bool) → among i t ≡ b → Rep s (get_or reps i 0)
      go true e = inr (d.covered i (member_in i t e))
      go false e = inl (d.others i l (in_not i t e))

  pub rep_within : {r : ℕ} → Rep s r → r < used x
  rep_within (inl e) = omega (arith, g.start)
  rep_within {r} (inr h) = (d.row r (d.among r h)).1

  pub rep_some : {r : ℕ} → In r s → 0 < r
  rep_some {r} h = (d.row r (d.among r h)).0

  -- THE TARGET of a symbol over representatives is the representative of the row that is found
  module _ (small : used x ≤ most_rows) (a : ℕ) (ks : List ℕ) (known : a < length x.counts) (arity : length ks ≡ count_of x a) (each : Each (λ (k : ℕ). In k s) ks) where
    found_within : find_row x a ks < used x
    found_within = by_equal (find_row x a ks) 0 (λ e. omega (arith, g.start)) (λ n. (find_is x g a ks known arity n).0)

    only : (i : ℕ) → In i t → symbol_at x i ≡ a → kids_at x i ≡ ks → In (find_row x a ks) t
    only i h p q =
        let r = d.row i h in
        let e : find_row x a ks ≡ i = ap (λ (b : ℕ). find_row x b ks) (sym p) ∙ ap (find_row x (symbol_at x i)) (sym q) ∙ is_find x g i r.0 r.1 in
        subst (λ (j : ℕ). In j t) (sym e) h

    pub lookup : target_in a (map (place_in s) ks) (rules_by x s t reps) ≡ state_by s (get_or reps (find_row x a ks) 0)
    lookup = go (among (find_row x a ks) t) refl
      where
        go : (b : Bool) → among (find_row x a ks) t ≡ b → target_in a (map (place_in s) ks) (rules_by x s t reps) ≡ state_by s (get_or reps (find_row x a ks) 0)
        go true e =
            let h = member_in (find_row x a ks) t e in
            let l = (d.row (find_row x a ks) h).0 in
            let f = find_is x g a ks known arity (λ z. omega arith) in
            rule_found a ks each t (λ i m. m) (find_row x a ks) h f.1 f.2 ∙ sym (state_some s (get_or reps (find_row x a ks) 0) (rep_some (d.covered (find_row x a ks) h)))
        go false e =
            let l = found_within in
            let z : get_or reps (find_row x a ks) 0 ≡ 0 = d.others (find_row x a ks) (omega arith) (in_not (find_row x a ks) t e) in
            rule_none a ks each t (λ i m. m) (λ i h p q. in_not (find_row x a ks) t e (only i h p q)) ∙ ap (state_by s) (sym z)

    pub found_rep : Rep s (get_or reps (find_row x a ks) 0)
    found_rep = let l = found_within in rep_of_law (find_row x a ks) (omega arith)

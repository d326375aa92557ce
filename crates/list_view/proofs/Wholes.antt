-- What the calls about a list return is its whole automaton (§6.3). Four places hold the child states of a rule, for it has no more.
-- A rule is found by its left side, by induction on the rules: no earlier one has that of a later one. One that is found has the left side sought.
use mathlib.Core.Path.{◌≡◌, refl, sym, ap, ◌∙◌}
use mathlib.Core.Bool.{Bool, true, false, not, cond}
use mathlib.Core.List.{List, [], ◌∷◌}
use mathlib.Core.Option.{Option, none, some}
use Prim.Native.Nat.{ℕ, zero, suc, ◌≤◌, ◌<◌}
use native.Mathlib.Omega.{arith}
use lib.Dec.{eqb}
use lib.ListN.{length, get_or, take}
use borrow.Author.Tests.{eqb-true, eq-eqb, not-true, lt-ltb}
use Rattle.model.specs.Limits.{most_children}
use Rattle.model.specs.Base.{same}
use Rattle.model.specs.Automata.{Rule, Automaton, has_left_side, target_in, has_left, lefts_differ}
use Rattle.model.specs.Listing.{Sheet, loaded, read_list}
use Rattle.model.specs.View.{present, absent, children_by, target_found, target_by, four_places, rule_found, rule_absent, no_rule, rule_by, rule_seen}
use Rattle.model.specs.declared.Found.{Found}
use Rattle.model.specs.declared.ListRule.{ListRule}
use Rattle.model.proofs.Laws.Tests.{both_true, true_both, neither, same_eq, same_refl}
use Rattle.model.proofs.Laws.LeftSides.{left_side_sym}
use Rattle.list_view.specs.Whole.{rule_of, Whole, SeenWhole}
use Rattle.list_view.proofs.Fits.{lefts_differ_law, symbol_known, states_counted, few_children}

-- FOUR PLACES hold all child states where there are no more
four_places_law : (qs : List ℕ) → length qs ≤ most_children → take (length qs) (four_places qs) ≡ qs
four_places_law [] l = refl
four_places_law (a ∷ []) l = refl
four_places_law (a ∷ b ∷ []) l = refl
four_places_law (a ∷ b ∷ c ∷ []) l = refl
four_places_law (a ∷ b ∷ c ∷ d ∷ []) l = refl
four_places_law (a ∷ b ∷ c ∷ d ∷ e ∷ qs) l = absurd (omega arith)

-- THE RULE WITH A LEFT SIDE
left_of : (r : Rule) → has_left_side r.symbol r.states r ≡ true
left_of r = true_both (eqb r.symbol r.symbol) (same r.states r.states) (eq-eqb r.symbol r.symbol refl) (same_refl r.states)

lacks : (r : Rule) (rs : List Rule) (k : ℕ) → has_left r rs ≡ false → k < length rs → has_left_side r.symbol r.states (get_or rs k no_rule) ≡ false
unfolding has_left
lacks r [] k e l = absurd (omega arith)
lacks r (q ∷ rs) zero e l = (neither (has_left_side r.symbol r.states q) (has_left r rs) e).0
lacks r (q ∷ rs) (suc k) e l = lacks r rs k (neither (has_left_side r.symbol r.states q) (has_left r rs) e).1 (omega arith)

target_at : (rs : List Rule) (k : ℕ) → lefts_differ rs ≡ true → k < length rs → target_in (get_or rs k no_rule).symbol (get_or rs k no_rule).states rs ≡ some (get_or rs k no_rule).target
unfolding target_in lefts_differ
target_at [] k d l = absurd (omega arith)
target_at (r ∷ rs) zero d l = let e = left_of r in rw e
target_at (r ∷ rs) (suc k) d l =
    let b = both_true (not (has_left r rs)) (lefts_differ rs) d in
    let m : k < length rs = omega arith in
    let e = sym (left_side_sym r (get_or rs k no_rule)) ∙ lacks r rs k (not-true (has_left r rs) b.0) m in
    rw e (target_at rs k b.1 m)

record Ruled (a : ℕ) (qs : List ℕ) (q : ℕ) (rs : List Rule) : Type 0 where
  place : ℕ
  there : place < length rs
  is : get_or rs place no_rule ≡ record { symbol = a; states = qs; target = q }

some_same : (p q : ℕ) → ◌≡◌ {A = Option ℕ} (some p) (some q) → p ≡ q
some_same p q e = cc

target_back : (a : ℕ) (qs : List ℕ) (q : ℕ) (rs : List Rule) → target_in a qs rs ≡ some q → Ruled a qs q rs
unfolding target_in
target_back a qs q [] e = let z : ◌≡◌ {A = ℕ} 0 1 = cc in absurd (omega arith)
target_back a qs q (r ∷ rs) e = go (has_left_side a qs r) refl e (λ f. target_back a qs q rs f)
  where
    go : (b : Bool) → has_left_side a qs r ≡ b → cond b (some r.target) (target_in a qs rs) ≡ some q → (target_in a qs rs ≡ some q → Ruled a qs q rs) → Ruled a qs q (r ∷ rs)
    go true h e i =
        let b = both_true (eqb r.symbol a) (same r.states qs) h in
        let s = eqb-true r.symbol a b.0 in
        let t = same_eq r.states qs b.1 in
        let u = some_same r.target q e in
        record { place = 0; there = omega arith; is = λ j. record { symbol = s j; states = t j; target = u j } }
    go false h e i = let m = i e in record { place = suc m.place; there = let l = m.there in omega arith; is = m.is }

found_same : (o : Option ℕ) (q : ℕ) → target_found o ≡ present q → o ≡ some q
found_same none q e = let z : ◌≡◌ {A = ℕ} 0 1 = ap (λ (f : Found). f.found) e in absurd (omega arith)
found_same (some p) q e = ap some (ap (λ (f : Found). f.value) e)

-- A RULE OF A LIST
module _ (bs : List ℕ) (a : Sheet) (e : read_list bs ≡ loaded a) where
  abbrev d : Automaton
  d = a.automaton

  rule_is : (k : ℕ) → k < length d.rules → rule_seen bs k ≡ rule_found (rule_of d k)
  rule_is k l = ap (rule_by k) e ∙ ap (λ (b : Bool). cond b (rule_found (rule_of d k)) (rule_absent 0)) (lt-ltb k (length d.rules) l)

  whole : Whole bs d
  whole =
      record {
        states = λ k l. ap (λ (r : ListRule). take r.children r.states) (rule_is k l) ∙ four_places_law (rule_of d k).states (few_children bs a e k l);
        children = λ k l.
            let r = rule_of d k in
            ap (λ (r : ListRule). children_by r.symbol (read_list bs)) (rule_is k l) ∙ ap (children_by r.symbol) e ∙
            ap (λ (b : Bool). cond b (present (get_or d.counts r.symbol 0)) (absent 0)) (lt-ltb r.symbol (length d.counts) (symbol_known bs a e k l)) ∙
            ap present (sym (states_counted bs a e k l)) ∙ sym (ap (λ (r : ListRule). present r.children) (rule_is k l));
        target = λ k l.
            let r = rule_of d k in
            ap (target_by r.symbol r.states) e ∙ ap target_found (target_at d.rules k (lefts_differ_law bs a e) l);
        back = λ s qs q f.
            let m = target_back s qs q d.rules (found_same (target_in s qs d.rules) q (sym (ap (target_by s qs) e) ∙ f)) in
            (m.place, m.there, m.is);
      }

pub seen_whole : SeenWhole
seen_whole bs a e = whole bs a e

-- What a row's representative means: where each transition has one in S (Ruled), it is that of the state that the rules lead the row to.
-- A state is the place of a rule's target in S, so it tells its representative; both are folds, so each row's comes from its children's.
use mathlib.Core.Path.{◌≡◌, refl, sym, ap, subst, ◌∙◌}
use mathlib.Core.Logic.{◌⊎◌, inl, inr}
use mathlib.Core.Bool.{Bool, true, false, cond}
use mathlib.Core.List.{List, [], ◌∷◌, map}
use mathlib.Core.Option.{Option, none, some}
use Prim.Native.Nat.{ℕ, zero, suc, ◌≤◌, ◌<◌}
use native.Mathlib.Omega.{arith}
use lib.Dec.{eqb}
use lib.ListN.{get_or, length-map}
use borrow.Author.Tests.{eqb-true}
use Rattle.model.specs.Limits.{hole_symbol, most_rows}
use Rattle.model.specs.Base.{In, here, later, Each, each_nil, each_cons, among}
use Rattle.model.specs.Store.{Node, Store, used, symbol_at, kids_at, fold_from, find_row}
use Rattle.model.specs.Automata.{has_left_side, target_in, states_of, with_state, led_by, leads, row_state}
use Rattle.model.specs.Facts.{Good}
use Rattle.model.proofs.Laws.Tests.{both_true}
use Rattle.model.proofs.Laws.Lists.{no_in, map_below, in_cases, in_not, member_in}
use Rattle.model.proofs.Laws.Fold.{fold_eq, earlier}
use Rattle.model.specs.Entry.{store_of}
use Rattle.bank.specs.Bank.{Bank}
use Rattle.bank.proofs.Laws.Words.{used_of}
use Rattle.bank.proofs.Laws.Children.{few_rows}
use Rattle.table_verdict.specs.Rules.{rule_by, rules_by, Ruled, RepsIn, rep_of, rep_row}
use Rattle.table_verdict.proofs.Laws.Rows.{first_none, rep_later}
use Rattle.table_verdict.proofs.Laws.Lookup.{place_in, state_by, Rep, state_some, rep_back, rep_in, rep_some, rep_of_law, rep_within, lookup, found_rep}

-- A STATE THAT ITS REPRESENTATIVE TELLS
pub record Told (s : List ℕ) (o : Option ℕ) : Type 0 where
  pub rep : Rep s (rep_of s o)
  pub back : o ≡ state_by s (rep_of s o)

pub told : (s : List ℕ) (r : ℕ) → Rep s r → {o : Option ℕ} → o ≡ state_by s r → Told s o
told s r h {o} e =
    let q : rep_of s o ≡ r = ap (rep_of s) e ∙ rep_back s r h in
    record { rep = subst (Rep s) (sym q) h; back = e ∙ ap (state_by s) (sym q) }

told_none : (s : List ℕ) → Told s none
told_none s = record { rep = inl refl; back = refl }

module _ {x : Store} {s t reps : List ℕ} (g : Good x) (d : Ruled x s t reps) where
  -- a rule's target tells its representative
  pub target_told : (a : ℕ) (qs ts : List ℕ) → ((i : ℕ) → In i ts → In i t) → Told s (target_in a qs (rules_by x s ts reps))
  unfolding target_in
  target_told a qs [] sub = told_none s
  target_told a qs (u ∷ ts) sub = go (has_left_side a qs (rule_by x s reps u)) (target_told a qs ts (λ i h. sub i (later h)))
    where
      go : (b : Bool) → Told s (target_in a qs (rules_by x s ts reps)) → Told s (cond b (some (place_in s (get_or reps u 0))) (target_in a qs (rules_by x s ts reps)))
      go true ih =
          let h = d.covered u (sub u here) in
          told s (get_or reps u 0) (inr h) (sym (state_some s (get_or reps u 0) (rep_some g d h)))
      go false ih = ih

  abbrev st : ℕ → Option ℕ
  st i = row_state (rules_by x s t reps) x i

  abbrev rep : ℕ → ℕ
  rep i = rep_of s (st i)

  pub row_told : (i : ℕ) → Told s (row_state (rules_by x s t reps) x i)
  unfolding fold_from
  row_told i = go (states_of (map (fold_from (λ (j a : ℕ) (qs : List (Option ℕ)). leads (rules_by x s t reps) a qs) none i x) (kids_at x i)))
    where
      go : (o : Option (List ℕ)) → Told s (led_by (rules_by x s t reps) (symbol_at x i) o)
      go none = told_none s
      go (some qs) = target_told (symbol_at x i) qs t (λ j h. h)

  unfold_state : (i : ℕ) → i < used x → st i ≡ leads (rules_by x s t reps) (symbol_at x i) (map st (kids_at x i))
  unfold_state i u = fold_eq (λ (j a : ℕ) (qs : List (Option ℕ)). leads (rules_by x s t reps) a qs) none x (earlier x g) i u

  -- ROW 0 has no state: no rule has its symbol
  other_symbol : (a : ℕ) (qs ts : List ℕ) → ((i : ℕ) → In i ts → symbol_at x i ≡ a → ⊥) → target_in a qs (rules_by x s ts reps) ≡ none
  unfolding target_in
  other_symbol a qs [] other = refl
  other_symbol a qs (u ∷ ts) other = go (has_left_side a qs (rule_by x s reps u)) refl (other_symbol a qs ts (λ i h. other i (later h)))
    where
      go : (b : Bool) → has_left_side a qs (rule_by x s reps u) ≡ b → target_in a qs (rules_by x s ts reps) ≡ none →
          cond b (some (place_in s (get_or reps u 0))) (target_in a qs (rules_by x s ts reps)) ≡ none
      go true e ih = absurd (other u here (eqb-true (symbol_at x u) a (both_true (eqb (symbol_at x u) a) _ e).0))
      go false e ih = ih

  no_rule_law : (o : Option (List ℕ)) → led_by (rules_by x s t reps) (symbol_at x 0) o ≡ none
  no_rule_law none = refl
  no_rule_law (some qs) = other_symbol (symbol_at x 0) qs t other
    where
      other : (i : ℕ) → In i t → symbol_at x i ≡ symbol_at x 0 → ⊥
      other i h e =
          let r = d.row i h in
          let l = (g.row i r.0 r.1).known in
          let m = g.letters in
          let z : symbol_at x 0 ≡ hole_symbol = ap (λ (n : Node). n.symbol) g.first in
          omega arith

  pub first_rep : rep 0 ≡ 0
  first_rep = ap (rep_of s) (unfold_state 0 g.start ∙ no_rule_law (states_of (map st (kids_at x 0))))

  -- CHILDREN: one without a state leaves the row without one; with a state each, the rule over their representatives decides
  child_none : (ks : List ℕ) → In 0 (map rep ks) → states_of (map st ks) ≡ none
  unfolding states_of
  child_none [] h = absurd (no_in h)
  child_none (j ∷ ks) h = go (child_none ks) (in_cases h)
    where
      past : (o : Option ℕ) → states_of (map st ks) ≡ none → states_of (o ∷ map st ks) ≡ none
      past none e = refl
      past (some q) e = ap (with_state q) e

      go : (In 0 (map rep ks) → states_of (map st ks) ≡ none) → (0 ≡ rep j) ⊎ In 0 (map rep ks) → states_of (st j ∷ map st ks) ≡ none
      go ih (inl z) = ap (λ (o : Option ℕ). states_of (o ∷ map st ks)) ((row_told j).back ∙ ap (state_by s) (sym z))
      go ih (inr m) = past (st j) (ih m)

  children : (ks : List ℕ) → Each (λ (k : ℕ). In k s) (map rep ks) → states_of (map st ks) ≡ some (map (place_in s) (map rep ks))
  unfolding states_of
  children [] h = refl
  children (k ∷ ks) (each_cons p ps) =
      let e : st k ≡ some (place_in s (rep k)) = (row_told k).back ∙ state_some s (rep k) (rep_some g d p) in
      ap (λ (o : Option ℕ). states_of (o ∷ map st ks)) e ∙ ap (with_state (place_in s (rep k))) (children ks ps)

  each_some : (ks : List ℕ) → (In 0 (map rep ks) → ⊥) → Each (λ (k : ℕ). In k s) (map rep ks)
  each_some [] n = each_nil
  each_some (k ∷ ks) n = each_cons (rep_in (row_told k).rep (λ e. n (subst (λ (j : ℕ). In j (rep k ∷ map rep ks)) e here))) (each_some ks (λ h. n (later h)))

  module _ (small : used x ≤ most_rows) where
    -- a row, by the representatives of its children
    rep_over_law : (i : ℕ) → 0 < i → i < used x → cond (among 0 (map rep (kids_at x i))) 0 (get_or reps (find_row x (symbol_at x i) (map rep (kids_at x i))) 0) ≡ rep i
    rep_over_law i positive u = go (among 0 (map rep (kids_at x i))) refl
      where
        go : (b : Bool) → among 0 (map rep (kids_at x i)) ≡ b → cond b 0 (get_or reps (find_row x (symbol_at x i) (map rep (kids_at x i))) 0) ≡ rep i
        go true e = sym (ap (rep_of s) (unfold_state i u ∙ ap (led_by (rules_by x s t reps) (symbol_at x i)) (child_none (kids_at x i) (member_in 0 (map rep (kids_at x i)) e))))
        go false e =
            let each = each_some (kids_at x i) (in_not 0 (map rep (kids_at x i)) e) in
            let v = g.row i positive u in
            let a = length-map (kids_at x i) rep ∙ v.arity in
            let o = unfold_state i u ∙ ap (led_by (rules_by x s t reps) (symbol_at x i)) (children (kids_at x i) each) ∙
            lookup g d small (symbol_at x i) (map rep (kids_at x i)) v.known a each in
            sym (ap (rep_of s) o ∙ rep_back s (get_or reps (find_row x (symbol_at x i) (map rep (kids_at x i))) 0) (found_rep g d small (symbol_at x i) (map rep (kids_at x i)) v.known a each))

    below : (n i : ℕ) → i < n → i < used x → rep_row x reps i ≡ rep i
    below zero i l u = absurd (omega arith)
    below (suc n) zero l u = first_none g reps ∙ sym first_rep
    below (suc n) (suc i) l u =
        rep_later g reps (suc i) (omega arith) u ∙
        ap (λ (ks : List ℕ). cond (among 0 ks) 0 (get_or reps (find_row x (symbol_at x (suc i)) ks) 0))
        (map_below (rep_row x reps) rep (suc i) (λ k b. below n k (omega arith) (omega arith)) (earlier x g (suc i) u)) ∙ rep_over_law (suc i) (omega arith) u

    -- THE LAW of a row's representative
    pub rep_row_law : (i : ℕ) → i < used x → rep_row x reps i ≡ rep_of s (row_state (rules_by x s t reps) x i)
    rep_row_law i u = below (suc i) i (omega arith) u

    -- the representatives of rules can be read
    reps_in_law : RepsIn (used x) reps
    reps_in_law = record { long = omega (arith, d.long, g.fits); within = λ i l. rep_within g d (rep_of_law g d i (omega arith)) }

pub reps_ruled : {ws ns : List ℕ} {n : ℕ} {ix s t reps : List ℕ} → Bank ws ns n ix → Ruled (store_of ws ns n) s t reps → RepsIn n reps
reps_ruled {ws} {ns} {n} {reps = reps} r d = subst (λ (m : ℕ). RepsIn m reps) (used_of ws ns n) (reps_in_law r.good d (few_rows r))

-- An automaton has one verdict on a record, whether it reads its tree, its stored row or its listed symbols, and an accepted record uses a rule at each of its subtrees.
-- The state is the value of one algebra on all three; a missing state is passed on to every symbol above it, so the run on symbols may stop there.
use mathlib.Core.Path.{◌≡◌, refl, sym, ap, ◌∙◌}
use mathlib.Core.Logic.{◌≢◌, ◌⊎◌, inl, inr}
use mathlib.Core.Bool.{Bool, true, false, cond, true≢false, and-eq-true_iff}
use mathlib.Core.List.{List, [], ◌∷◌, map, map-map}
use mathlib.Core.Option.{Option, none, some}
use Prim.Native.Nat.{ℕ, suc, ◌+◌, ◌<◌}
use native.Mathlib.Omega.{arith}
use lib.Dec.{eqb}
use lib.ListN.{length, get_or, take, drop, length-drop, length-map}
use borrow.Author.Tests.{eqb-true}
use Rattle.model.specs.Base.{same, top, In, here, later}
use Rattle.model.specs.Store.{Store, used, symbol_at, kids_at, Extends}
use Rattle.model.specs.Terms.{Tree, tree, Forest, eval_tree, eval_forest, Within, itself, below, Among, first, next, tree_at, eval_from, tree_of, record_fault}
use Rattle.model.specs.Automata.{Rule, Automaton, has_left_side, rule_from, target_in, states_of, led_by, leads, is_final, state_of, accepts, used_by, rule_at_root, row_state, accepts_row, RunEnd, gives, stuck, go_on, run_from, verdict_by, is_yes, accepts_list}
use Rattle.model.specs.Facts.{Good, Parses, parsed, parses}
use Rattle.model.specs.declared.Verdict.{Verdict}
use Rattle.model.proofs.Laws.Tests.{same_eq}
use Rattle.model.proofs.Laws.Lists.{map_below}
use Rattle.model.proofs.Laws.Stack.{map_drop, map_top, in_backwards, in_parts}
use Rattle.model.proofs.Laws.Fold.{earlier}
use Rattle.model.proofs.Laws.Rows.{fold_ext}
use Rattle.model.proofs.Laws.Trees.{tree_eq, eval_forest_law, rows_as_trees, parsed_as_tree, record_fault_parses}

-- a row's state stays where rows are added
pub state_ext : (rs : List Rule) (x y : Store) → Good x → Extends x y → (i : ℕ) → i < used x → row_state rs x i ≡ row_state rs y i
state_ext rs x y g e i u = fold_ext (λ (j a : ℕ) (os : List (Option ℕ)). leads rs a os) none x y g e i u

-- STATES of children: all are there, or none is given
pub states_some : (qs : List ℕ) → states_of (map some qs) ≡ some qs
unfolding states_of
states_some [] = refl
states_some (q ∷ qs) = rw (states_some qs)

states_none : (os : List (Option ℕ)) → In none os → states_of os ≡ none
unfolding states_of
states_none (none ∷ os) m = refl
states_none (some q ∷ os) (later m) = rw (states_none os m)
states_none [] m = elim m [ ]

-- LISTED RECORDS: once a state is missing, the whole record has none
module _ (rs : List Rule) (ns : List ℕ) where
  missing_moves : (a n : ℕ) (os : List (Option ℕ)) → In none os → In none (leads rs a (top n os) ∷ drop n os)
  missing_moves a n os m = go (in_parts n os m)
    where
      go : In none (take n os) ⊎ In none (drop n os) → In none (leads rs a (top n os) ∷ drop n os)
      go (inl j) = rw (states_none (top n os) (in_backwards (take n os) [] j)) here
      go (inr j) = later j

  missing_stays : {k : ℕ} {xs : List ℕ} → Parses ns k xs → (os : List (Option ℕ)) → length os ≡ k → In none os → eval_from (leads rs) none ns xs os ≡ none
  unfolding eval_from
  missing_stays parsed (o ∷ []) e here = refl
  missing_stays parsed (o ∷ v ∷ os) e m = absurd (omega arith)
  missing_stays (parses {a = a} l m p) os e i =
      let n : ℕ = get_or ns a 0 in
      let d = length-drop n os in
      missing_stays p (leads rs a (top n os) ∷ drop n os) (omega arith) (missing_moves a n os i)
  missing_stays parsed [] e m = elim m [ ]
  missing_stays parsed (o ∷ []) e (later x16) = elim x16 [ ]

-- the state that a run on symbols ends in
abbrev pub ended : RunEnd → Option ℕ
ended (gives q) = some q
ended (stuck p) = none

-- the verdict is yes where that state is final
pub yes_ended : (fs : List ℕ) (v : RunEnd) → is_yes (verdict_by fs v) ≡ is_final fs (ended v)
yes_ended fs (gives q) = go (is_final fs (some q))
  where
    go : (b : Bool) → is_yes (cond b Verdict.Accepted Verdict.NotFinal) ≡ b
    go true = refl
    go false = refl
yes_ended fs (stuck p) = refl

module _ (d : Automaton) where
  -- the run stops where the state goes missing, and gives the state of the whole record otherwise
  pub run_state : {k : ℕ} {xs : List ℕ} → Parses d.counts k xs → (p : ℕ) (qs : List ℕ) → length qs ≡ k →
      eval_from (leads d.rules) none d.counts xs (map some qs) ≡ ended (run_from d p xs qs)
  unfolding eval_from run_from
  run_state parsed p [] e = refl
  run_state parsed p (q ∷ qs) e = refl
  run_state (parses {k = k} {a = a} {xs = xs} l m s) p qs e =
      go (target_in a (top n qs) d.rules) (ap (led_by d.rules a) (ap states_of (sym (map_top some n qs)) ∙ states_some (top n qs))) (λ q. run_state s (suc p) (q ∷ drop n qs) (omega (arith, length-drop n qs)))
    where
      n : ℕ
      n = get_or d.counts a 0

      go : (o : Option ℕ) → leads d.rules a (top n (map some qs)) ≡ o → ((q : ℕ) → eval_from (leads d.rules) none d.counts xs (some q ∷ map some (drop n qs)) ≡ ended (run_from d (suc p) xs (q ∷ drop n qs))) →
          eval_from (leads d.rules) none d.counts xs (leads d.rules a (top n (map some qs)) ∷ drop n (map some qs)) ≡ ended (go_on p o (λ (q : ℕ). run_from d (suc p) xs (q ∷ drop n qs)))
      go none f ih =
          let t = length-map qs some in
          let u = length-drop n (map some qs) in
          rw f (missing_stays d.rules d.counts s (none ∷ drop n (map some qs)) (omega arith) here)
      go (some q) f ih = rw (f, ← map_drop) (ih q)

  pub verdict_listed : (xs : List ℕ) → Parses d.counts 0 xs → accepts_list d xs ≡ accepts d (tree_of d.counts xs)
  verdict_listed xs p =
      yes_ended d.finals (run_from d 0 xs []) ∙ ap (is_final d.finals) (sym (run_state p 0 [] refl) ∙ parsed_as_tree (leads d.rules) d.counts none xs p)

  pub verdict_faultless : (xs : List ℕ) → record_fault d.counts xs ≡ 0 → accepts_list d xs ≡ accepts d (tree_of d.counts xs)
  verdict_faultless xs e = verdict_listed xs (record_fault_parses d.counts xs e).0

  -- STORED ROWS
  module _ (x : Store) (g : Good x) where
    pub state_as_tree : (i : ℕ) → i < used x → row_state d.rules x i ≡ state_of d (tree_at x i)
    state_as_tree = rows_as_trees (leads d.rules) none x (earlier x g)

    pub verdict_row : (i : ℕ) → i < used x → accepts_row d x i ≡ accepts d (tree_at x i)
    verdict_row i u = ap (is_final d.finals) (state_as_tree i u)

    pub rule_at_row : (i : ℕ) → i < used x → rule_at_root d (tree_at x i) ≡ used_by d.rules (symbol_at x i) (states_of (map (row_state d.rules x) (kids_at x i)))
    rule_at_row i u =
        let w = earlier x g in
        let m = map_below (row_state d.rules x) (λ (k : ℕ). state_of d (tree_at x k)) i (λ k l. state_as_tree k (omega arith)) (w i u) in
        let f = eval_forest_law (leads d.rules) (map (tree_at x) (kids_at x i)) in
        let e = f ∙ map-map (state_of d) (tree_at x) (kids_at x i) ∙ sym m in
        ap (rule_at_root d) (tree_eq x w i u) ∙ ap (λ (os : List (Option ℕ)). used_by d.rules (symbol_at x i) (states_of os)) e

-- RULES: a left side has a target where it has a place, and its place holds it
module _ (a : ℕ) (qs : List ℕ) where
  pub target_rule : (n : ℕ) (rs : List Rule) → target_in a qs rs ≢ none → rule_from n a qs rs ≢ none
  unfolding target_in rule_from
  target_rule n [] t = t
  target_rule n (r ∷ rs) t = go (has_left_side a qs r) t (target_rule (suc n) rs)
    where
      go : (b : Bool) → cond b (some r.target) (target_in a qs rs) ≢ none → (target_in a qs rs ≢ none → rule_from (suc n) a qs rs ≢ none) →
          cond b (some n) (rule_from (suc n) a qs rs) ≢ none
      go true s ih = λ e. let z : ◌≡◌ {A = ℕ} 0 1 = cc in omega arith
      go false s ih = ih s

  rule_place : (o : Rule) (n : ℕ) (rs : List Rule) (p : ℕ) → rule_from n a qs rs ≡ some p →
      (m : ℕ) × (p ≡ n + m) × (m < length rs) × ((get_or rs m o).symbol ≡ a) × ((get_or rs m o).states ≡ qs)
  unfolding rule_from
  rule_place o n [] p e = let z : ◌≡◌ {A = ℕ} 0 1 = cc in absurd (omega arith)
  rule_place o n (r ∷ rs) p e = go (has_left_side a qs r) refl e (rule_place o (suc n) rs p)
    where
      go : (b : Bool) → has_left_side a qs r ≡ b → cond b (some n) (rule_from (suc n) a qs rs) ≡ some p →
          (rule_from (suc n) a qs rs ≡ some p → (m : ℕ) × (p ≡ suc n + m) × (m < length rs) × ((get_or rs m o).symbol ≡ a) × ((get_or rs m o).states ≡ qs)) →
          (m : ℕ) × (p ≡ n + m) × (m < suc (length rs)) × ((get_or (r ∷ rs) m o).symbol ≡ a) × ((get_or (r ∷ rs) m o).states ≡ qs)
      go true l s ih =
          let t = (and-eq-true_iff (eqb r.symbol a) (same r.states qs)).0 l in
          let u : n ≡ p = cc in
          (0, omega arith, omega arith, eqb-true r.symbol a t.0, same_eq r.states qs t.1)
      go false l s ih = let t = ih s in (suc t.0, omega (arith, t.1), omega (arith, t.2), t.3, t.4)

  pub rule_found : (rs : List Rule) (p : ℕ) → rule_from 0 a qs rs ≡ some p → (o : Rule) → (p < length rs) × ((get_or rs p o).symbol ≡ a) × ((get_or rs p o).states ≡ qs)
  rule_found rs p e o =
      let s = rule_place o 0 rs p e in
      let q : p ≡ s.0 = omega (arith, s.1) in
      (omega (arith, q, s.2), rw q s.3, rw q s.4)

-- SUBTREES: a record with a state uses a rule at its root, and so do all records in it
module _ (d : Automaton) where
  ruled : (a : ℕ) (o : Option (List ℕ)) → led_by d.rules a o ≢ none → used_by d.rules a o ≢ none
  ruled a none t = t
  ruled a (some qs) t = target_rule a qs 0 d.rules t

  pub state_rule : (t : Tree) → state_of d t ≢ none → rule_at_root d t ≢ none
  unfolding eval_tree
  state_rule (tree a ts) s = ruled a (states_of (eval_forest (leads d.rules) ts)) s

  first_none : (o : Option ℕ) (os : List (Option ℕ)) → o ≡ none → states_of (o ∷ os) ≡ none
  first_none o os e = states_none (o ∷ os) (rw e here)

  next_none : (o : Option ℕ) (os : List (Option ℕ)) → states_of os ≡ none → states_of (o ∷ os) ≡ none
  unfolding states_of
  next_none none os e = refl
  next_none (some q) os e = rw e

  mutual
    unfolding eval_tree eval_forest

    pub state_within : {u v : Tree} → state_of d u ≢ none → Within v u → state_of d v ≢ none
    state_within s itself = s
    state_within s (below {a = a} m) = state_among (λ e. s (ap (led_by d.rules a) e)) m

    state_among : {us : Forest} {v : Tree} → states_of (eval_forest (leads d.rules) us) ≢ none → Among v us → state_of d v ≢ none
    state_among s (first {u = u} {us = us} w) = state_within (λ e. s (first_none (state_of d u) (eval_forest (leads d.rules) us) e)) w
    state_among s (next {u = u} {us = us} m) = state_among (λ e. s (next_none (state_of d u) (eval_forest (leads d.rules) us) e)) m

  place_within : (t : Tree) → rule_at_root d t ≢ none → (p : ℕ) × (rule_at_root d t ≡ some p) × (p < length d.rules)
  place_within (tree a ts) s = go (states_of (eval_forest (leads d.rules) ts)) s
    where
      place : (qs : List ℕ) (o : Option ℕ) → rule_from 0 a qs d.rules ≡ o → o ≢ none → (p : ℕ) × (o ≡ some p) × (p < length d.rules)
      place qs none e n = absurd (n refl)
      place qs (some p) e n = (p, refl, (rule_found a qs d.rules p e (record { symbol = 0; states = []; target = 0 })).0)

      go : (o : Option (List ℕ)) → used_by d.rules a o ≢ none → (p : ℕ) × (used_by d.rules a o ≡ some p) × (p < length d.rules)
      go none n = absurd (n refl)
      go (some qs) n = place qs (rule_from 0 a qs d.rules) refl n

  -- an accepted record uses one of the rules at each subtree
  pub rule_within : (u v : Tree) → accepts d u ≡ true → Within v u → (p : ℕ) × (rule_at_root d v ≡ some p) × (p < length d.rules)
  rule_within u v e w =
      place_within v (state_rule v (state_within (λ n. true≢false (sym e ∙ ap (is_final d.finals) n)) w))

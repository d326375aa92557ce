-- Where a run on a listed record stops: at the first symbol whose subtree gets no state; each subtree listed before has one, its children among them.
-- Beside the stack of states goes the stack of trees that they belong to, so that what a symbol makes of them is its subtree. By induction on the symbols.
use mathlib.Core.Path.{◌≡◌, refl, sym, ap, ◌∙◌}
use mathlib.Core.Logic.{◌≢◌, ◌⊎◌, inl, inr}
use mathlib.Core.List.{List, [], ◌∷◌, map}
use mathlib.Core.Option.{Option, none, some}
use Prim.Native.Nat.{ℕ, zero, suc, ◌+◌, ◌-◌, ◌<◌}
use native.Mathlib.Omega.{arith}
use lib.ListN.{length, get_or, take, drop, length-drop, length-map}
use Rattle.model.specs.Base.{top, In, here, later, Each, each_nil, each_cons}
use Rattle.model.specs.Terms.{Tree, tree_with, forest, hole_tree, eval_tree, eval_forest, Within, itself, below, eval_from}
use Rattle.model.specs.Automata.{Automaton, target_in, states_of, led_by, leads, state_of, stuck, go_on, run_from}
use Rattle.model.specs.Facts.{Parses, parsed, parses}
use Rattle.model.specs.Verdicts.{child_states}
use Rattle.model.proofs.Laws.Stack.{map_drop, map_top, in_backwards, in_parts}
use Rattle.model.proofs.Laws.Trees.{eval_forest_law, within_trans, among_forest}
use Rattle.model.proofs.Laws.Verdict.{states_some}

-- SUBTREES: a tree that is ready ends up in the record
module _ (ns : List ℕ) where
  pub ready_within : {k : ℕ} {xs : List ℕ} → Parses ns k xs → (ts : List Tree) → length ts ≡ k → (t : Tree) → In t ts → Within t (eval_from tree_with hole_tree ns xs ts)
  unfolding eval_from
  ready_within parsed (u ∷ []) e t here = itself
  ready_within parsed (u ∷ v ∷ ts) e t m = absurd (omega arith)
  ready_within (parses {k = k} {a = a} {xs = xs} l c p) ts e t m =
      go (in_parts n ts m) (ready_within p (tree_with a (top n ts) ∷ drop n ts) (let d = length-drop n ts in omega arith))
    where
      n : ℕ
      n = get_or ns a 0

      made : Tree
      made = eval_from tree_with hole_tree ns xs (tree_with a (top n ts) ∷ drop n ts)

      go : In t (take n ts) ⊎ In t (drop n ts) → ((v : Tree) → In v (tree_with a (top n ts) ∷ drop n ts) → Within v made) → Within t made
      go (inl j) ih = within_trans (below (among_forest (top n ts) (in_backwards (take n ts) [] j))) (ih _ here)
      go (inr j) ih = ih t (later j)
  ready_within parsed [] e t m = elim m [ ]
  ready_within parsed (u ∷ []) e t (later x16) = elim x16 [ ]

-- a list of states that are there
pub some_there : (q : ℕ) (o : Option ℕ) → o ≡ some q → o ≢ none
some_there q o e z = let u : ◌≡◌ {A = ℕ} 0 1 = cc in omega arith

each_there : (qs : List ℕ) → Each (λ (o : Option ℕ). o ≢ none) (map some qs)
each_there [] = each_nil
each_there (q ∷ qs) = each_cons (some_there q (some q) refl) (each_there qs)

module _ (d : Automaton) where
  -- the subtree at a place of what is still to be read, over the trees that are ready
  abbrev subtree : (symbols : List ℕ) → (ready : List Tree) → (place : ℕ) → Tree
  subtree xs ts j = eval_from tree_with hole_tree d.counts (take (suc j) xs) ts

  pub record Stopped (xs : List ℕ) (ts : List Tree) (j : ℕ) : Type 0 where
    pub within : j < length xs
    pub inside : Within (subtree xs ts j) (eval_from tree_with hole_tree d.counts xs ts)
    pub stateless : state_of d (subtree xs ts j) ≡ none
    pub innermost : Each (λ (q : Option ℕ). q ≢ none) (child_states d (subtree xs ts j))
    pub leftmost : (i : ℕ) → i < j → state_of d (subtree xs ts i) ≢ none

  -- the children's states, and the state of the tree that a symbol makes of those ready
  children_are : (n : ℕ) (ts : List Tree) (qs : List ℕ) → map (state_of d) ts ≡ map some qs → eval_forest (leads d.rules) (forest (top n ts)) ≡ map some (top n qs)
  children_are n ts qs e =
      eval_forest_law (leads d.rules) (top n ts) ∙ map_top (state_of d) n ts ∙ ap (top n) e ∙ sym (map_top some n qs)

  made_state : (a n : ℕ) (ts : List Tree) (qs : List ℕ) → map (state_of d) ts ≡ map some qs → state_of d (tree_with a (top n ts)) ≡ target_in a (top n qs) d.rules
  unfolding eval_tree
  made_state a n ts qs e = ap (led_by d.rules a) (ap states_of (children_are n ts qs e) ∙ states_some (top n qs))

  pub stops : {k : ℕ} {xs : List ℕ} → Parses d.counts k xs → (p r : ℕ) (ts : List Tree) (qs : List ℕ) → length qs ≡ k → map (state_of d) ts ≡ map some qs → run_from d p xs qs ≡ stuck r →
      (j : ℕ) × (r ≡ p + j) × Stopped xs ts j
  unfolding run_from eval_from
  stops parsed p r ts [] l m e = absurd (omega arith)
  stops parsed p r ts (q ∷ qs) l m e = let u : ◌≡◌ {A = ℕ} 0 1 = cc in absurd (omega arith)
  stops (parses {k = k} {a = a} {xs = xs} b c s) p r ts qs l m e =
      go (target_in a (top n qs) d.rules) refl e
      (λ q f g. stops s (suc p) r (u ∷ drop n ts) (q ∷ drop n qs) (omega (arith, length-drop n qs))
      (let h : state_of d u ≡ some q = made_state a n ts qs m ∙ f in let v = map_drop (state_of d) n ts ∙ ap (drop n) m ∙ sym (map_drop some n qs) in cc) g)
    where
      n : ℕ
      n = get_or d.counts a 0

      u : Tree
      u = tree_with a (top n ts)

      as_many : length (u ∷ drop n ts) ≡ k - n + 1
      as_many = let t = sym (length-map ts (state_of d)) ∙ ap length m ∙ length-map qs some in let v = length-drop n ts in omega arith

      later_on : (q j : ℕ) → target_in a (top n qs) d.rules ≡ some q → Stopped xs (u ∷ drop n ts) j → Stopped (a ∷ xs) ts (suc j)
      later_on q j f t =
          record {
            within = (let w = t.within in omega arith);
            inside = t.inside;
            stateless = t.stateless;
            innermost = t.innermost;
            leftmost = before;
          }
        where
          before : (i : ℕ) → i < suc j → state_of d (subtree (a ∷ xs) ts i) ≢ none
          before zero w = some_there q (state_of d u) (made_state a n ts qs m ∙ f)
          before (suc i) w = t.leftmost i (omega arith)

      go : (o : Option ℕ) → target_in a (top n qs) d.rules ≡ o → go_on p o (λ (q : ℕ). run_from d (suc p) xs (q ∷ drop n qs)) ≡ stuck r →
          ((q : ℕ) → target_in a (top n qs) d.rules ≡ some q → run_from d (suc p) xs (q ∷ drop n qs) ≡ stuck r → (j : ℕ) × (r ≡ suc p + j) × Stopped xs (u ∷ drop n ts) j) →
          (j : ℕ) × (r ≡ p + j) × Stopped (a ∷ xs) ts j
      go none f g ih =
          let z : p ≡ r = cc in (
            0,
            omega arith,
            record {
              within = omega arith;
              inside = ready_within d.counts s (u ∷ drop n ts) as_many u here;
              stateless = made_state a n ts qs m ∙ f;
              innermost = rw (children_are n ts qs m) (each_there (top n qs));
              leftmost = λ i w. absurd (omega arith);
            },
          )
      go (some q) f g ih = let t = ih q f g in (suc t.0, omega (arith, t.1), later_on q t.0 f t.2)

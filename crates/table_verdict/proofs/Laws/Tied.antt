-- The representatives that the table of answers gives are those of model's states, and the hypothesis by them is the automaton that the tables propose.
-- A transition's state by the table is its state by the store (table's laws); a state within S is the place of its representative, for S has no repeats.
use mathlib.Core.Path.{◌≡◌, refl, sym, ap, ◌∙◌}
use mathlib.Core.Bool.{Bool, cond}
use mathlib.Core.List.{List, [], ◌∷◌, map}
use Prim.Native.Nat.{ℕ, ◌≤◌, ◌<◌}
use native.Mathlib.Omega.{arith}
use lib.ListN.{length, get_or, take}
use lib.Seq.{get_or-take, length-take-le}
use Rattle.model.specs.Limits.{most_rows, most_states}
use Rattle.model.specs.Base.{In, here, later, Each, Distinct, place_of}
use Rattle.model.specs.Store.{Store, used, symbol_at, kids_at}
use Rattle.model.specs.Table.{tables, answers_of, state_from, finals_of, rule_of, rules_of, automaton_of}
use Rattle.model.specs.Facts.{Good}
use Rattle.model.specs.TableFacts.{Shaped}
use Rattle.model.specs.Entry.{store_of, answers_in}
use Rattle.model.proofs.Laws.Lists.{at_place, place_within, in_member, not_in}
use Rattle.model.proofs.Laws.Proposal.{own_state}
use Rattle.table.specs.Answers.{state_at, Observed, Placed}
use Rattle.table.proofs.Laws.Tied.{state_tied}
use Rattle.table_verdict.specs.Rules.{RepsBy, rule_by, rules_by, hypothesis, Ruled}
use Rattle.table_verdict.proofs.Laws.Reps.{own_place}
use Rattle.table_verdict.proofs.Laws.Lookup.{at_own_place}

map_same : {A : Type 0} (f g : ℕ → A) (ks : List ℕ) → ((k : ℕ) → In k ks → f k ≡ g k) → map f ks ≡ map g ks
map_same f g [] e = refl
map_same f g (k ∷ ks) e = let p = e k here in let q = map_same f g ks (λ j h. e j (later h)) in cc

-- WHAT RULES NEED OF S AND T: T2, T3 and T6 as far as the hypothesis uses them; r gives a record's answers
pub record Covers (x : Store) (r : ℕ → List ℕ) (s t : List ℕ) : Type 0 where
  pub row : (i : ℕ) → In i t → (0 < i) × (i < used x)
  pub kids : (i : ℕ) → In i t → Each (λ (k : ℕ). In k s) (kids_at x i)
  pub among : (i : ℕ) → In i s → In i t
  pub one : Distinct s
  pub few : length s ≤ most_states
  pub within : (i : ℕ) → In i t → state_from r (r i) 0 s < length s

pub covers_shaped : {x : Store} {r : ℕ → List ℕ} {s t : List ℕ} → Good x → Shaped x r s t → Distinct s → length s ≤ most_states → Covers x r s t
covers_shaped {x} {r} {s} {t} g h d l = record { row = h.row; kids = h.kids; among = h.among; one = d; few = l; within = within }
  where
    within : (i : ℕ) → In i t → state_from r (r i) 0 s < length s
    within i m =
        let c = h.covered i m in
        let e : state_from r (r i) 0 s ≡ place_of c.0 0 s = ap (λ (v : List ℕ). state_from r v 0 s) c.2 ∙ own_state x g r s t h c.0 c.1 in
        omega (arith, e, place_within c.0 0 s c.1)

-- REPRESENTATIVES BY THE STORE'S STATES
pub record RepsOf (r : ℕ → List ℕ) (s t reps : List ℕ) : Type 0 where
  pub right : (i : ℕ) → i < most_rows → In i t → get_or reps i 0 ≡ get_or s (state_from r (r i) 0 s) 0
  pub others : (i : ℕ) → i < most_rows → (In i t → ⊥) → get_or reps i 0 ≡ 0

module _ {x : Store} {w t : List ℕ} {n : ℕ} {c : List ℕ} {m : ℕ} {tb : List ℕ} (o : Observed x w t n c m tb) (s : List ℕ) (q : ℕ) (ps : List ℕ) (placed : Placed t n s q ps)
    (l : q ≤ length s) (h : q ≤ length ps) (b : n ≤ length t) where
  abbrev rows : ℕ → List ℕ
  rows i = answers_of x w (take m c) i

  -- a transition stands at its place in T, and has one state by the table and by the store
  place_before : (i : ℕ) → In i (take n t) → place_of i 0 (take n t) < n
  place_before i a = omega (arith, place_within i 0 (take n t) a, length-take-le n t b)

  at_its_place : (i : ℕ) → In i (take n t) → get_or t (place_of i 0 (take n t)) 0 ≡ i
  at_its_place i a = sym (get_or-take n t (place_of i 0 (take n t)) 0 (place_before i a)) ∙ at_own_place (take n t) i a

  transition_tied : (i : ℕ) → In i (take n t) → state_at tb m (take q ps) (place_of i 0 (take n t)) ≡ state_from rows (rows i) 0 (take q s)
  transition_tied i a =
      state_tied o s q ps placed l h (place_of i 0 (take n t)) (place_before i a) ∙ ap (λ (j : ℕ). state_from rows (rows j) 0 (take q s)) (at_its_place i a)

  module _ {reps : List ℕ} (by : RepsBy tb m (take q ps) (take q s) (take n t) reps) where
    abbrev noted : (i : ℕ) → Bool → ℕ
    noted i y = cond y (get_or (take q s) (state_at tb m (take q ps) (place_of i 0 (take n t))) 0) 0

    pub reps_tied : RepsOf (answers_of x w (take m c)) (take q s) (take n t) reps
    reps_tied =
        record {
          right = λ i u a. by.right i u ∙ ap (noted i) (in_member i a) ∙ ap (λ (p : ℕ). get_or (take q s) p 0) (transition_tied i a);
          others = λ i u a. by.right i u ∙ ap (noted i) (not_in i (take n t) a);
        }

-- THE RULES by them are model's
module _ {x : Store} {r : ℕ → List ℕ} {s t reps : List ℕ} (c : Covers x r s t) (p : RepsOf r s t reps) (small : used x ≤ most_rows) where
  rep_right : (i : ℕ) → In i t → get_or reps i 0 ≡ get_or s (state_from r (r i) 0 s) 0
  rep_right i h = p.right i (omega (arith, (c.row i h).1)) h

  pub ruled_tied : x.room ≤ length reps → Ruled x s t reps
  ruled_tied l =
      record {
        long = l;
        row = c.row;
        kids = c.kids;
        among = c.among;
        one = c.one;
        few = c.few;
        covered = λ i h. rw (rep_right i h) (at_place s (state_from r (r i) 0 s) (c.within i h));
        others = p.others;
      }

  target_tied : (i : ℕ) → In i t → place_of (get_or reps i 0) 0 s ≡ state_from r (r i) 0 s
  target_tied i h = ap (λ (k : ℕ). place_of k 0 s) (rep_right i h) ∙ own_place c.one 0 (state_from r (r i) 0 s) (c.within i h) ∙ omega arith

  pub rules_tied : rules_by x s t reps ≡ rules_of x r s t
  rules_tied =
      map_same (rule_by x s reps) (rule_of x r s) t
      (λ i h j. record { symbol = symbol_at x i; states = map (λ (k : ℕ). place_of k 0 s) (kids_at x i); target = target_tied i h j })

-- THE HYPOTHESIS over lent words is the automaton that their tables propose
module _ (ws ns : List ℕ) (u : ℕ) (s : List ℕ) (q : ℕ) (t : List ℕ) (n : ℕ) (cs : List ℕ) {reps : List ℕ}
    (c : Covers (store_of ws ns u) (answers_of (store_of ws ns u) (answers_in u ws) cs) (take q s) (take n t))
    (p : RepsOf (answers_of (store_of ws ns u) (answers_in u ws) cs) (take q s) (take n t) reps) (small : used (store_of ws ns u) ≤ most_rows) where
  pub hypothesis_tied : (hand asked : ℕ) (accepted : Bool) →
      hypothesis ws ns u s q t n reps ≡ automaton_of (tables (store_of ws ns u) (answers_in u ws) (take q s) (take n t) cs hand asked accepted)
  hypothesis_tied hand asked accepted = λ i. record { counts = ns; finals = finals_of (answers_in u ws) (take q s); rules = rules_tied c p small i }

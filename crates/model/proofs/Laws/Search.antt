-- The record in hand: on every table with no answer missing the search ends within its fuel, in one of three ways.
-- The fuel counts occurrences outside S. The proposal gets the record wrong, so it has one; a turn puts a representative, which has none, for the spot.
use mathlib.Core.Path.{◌≡◌, refl, sym, ap, ◌∙◌, subst}
use mathlib.Core.Logic.{◌≢◌}
use mathlib.Core.Bool.{Bool, true, false, not, cond}
use mathlib.Core.List.{List, map}
use mathlib.Core.Option.{Option, none}
use Prim.Native.Nat.{ℕ, zero, suc, ◌+◌, ◌≤◌, ◌<◌}
use native.Mathlib.Omega.{arith}
use lib.Dec.{eqb}
use borrow.Author.Tests.{eqb-true, eqb-false, not-false, not-true}
use lib.ListN.{get_or}
use Rattle.model.specs.Base.{Below, Each, In, among, each_cons, each_nil, one_below, place_of, sum}
use Rattle.model.specs.Store.{Spot, Store, filled_row, has_hole, kids_at, outside, spot_of, used}
use Rattle.model.specs.Automata.{led_by, states_of}
use Rattle.model.specs.Table.{answers_of, rules_of, state_from}
use Rattle.model.specs.Steps.{against, at_difference, at_new_transition, at_unknown, rep_of, search, search_from}
use Rattle.model.specs.Facts.{Closed, Good, IsRecord, Leads, None, none_cons, none_nil}
use Rattle.model.specs.TableFacts.{Full, HandFits, SearchEnd, Shaped, SpotAt, ends_different, ends_new, ends_unknown, proposed_state, proposed_verdict}
use Rattle.model.proofs.Laws.Tests.{not_itself}
use Rattle.model.proofs.Laws.Lists.{member_in, in_member, not_in, in_not, members_in, place_at}
use Rattle.model.proofs.Laws.Fold.{earlier}
use Rattle.model.proofs.Laws.Frames.{through, falls, weigh, leads_within}
use Rattle.model.proofs.Laws.Filled.{filled_leads, leads_filled}
use Rattle.model.proofs.Laws.Down.{down_is, lead_hole, clear_some, fits_record}
use Rattle.model.proofs.Laws.Proposal.{final_at, own_state, s_state, no_state, rep_state}
use Rattle.model.proofs.Laws.Agree.{none_up}

pub each_inside : (s : List ℕ) {ks : List ℕ} → None (λ (k : ℕ). not (among k s)) ks → Each (λ (k : ℕ). In k s) ks
each_inside s none_nil = each_nil
each_inside s (none_cons {k = k} e n) = each_cons (member_in k s (not-false (among k s) e)) (each_inside s n)

sum_zero : (f : ℕ → ℕ) (s : List ℕ) → (n : ℕ) → ((k : ℕ) → k < n → In k s → f k ≡ 0) → {ks : List ℕ} → Each (λ (k : ℕ). In k s) ks → Below n ks → sum (map f ks) ≡ 0
unfolding sum
sum_zero f s n h each_nil b = refl
sum_zero f s n h (each_cons {k = k} p ps) (one_below l b) = let a = h k l p in let c = sum_zero f s n h ps b in omega arith

module _ (x : Store) (w s t cs : List ℕ) (fu : Full x w s t cs) where
  g : Good x
  g = fu.good

  abbrev r : ℕ → List ℕ
  r i = answers_of x w cs i

  q : Shaped x r s t
  q = fu.shaped

  closed : Closed s x
  closed i u m = let h = member_in i s m in members_in s (q.kids i (q.among i h))

  -- a representative has no occurrence outside S, any other row at least one: itself
  pub weighs_none : (n k : ℕ) → k < n → In k s → outside s x k ≡ 0
  weighs_none zero k l h = absurd (omega arith)
  weighs_none (suc n) k l h =
      let u = (q.row k (q.among k h)).1 in
      let z = sum_zero (outside s x) s k (λ j b p. weighs_none n j (omega arith) p) (q.kids k (q.among k h)) (earlier x g k u) in
      let e : outside s x k ≡ 0 + sum (map (outside s x) (kids_at x k)) = weigh s x (earlier x g) k u ∙ ap (λ (b : Bool). cond b 0 1 + sum (map (outside s x) (kids_at x k))) (in_member k h) in
      omega arith

  pub weighs_some : (k : ℕ) → k < used x → (In k s → ⊥) → 1 ≤ outside s x k
  weighs_some k u n =
      let e : outside s x k ≡ 1 + sum (map (outside s x) (kids_at x k)) = weigh s x (earlier x g) k u ∙ ap (λ (b : Bool). cond b 0 1 + sum (map (outside s x) (kids_at x k))) (not_in k s n) in
      omega arith

  -- a representative's verdict is its own answer
  own_verdict : (k : ℕ) → In k s → proposed_verdict x w s t cs (proposed_state x w s t cs k) ≡ eqb (get_or w k 0) 2
  own_verdict k h =
      let p = place_at k 0 h in
      let e : place_of k 0 s ≡ p.0 = omega (arith, p.1) in
      ap (proposed_verdict x w s t cs) (s_state x g r s t q k h) ∙ final_at w s (place_of k 0 s) fu.hole ∙ ap (λ (m : ℕ). eqb (get_or w (get_or s m 0) 0) 2) e ∙ ap (λ (m : ℕ). eqb (get_or w m 0) 2) p.2

  -- so the record in hand, which the proposal gets wrong, is none
  pub hand_outside : (h : ℕ) → HandFits x w s t cs h → In h s → ⊥
  hand_outside h f m = not_itself (eqb (get_or w h 0) 2) (sym (own_verdict h m) ∙ f.against_it)

  -- the spot of such a record: its children are in S, it is not, and its frames lead up to the record
  pub spot_is : (h : ℕ) → IsRecord x h → (In h s → ⊥) → SpotAt x w s t cs h (spot_of s x h)
  spot_is h i n =
      let p : ℕ → Bool = λ k. not (among k s) in
      let f = down_is p x g (suc h) h i.within (omega arith) in
      let a = fits_record p x g (suc h) h i.within (omega arith) i.clear in
      let c : has_hole x (spot_of s x h).row ≡ false = sym (lead_hole x g (spot_of s x h).around a (spot_of s x h).row h f.leads) ∙ i.clear in
      record {
        fits = a;
        leads = f.leads;
        record_row = record { some = clear_some x (spot_of s x h).row c; within = f.within; clear = c };
        kids = each_inside s f.inner;
        outside_s = in_not (spot_of s x h).row s (not-true (among (spot_of s x h).row s) (f.has (ap not (not_in h s n))));
      }

  pub must_be_yes : (h : ℕ) (p : Spot) → HandFits x w s t cs h → SpotAt x w s t cs h p → (In p.row t → ⊥) → get_or w h 0 ≡ 2
  must_be_yes h p f o n =
      let i = o.record_row in
      let e = none_up (rules_of x r s t) x g p.around p.row h o.leads (no_state x g r s t q p.row i.some i.within o.kids n) in
      eqb-true (get_or w h 0) 2 (not-false (eqb (get_or w h 0) 2) (sym f.against_it ∙ ap (proposed_verdict x w s t cs) e))

  -- the representative
  pub rep_is : (u : ℕ) → In u t → In (rep_of x w s t cs u) s × (r u ≡ r (rep_of x w s t cs u))
  rep_is u h =
      let c = q.covered u h in
      let j : ℕ = c.0 in
      let p = place_at j 0 c.1 in
      let e : state_from r (r u) 0 s ≡ p.0 = ap (λ (v : List ℕ). state_from r v 0 s) c.2 ∙ own_state x g r s t q j c.1 ∙ omega (arith, p.1) in
      let k : rep_of x w s t cs u ≡ j = ap (λ (m : ℕ). get_or s m 0) e ∙ p.2 in
      (subst (λ (m : ℕ). In m s) (sym k) c.1, c.2 ∙ ap r (sym k))

  -- the proposal's verdict is the same with the representative in the spot's place
  pub next_fits : (h : ℕ) (p : Spot) (rep j : ℕ) → HandFits x w s t cs h → SpotAt x w s t cs h p → In p.row t → In rep s → r p.row ≡ r rep → Leads x p.around rep j →
      get_or w j 0 ≡ get_or w h 0 → HandFits x w s t cs j
  next_fits h p rep j f o m n e l v =
      let ds = rules_of x r s t in
      let i = fu.clear rep (q.among rep n) in
      let d : proposed_state x w s t cs j ≡ proposed_state x w s t cs h =
      through (λ (a : ℕ) (qs : List (Option ℕ)). led_by ds a (states_of qs)) none x (earlier x g) p.around rep j p.row h l o.leads (sym (rep_state x g r s t q p.row rep m n e)) in
      let c = leads_filled x g p.around o.fits rep j i.some l in
      record {
        record_row = record { some = c.1; within = leads_within x p.around rep j i.within l; clear = lead_hole x g p.around o.fits rep j l ∙ i.clear };
        known = λ z. f.known (sym v ∙ z);
        small = rw v f.small;
        against_it = ap (proposed_verdict x w s t cs) d ∙ f.against_it ∙ ap (λ (a : ℕ). not (eqb a 2)) (sym v);
      }

  -- THE SEARCH ends within the occurrences outside S: each turn takes at least the spot's one away and brings none
  pub ends : (n h : ℕ) → HandFits x w s t cs h → outside s x h ≤ n → SearchEnd x w s t cs (search_from x w s t cs n h)
  unfolding search_from Leads
  ends zero h f l = let m = weighs_some h f.record_row.within (hand_outside h f) in absurd (omega arith)
  ends (suc n) h f l = go (ends n) (among u t) refl
    where
      p : Spot
      p = spot_of s x h

      u : ℕ
      u = p.row

      o : SpotAt x w s t cs h p
      o = spot_is h f.record_row (hand_outside h f)

      rep : ℕ
      rep = rep_of x w s t cs u

      j : ℕ
      j = filled_row x p.around rep

      go : ((k : ℕ) → HandFits x w s t cs k → outside s x k ≤ n → SearchEnd x w s t cs (search_from x w s t cs n k)) → (b : Bool) → among u t ≡ b →
          SearchEnd x w s t cs (cond b (against x w s t cs h p rep j (search_from x w s t cs n j)) (at_new_transition h p))
      go ih false e = ends_new f o (in_not u t e) (must_be_yes h p f o (in_not u t e))
      go ih true e = back (eqb (get_or w j 0) 0) refl (eqb (get_or w j 0) (get_or w h 0)) refl
        where
          m : In u t
          m = member_in u t e

          its_rep : In rep s × (r u ≡ r rep)
          its_rep = rep_is u m

          lead : get_or w j 0 ≢ 0 → Leads x p.around rep j
          lead z = filled_leads x g p.around o.fits rep (fu.clear rep (q.among rep its_rep.0)).some (λ y. z (ap (λ (k : ℕ). get_or w k 0) y ∙ fu.hole))

          back : (a : Bool) → eqb (get_or w j 0) 0 ≡ a → (b : Bool) → eqb (get_or w j 0) (get_or w h 0) ≡ b →
              SearchEnd x w s t cs (cond a (at_unknown h p rep) (cond b (search_from x w s t cs n j) (at_difference h p rep j)))
          back true y b z = ends_unknown f o m its_rep.0 its_rep.1 (eqb-true (get_or w j 0) 0 y)
          back false y true z =
              let d = lead (eqb-false (get_or w j 0) 0 y) in
              let a = weighs_none (suc rep) rep (omega arith) its_rep.0 in
              let b = weighs_some u o.record_row.within o.outside_s in
              let c = falls s x (earlier x g) closed p.around u h rep j o.leads d (not_in u s o.outside_s) in
              ih j (next_fits h p rep j f o m its_rep.0 its_rep.1 d (eqb-true (get_or w j 0) (get_or w h 0) z)) (omega (arith, c.1))
          back false y false z = ends_different f o m its_rep.0 its_rep.1 (lead (eqb-false (get_or w j 0) 0 y)) (eqb-false (get_or w j 0) 0 y) (eqb-false (get_or w j 0) (get_or w h 0) z)

  pub in_hand_ends : (h : ℕ) → HandFits x w s t cs h → SearchEnd x w s t cs (search x w s t cs h)
  in_hand_ends h f = ends (outside s x h) h f (omega arith)

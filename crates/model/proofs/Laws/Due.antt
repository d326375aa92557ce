-- 34, 35 and 36 on sound tables: what was short, where the step stood, and for 34 how many rows would have been enough.
-- How many rows the step needs decides between 34 and its end with all of them used; the end tells the rest.
use mathlib.Core.Path.{◌≡◌, refl, sym, ap, subst, ◌∙◌}
use mathlib.Core.Logic.{◌≢◌, ◌⊎◌, inl, inr}
use mathlib.Core.Bool.{Bool, true, false, cond}
use mathlib.Core.List.{[], ◌∷◌}
use mathlib.Core.Option.{none}
use Prim.Native.Nat.{ℕ, ◌≤◌, ◌<◌}
use native.Mathlib.Omega.{arith}
use lib.Dec.{ltb, eqb}
use borrow.Author.Tests.{ltb-true, ltb-false}
use lib.ListN.{length}
use Rattle.model.specs.Limits.{most_states, most_rules}
use Rattle.model.specs.Base.{In}
use Rattle.model.specs.Store.{used, Spot}
use Rattle.model.specs.Table.{Tables, row_of}
use Rattle.model.specs.TableFacts.{Core, Known, SearchEnd, ends_new}
use Rattle.model.specs.Sound.{is_sound}
use Rattle.model.specs.Phase.{Sounds}
use Rattle.model.specs.Steps.{Ended, Search, lost, at_new_transition, grow}
use Rattle.model.specs.Calls.{Call, offers, answers, accept, looks, emits, judges, refuses, number_of, fault_of, end_of, done_by, call}
use Rattle.model.specs.Room.{with_room}
use Rattle.model.specs.Reached.{Begins, Settles, search_of}
use Rattle.model.specs.Due.{StatesShort, TransitionsShort, UsesAll, in_left, at_states, at_transitions, RowsShort}
use Rattle.model.proofs.Laws.Grow.{differ_not_same}
use Rattle.model.proofs.Laws.Short.{own_of, StatesFull, grow_none}
use Rattle.model.proofs.Laws.Search.{in_hand_ends}
use Rattle.model.proofs.Laws.Unchanged.{full_of}
use Rattle.model.proofs.Laws.Step.{listed_well}
use Rattle.model.proofs.Laws.Room.{sound_room}
use Rattle.model.proofs.Laws.Lending.{fault_room}
use Rattle.model.proofs.Laws.Needed.{AdvanceEnds, ends_asks, ends_proposes, ends_states, ends_transitions, ends_lost, Ends, StepNeeds, answer_needs, offer_needs}
use Rattle.model.proofs.Laws.Sounds.{sound_facts}
use Rattle.model.proofs.Laws.Begun.{Begun, in_hand, none_in_hand, begun_facts, settles_core, settles_same_s, begun_tidy}

-- THE SEARCH from tables with a record in hand
begun_search : (z : Tables) → Begun z → z.hand ≢ 0 → (q : Search) → search_of z ≡ q → SearchEnd z.store z.answers z.s z.t z.c q
begun_search z (none_in_hand h k d) n q e = absurd (n h)
begun_search z (in_hand w d f h) n q e =
    subst (SearchEnd z.store z.answers z.s z.t z.c) e (in_hand_ends z.store z.answers z.s z.t z.c (full_of z w) z.hand h)

-- WHAT IS SHORT where a step ends so
module _ (x : Tables) (k : Call) (z : Tables) (begins : Begins x k z) (b : Begun z) where
  short_states : (y : Tables) → Settles z y → Known y → grow (row_of y) y.s y.t ≡ none → StatesShort x k
  short_states y s known e =
      record {
        begun = z;
        begins = begins;
        reached = y;
        settles = s;
        known = known;
        no_place = e;
        different = full.different;
        many = full.many;
        there = λ i h. there i (full.there i h);
        own = full.own;
      }
    where
      core : Core y
      core = settles_core z y b s

      few : length y.s ≤ most_states
      few = rw (settles_same_s s) (begun_tidy b).few_s

      full : StatesFull (row_of y) y.s y.t
      full =
          grow_none (row_of y) y.s y.t
          (own_of (row_of y) y.s core.held.one (λ i j h l n. differ_not_same y.store y.answers y.c i j (core.held.differ i j h l n))) few e

      there : (i : ℕ) → In i y.s ⊎ In i y.t → In i y.t
      there i (inl h) = core.held.among i h
      there i (inr h) = h

  short_transitions : (h : ℕ) (p : Spot) → z.hand ≢ 0 → search_of z ≡ at_new_transition h p → most_rules ≤ length z.t → TransitionsShort x k
  short_transitions h p n e l =
      let few = (begun_tidy b).few_t in
      record {
        reached = z;
        begins = begins;
        many = omega arith;
        in_hand = n;
        hand = h;
        spot = p;
        wanted = e;
        new = new (begun_search z b n (at_new_transition h p) e);
      }
    where
      new : SearchEnd z.store z.answers z.s z.t z.c (at_new_transition h p) → In p.row z.t → ⊥
      new (ends_new f o m a) = m

  never_lost : z.hand ≢ 0 → search_of z ≡ lost → ⊥
  never_lost n e = elim (begun_search z b n lost e) [ ]

  all_used : (n : ℕ) (e : Ended) → call x k ≡ end_of e → AdvanceEnds z n e → UsesAll x k n
  unfolding short_states short_transitions
  all_used n e c (ends_asks {z = y} u) = in_left y c u
  all_used n e c (ends_proposes {z = y} u) = in_left y c u
  all_used n e c (ends_states {y = y} s u known g) = at_states c (short_states y s known g) u
  all_used n e c (ends_transitions {h = h} {p = p} u m q l) = at_transitions c (short_transitions h p m q l) u
  all_used n e c (ends_lost m q) = absurd (never_lost m q)

  not_rows : (n : ℕ) (e : Ended) → AdvanceEnds z n e → number_of (end_of e) ≢ 34
  not_rows n e (ends_asks u) p = omega arith
  not_rows n e (ends_proposes u) p = omega arith
  not_rows n e (ends_states s u known g) p = omega arith
  not_rows n e (ends_transitions u m q l) p = omega arith
  not_rows n e (ends_lost m q) p = omega arith

  due_states : (n : ℕ) (e : Ended) → AdvanceEnds z n e → number_of (end_of e) ≡ 35 → StatesShort x k
  due_states n e (ends_asks u) p = absurd (omega arith)
  due_states n e (ends_proposes u) p = absurd (omega arith)
  due_states n e (ends_states {y = y} s u known g) p = short_states y s known g
  due_states n e (ends_transitions u m q l) p = absurd (omega arith)
  due_states n e (ends_lost m q) p = absurd (omega arith)

  due_transitions : (n : ℕ) (e : Ended) → AdvanceEnds z n e → number_of (end_of e) ≡ 36 → TransitionsShort x k
  due_transitions n e (ends_asks u) p = absurd (omega arith)
  due_transitions n e (ends_proposes u) p = absurd (omega arith)
  due_transitions n e (ends_states s u known g) p = absurd (omega arith)
  due_transitions n e (ends_transitions {h = h} {p = spot} u m q l) p = short_transitions h spot m q l
  due_transitions n e (ends_lost m q) p = absurd (omega arith)

-- A CALL that no line refuses, with any room from the used rows on
module _ (x : Tables) (s : Sounds x) (k : Call) (e : is_sound x ≡ true) (f : fault_of x k ≡ 0) where
  within : used x.store ≤ x.store.room
  within = s.nearly.core.good.fits

  sound_at : (r : ℕ) → used x.store ≤ r → is_sound (with_room r x) ≡ true
  sound_at r u = sound_room r x within u ∙ e

  fault_at : (r : ℕ) → fault_of (with_room r x) k ≡ 0
  fault_at r = fault_room r x k ∙ f

  call_at : (r : ℕ) → used x.store ≤ r → call (with_room r x) k ≡ done_by (with_room r x) k
  call_at r u = λ i.
      cond (sound_at r u i) (cond (eqb (fault_at r i) 0) (done_by (with_room r x) k) (refuses (fault_at r i))) (refuses 30)

  begun_at : (r : ℕ) → used x.store ≤ r → (z : Tables) → Begins (with_room r x) k z → Begun z
  begun_at r u z b = begun_facts (with_room r x) (sound_facts (with_room r x) (sound_at r u)) k (fault_at r) z b

  module _ (n : StepNeeds x k) where
    reach : {r : ℕ} → n.needed ≤ r → used x.store ≤ r
    reach l = let m = n.more in omega arith

    not_short : (r : ℕ) → n.needed ≤ r → number_of (call (with_room r x) k) ≢ 34
    not_short r l p =
        let t = n.enough r l in
        not_rows (with_room r x) k t.begun t.begins (begun_at r (reach l) t.begun t.begins) n.needed t.end t.ends
        (sym (ap number_of (call_at r (reach l) ∙ t.done)) ∙ p)

    uses_all : UsesAll (with_room n.needed x) k n.needed
    uses_all =
        let t = n.enough n.needed (omega arith) in
        let u = n.more in
        all_used (with_room n.needed x) k t.begun t.begins (begun_at n.needed u t.begun t.begins) n.needed t.end (call_at n.needed u ∙ t.done) t.ends

    rows_short : call x k ≡ refuses 34 → RowsShort x k
    rows_short p =
        record {
          needed = n.needed;
          above = above (ltb x.store.room n.needed) refl;
          too_few = λ r u l. call_at r u ∙ n.too_few r u l;
          enough = not_short;
          all_used = uses_all;
        }
      where
        above : (b : Bool) → ltb x.store.room n.needed ≡ b → x.store.room < n.needed
        above true q = ltb-true x.store.room n.needed q
        above false q = absurd (not_short x.store.room (ltb-false x.store.room n.needed q) (ap number_of p))

    -- with the rows that are lent
    ends_here : number_of (call x k) ≢ 34 → Ends x k n.needed
    ends_here d = go (ltb x.store.room n.needed) refl
      where
        go : (b : Bool) → ltb x.store.room n.needed ≡ b → Ends x k n.needed
        go true q = absurd (d (ap number_of (call_at x.store.room within ∙ n.too_few x.store.room within (ltb-true x.store.room n.needed q))))
        go false q = n.enough x.store.room (ltb-false x.store.room n.needed q)

    number_here : (t : Ends x k n.needed) → number_of (end_of t.end) ≡ number_of (call x k)
    number_here t = sym (ap number_of (call_at x.store.room within ∙ t.done))

    states_short : number_of (call x k) ≡ 35 → StatesShort x k
    states_short p =
        let t = ends_here (λ q. omega (arith, p, q)) in
        due_states x k t.begun t.begins (begun_facts x s k f t.begun t.begins) n.needed t.end t.ends (number_here t ∙ p)

    transitions_short : number_of (call x k) ≡ 36 → TransitionsShort x k
    transitions_short p =
        let t = ends_here (λ q. omega (arith, p, q)) in
        due_transitions x k t.begun t.begins (begun_facts x s k f t.begun t.begins) n.needed t.end t.ends (number_here t ∙ p)

-- which calls may run short
needs : (x : Tables) (k : Call) → fault_of x k ≡ 0 → number_of (done_by x k) ≢ 0 → StepNeeds x k
needs x (offers [] m) f d = let o = listed_well x [] m f in absurd (omega arith)
needs x (offers (a ∷ xs) m) f d = offer_needs x a xs m
needs x (answers m) f d = answer_needs x m
needs x accept f d = absurd (d refl)
needs x looks f d = absurd (d refl)
needs x (emits r) f d = absurd (d refl)
needs x (judges xs) f d = absurd (d refl)

module _ (x : Tables) (s : Sounds x) (k : Call) (e : is_sound x ≡ true) (f : fault_of x k ≡ 0) where
  needs_of : (n : ℕ) → n ≢ 0 → call x k ≡ refuses n → StepNeeds x k
  needs_of n d p = needs x k f (λ q. d (sym (ap number_of (sym (call_at x s k e f x.store.room (within x s k e f)) ∙ p)) ∙ q))

  pub rows_due : call x k ≡ refuses 34 → RowsShort x k
  rows_due p = rows_short x s k e f (needs_of 34 (λ q. omega arith) p) p

  pub states_due : call x k ≡ refuses 35 → StatesShort x k
  states_due p = states_short x s k e f (needs_of 35 (λ q. omega arith) p) (ap number_of p)

  pub transitions_due : call x k ≡ refuses 36 → TransitionsShort x k
  transitions_due p = transitions_short x s k e f (needs_of 36 (λ q. omega arith) p) (ap number_of p)

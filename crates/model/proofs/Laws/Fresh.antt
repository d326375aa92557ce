-- ONE INVARIANT for a run from start, in three phases: it begins so, each taken call keeps it, and it bounds what is taken. k records were taken, n is the size at the last proposal.
-- The first record taken is put down at once with one transition, so that S and T together are one ahead of the records taken from then on.
use mathlib.Core.Path.{◌≡◌, refl, sym, ◌∙◌, subst}
use mathlib.Core.Logic.{◌≢◌, ◌⊎◌, inl, inr}
use mathlib.Core.Bool.{false, not}
use mathlib.Core.List.{List, [], ◌∷◌}
use mathlib.Core.Option.{none}
use Prim.Native.Nat.{ℕ, zero, suc, ◌+◌, ◌-◌, ◌≤◌}
use native.Mathlib.Omega.{arith}
use lib.Dec.{eqb}
use lib.ListN.{length, get_or, set}
use Rattle.model.specs.Limits.{most_symbols, most_children}
use Rattle.model.specs.Base.{distinct_nil, In, here}
use Rattle.model.specs.Store.{Store, built}
use Rattle.model.specs.Terms.{eval_from, known_from, store_from}
use Rattle.model.specs.Automata.{leads, Rule}
use Rattle.model.specs.Table.{row_of, Tables, rules_of, size, tables}
use Rattle.model.specs.Steps.{proposes, asks, short, Shortage, Ended, blanked, search, searched, settled}
use Rattle.model.specs.Facts.{Good, IsContext, Parses}
use Rattle.model.specs.TableFacts.{Missing, Few, Tidy, Agree, Core, HandFits, Open, Whole, proposed_verdict}
use Rattle.model.specs.Calls.{started}
use Rattle.model.proofs.Laws.Lists.{no_in, in_one}
use Rattle.model.proofs.Laws.Down.{hole_has}
use Rattle.model.proofs.Laws.Agree.{RulesIn, few_states, few_rules}
use Rattle.model.proofs.Laws.Settle.{Gains, settled_ok, SettledOk, ok_short, ok_asks, ok_proposes}
use Rattle.model.proofs.Laws.Advance.{HandOk, hand_short, hand_asks, hand_down}
use Rattle.model.proofs.Laws.Offer.{offer_ok}
use Rattle.model.proofs.Laws.Answer.{answered_core, answered_tidy, answered_gains, answer_hand_ok}

-- FRESH: at a proposal; asking with a record in hand; asking to fill the table
pub data Fresh (x : Tables) (k n : ℕ) : Type 0 where
  at_proposal : Whole x → x.asked ≡ 0 → x.hand ≡ 0 → Few x → ((k ≡ 0) ⊎ (k + 1 ≤ size x)) → n ≤ size x → Fresh x k n
  in_hand : Whole x → HandFits x.store x.answers x.s x.t x.c x.hand → Open x → x.accepted ≡ false → length x.c ≤ size x → k ≤ size x → n ≤ size x → Fresh x k n
  to_fill : Core x → x.hand ≡ 0 → Missing x → Open x → x.accepted ≡ false → Gains x k → Gains x n → Gains x (length x.c - 1) → Fresh x k n

pub core_of : (x : Tables) (k n : ℕ) → Fresh x k n → Core x
core_of x k n (at_proposal w o h c l m) = w.core
core_of x k n (in_hand w f o r c l m) = w.core
core_of x k n (to_fill w h e o r a b c) = w

-- taken records are at most |S| + |T|, at every moment
pub taken_le : (x : Tables) (k n : ℕ) → Fresh x k n → k ≤ size x
taken_le x k n (at_proposal w o h c (inl e) l) = omega arith
taken_le x k n (at_proposal w o h c (inr e) l) = omega arith
taken_le x k n (in_hand w f o r c e l) = e
taken_le x k n (to_fill w h e o r a b c) = a.0

-- AFTER a step that began with k records taken, the one in hand among them
pub data After (k n : ℕ) : Ended → Type 0 where
  after_short : {m : Shortage} → After k n (short m)
  after_asks : {y : Tables} → Tidy y → Fresh y k n → Open y → y.accepted ≡ false → After k n (asks y)
  after_proposes : {y : Tables} → Tidy y → Fresh y k (size y) → n + 1 ≤ size y → y.asked ≡ 0 → y.accepted ≡ false → After k n (proposes y)

pub settled_after : (z : Tables) (e : Ended) (k n : ℕ) → z.hand ≡ 0 → Gains z k → Gains z n → Gains z (length z.c - 1) → SettledOk z e → After k n e
settled_after z e k n h a b c (ok_short s) = after_short
settled_after z e k n h a b c (ok_asks {y = y} q hd ms g) =
    after_asks q.tidy (to_fill q.core (hd ∙ h) ms q.opens q.running (g k a) (g n b) (subst (λ (l : List ℕ). Gains y (length l - 1)) (sym q.same_c) (g (length z.c - 1) c))) q.opens q.running
settled_after z e k n h a b c (ok_proposes {y = y} q g) =
    let p = g k a in
    let o = g n b in
    let l : length z.c - 1 + 1 ≤ size y = g (length z.c - 1) c in
    after_proposes q.tidy (at_proposal q.whole q.idle q.empty (inr (subst (λ (v : List ℕ). length v ≤ size y) (sym q.same_c) (omega arith))) (inr p) (omega arith)) o q.idle q.running

pub hand_after : (x : Tables) (e : Ended) (k n : ℕ) → Few x → (k ≤ size x ⊎ ((size x ≡ 0) × (k ≡ 1))) → n ≤ size x → HandOk x e → After k n e
hand_after x e k n c l m (hand_short s) = after_short
hand_after x e k n c l m (hand_asks {y = y} q whole fit u) = after_asks q.tidy (in_hand whole fit q.opens q.running (cy c) (ky l) (rw (q.same_s, q.same_t) m)) q.opens q.running
  where
    cy : (length x.c ≤ 1) ⊎ (length x.c ≤ size x) → length y.c ≤ size y
    cy (inl a) = rw (q.same_s, q.same_t, q.same_c) (omega arith)
    cy (inr a) = rw (q.same_s, q.same_t, q.same_c) a

    ky : (k ≤ size x) ⊎ ((size x ≡ 0) × (k ≡ 1)) → k ≤ size y
    ky (inl a) = rw (q.same_s, q.same_t) a
    ky (inr a) = absurd (omega (arith, a.0))
hand_after x e k n c l m (hand_down {z = z} q ok) = settled_after z e k n q.empty (gk l) (q.gains n m) (gc c (cases (size x))) ok
  where
    gk : (k ≤ size x) ⊎ ((size x ≡ 0) × (k ≡ 1)) → Gains z k
    gk (inl b) = q.gains k b
    gk (inr b) = subst (Gains z) (sym b.1) (q.gains_first b.0)

    cases : (p : ℕ) → (p ≡ 0) ⊎ (1 ≤ p)
    cases zero = inl refl
    cases (suc p) = inr (omega arith)

    gc : (length x.c ≤ 1) ⊎ (length x.c ≤ size x) → (size x ≡ 0) ⊎ (1 ≤ size x) → Gains z (length z.c - 1)
    gc b (inr s) = q.gains (length z.c - 1) (small b)
      where
        small : (length x.c ≤ 1) ⊎ (length x.c ≤ size x) → length z.c - 1 ≤ size x
        small (inl v) = let f = q.few_more in omega arith
        small (inr v) = let f = q.few_more in omega arith
    gc b (inl s) = by (length z.c - 1) (small b)
      where
        small : (length x.c ≤ 1) ⊎ (length x.c ≤ size x) → length z.c - 1 ≤ 1
        small (inl v) = let f = q.few_more in omega arith
        small (inr v) = let f = q.few_more in omega arith

        by : (p : ℕ) → p ≤ 1 → Gains z p
        by zero u = q.gains 0 (omega arith)
        by (suc zero) u = q.gains_first s
        by (suc (suc p)) u = absurd (omega arith)

-- START
start_good : (n : ℕ) (ns : List ℕ) → 1 ≤ n → length ns ≤ most_symbols → ((a : ℕ) → get_or ns a 0 ≤ most_children) → Good (started n ns).store
start_good n ns l a c =
    record {
      letters = a;
      wide = c;
      start = omega arith;
      fits = l;
      first = refl;
      row = λ i z u. absurd (omega arith);
      twins = λ i j z u w v. absurd (omega arith);
    }

pub start_fresh : (n : ℕ) (ns : List ℕ) → 1 ≤ n → length ns ≤ most_symbols → ((a : ℕ) → get_or ns a 0 ≤ most_children) → Fresh (started n ns) 0 0
start_fresh n ns l a c =
    at_proposal
    (record {
      core =
          record {
            good = start_good n ns l a c;
            counted = refl;
            first = refl;
            bound = blank;
            held =
                record {
                  context = only;
                  row = λ i h. absurd (no_in h);
                  kids = λ i h. absurd (no_in h);
                  among = λ i h. absurd (no_in h);
                  differ = λ i j h. absurd (no_in h);
                  yes = λ i h. absurd (no_in h);
                  one = distinct_nil;
                  each_one = distinct_nil;
                };
          };
      known = λ i d h. absurd (no_in h);
      shaped = record { row = λ i h. absurd (no_in h); kids = λ i h. absurd (no_in h); among = λ i h. absurd (no_in h); differ = λ i j h. absurd (no_in h); covered = λ i h. absurd (no_in h) };
      hole_in = here;
    })
    refl refl (inl (omega arith)) (inl refl) (omega arith)
  where
    blank : (i : ℕ) → get_or (0 ∷ []) i 0 ≤ 2
    blank zero = omega arith
    blank (suc i) = omega arith

    only : (d : ℕ) → In d (0 ∷ []) → IsContext (started n ns).store d
    only d h = subst (IsContext (started n ns).store) (sym (in_one h)) (record { within = omega arith; hole = hole_has (started n ns).store })

-- AN OFFER TAKEN counts one
module _ (x : Tables) (k n : ℕ) (f : Whole x) (d : Tidy x) (c : Few x) (l : (k ≡ 0) ⊎ (k + 1 ≤ size x)) (m : n ≤ size x)
    (xs : List ℕ) (ps : Parses x.store.counts 0 xs) (v : ℕ) (some-mark : v ≢ 0) (small-mark : v ≤ 2)
    (agrees : (get_or x.answers (known_from x.store xs []) 0 ≡ 0) ⊎ (get_or x.answers (known_from x.store xs []) 0 ≡ v))
    (other_verdict : proposed_verdict x.store x.answers x.s x.t x.c
    (eval_from (leads (rules_of x.store (row_of x) x.s x.t)) none x.store.counts xs []) ≡ not (eqb v 2))
    (i : ℕ) (y : Store) (e : store_from x.store xs [] ≡ built i y) where
  abbrev offer_tables : Tables
  offer_tables = tables y (set (blanked x.store y x.answers) i v) x.s x.t x.c i 0 false

  pub offer_step : After (k + 1) n (searched offer_tables (search y (set (blanked x.store y x.answers) i v) x.s x.t x.c i))
  offer_step = hand_after offer_tables _ (k + 1) n c (count l (size x) refl) m (offer_ok x f xs ps v some-mark small-mark agrees other_verdict i y e d c)
    where
      count : (k ≡ 0) ⊎ (k + 1 ≤ size x) → (q : ℕ) → size x ≡ q → (k + 1 ≤ size x) ⊎ ((size x ≡ 0) × (k + 1 ≡ 1))
      count (inr a) q b = inl a
      count (inl a) zero b = inr (b, omega arith)
      count (inl a) (suc q) b = inl (omega arith)

-- AN ANSWER TAKEN counts none
pub answer_step_down : (x : Tables) (k n : ℕ) → Core x → Tidy x → x.hand ≡ 0 → Open x → Gains x k → Gains x n → Gains x (length x.c - 1) → (v : ℕ) → v ≤ 2 →
    After k n (settled (tables x.store (set x.answers x.asked v) x.s x.t x.c x.hand 0 false))
answer_step_down x k n q d h o a b c v small-mark =
    let cr = answered_core x q x.asked o.0 o.1 v small-mark in
    let g = answered_gains x q x.asked o.0 o.1 v small-mark in
    settled_after (tables x.store (set x.answers x.asked v) x.s x.t x.c x.hand 0 false) _ k n h (g k a) (g n b) (g (length x.c - 1) c)
    (settled_ok _ cr (answered_tidy x q x.asked o.0 o.1 v small-mark d))

pub answer_step_hand : (x : Tables) (k n : ℕ) → Whole x → Tidy x → HandFits x.store x.answers x.s x.t x.c x.hand → Open x → length x.c ≤ size x → k ≤ size x → n ≤ size x →
    (v : ℕ) → v ≢ 0 → v ≤ 2 →
    After k n (searched (tables x.store (set x.answers x.asked v) x.s x.t x.c x.hand 0 false) (search x.store (set x.answers x.asked v) x.s x.t x.c x.hand))
answer_step_hand x k n f d fit o c l m v some-mark small-mark =
    hand_after (tables x.store (set x.answers x.asked v) x.s x.t x.c x.hand 0 false) _ k n (inr c) (inl l) m
    (answer_hand_ok x f x.hand fit x.asked o.0 o.1 v some-mark small-mark d (inr c))

-- THE BOUND: records taken are at most states and rules of any automaton that agrees
pub taken_bound : (x : Tables) (k n : ℕ) → Fresh x k n → (ds : List Rule) (fs : List ℕ) → RulesIn (length fs) ds → Agree ds fs x.store x.answers → k ≤ length fs + length ds
taken_bound x k n f ds fs r a =
    let q = core_of x k n f in
    let l = taken_le x k n f in
    let s = few_states ds fs x.store q.good x.answers a x.s x.t x.c q.held (length fs) r in
    let t = few_rules ds fs x.store q.good x.answers a x.s x.t x.c q.held in
    omega arith

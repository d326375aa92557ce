-- T2 to T8 as tests say what they say as facts, and the other way round, each by itself and without T1.
-- Each test is split into its parts, and each part is a test along a list of rows.
use mathlib.Core.Path.{◌≡◌, refl, sym, ap, ◌∙◌}
use mathlib.Core.Logic.{◌≢◌, ◌⊎◌, inl, inr}
use mathlib.Core.Bool.{Bool, true, false, ◌&&◌, not, true≢false, cond}
use mathlib.Core.List.{List, map}
use Prim.Native.Nat.{ℕ, zero, suc, ◌+◌, ◌≤◌}
use native.Mathlib.Omega.{arith}
use native.Mathlib.Decide.{ℕ_discrete}
use lib.Dec.{ltb, leb, eqb}
use borrow.Author.Tests.{ltb-true, leb-true, eqb-true, eqb-false, not-true, lt-ltb, le-leb, eq-eqb, ne_eqb}
use lib.ListN.{length, get_or}
use Rattle.model.specs.Limits.{most_states, most_rules}
use Rattle.model.specs.Base.{Distinct, Each, In, all, all_among, among, no_repeats}
use Rattle.model.specs.Store.{Store, is_context, is_record, kids_at}
use Rattle.model.specs.Automata.{accepts_row}
use Rattle.model.specs.Table.{Tables, answer_at, automaton_of, is_missing, row_of, size}
use Rattle.model.specs.Sound.{all_differ, contexts_few, contexts_fit, count_same, differ_known, is_t2, is_t3, is_t5, is_t6, is_t7, is_t8, question_fits, verdict_differs}
use Rattle.model.specs.Facts.{IsContext, IsRecord}
use Rattle.model.specs.TableFacts.{Differ, HandFits, Held, Known, Missing, Open, Shaped, Yes}
use Rattle.model.proofs.Laws.Tests.{both_true, true_both, all_of, all_back, not_so, or_cases, or_left, or_right}
use Rattle.model.proofs.Laws.Lists.{members_in, in_members, each_at, each_from, first_in}
use Rattle.model.proofs.Laws.Grow.{differ_not_same}
use Rattle.model.proofs.Laws.ReflectLists.{distinct_of, distinct_back, record_of, record_back, context_of, context_back, has_of, has_back, differ_sym, differ_of, differ_back, all_differ_of, all_differ_back, missing_row, row_missing, count_some, count_one}

-- T2, T3 and T4 in numbers, but for T4's last clause
pub record Numbers (x : Tables) : Type 0 where
  pub few_t : length x.t ≤ most_rules
  pub few_s : length x.s ≤ most_states
  pub some_c : 1 ≤ length x.c
  pub hole_first_law : get_or x.c 0 1 ≡ 0
  pub one_c : Distinct x.c
  pub few_c : length x.c ≤ 1 + size x

-- an answer is known and differs from a verdict
against : (b : Bool) (n : ℕ) → n ≡ cond b 1 2 → (n ≢ 0) × (n ≤ 2) × (b ≡ not (eqb n 2))
against true n e = ((λ z. omega (arith, z)), omega arith, rw e)
against false n e = ((λ z. omega (arith, z)), omega arith, rw e)

against_back : (b : Bool) (n : ℕ) → n ≢ 0 → n ≤ 2 → b ≡ not (eqb n 2) → n ≡ cond b 1 2
against_back b zero z l e = absurd (z refl)
against_back b (suc zero) z l e = rw e
against_back b (suc (suc zero)) z l e = rw e
against_back b (suc (suc (suc n))) z l e = absurd (omega arith)

module _ (x : Tables) where
  abbrev st : Store
  st = x.store

  abbrev w : List ℕ
  w = x.answers

  -- T2, T3, T4's contexts and T5
  two_of : is_t2 x ≡ true →
      (length x.t ≤ most_rules) × Distinct x.t × ((i : ℕ) → In i x.t → IsRecord st i) × ((i : ℕ) → In i x.t → Each (λ (k : ℕ). In k x.s) (kids_at st i))
  two_of e =
      let kids : ℕ → Bool = λ i. all_among (kids_at st i) x.s in
      let p = both_true (leb (length x.t) most_rules && no_repeats x.t && all (is_record st) x.t) (all kids x.t) e in
      let q = both_true (leb (length x.t) most_rules && no_repeats x.t) (all (is_record st) x.t) p.0 in
      let r = both_true (leb (length x.t) most_rules) (no_repeats x.t) q.0 in (
        leb-true (length x.t) most_rules r.0,
        distinct_of x.t r.1,
        (λ i h. record_of st i (all_of (is_record st) x.t q.1 i h)),
        λ i h. in_members (kids_at st i) x.s (all_of kids x.t p.1 i h),
      )

  three_of : is_t3 x ≡ true → (length x.s ≤ most_states) × Distinct x.s × ((i : ℕ) → In i x.s → In i x.t)
  three_of e =
      let p = both_true (leb (length x.s) most_states && no_repeats x.s) (all_among x.s x.t) e in
      let q = both_true (leb (length x.s) most_states) (no_repeats x.s) p.0 in
      (leb-true (length x.s) most_states q.0, distinct_of x.s q.1, each_at (in_members x.s x.t p.1))

  four_of : contexts_fit x ≡ true →
      (1 ≤ length x.c) × (get_or x.c 0 1 ≡ 0) × ((c : ℕ) → In c x.c → IsContext st c) × Distinct x.c × (length x.c ≤ 1 + size x)
  four_of e =
      let p = both_true (ltb 0 (length x.c) && eqb (get_or x.c 0 1) 0 && all (is_context st) x.c && no_repeats x.c) (leb (length x.c) (1 + size x)) e in
      let q = both_true (ltb 0 (length x.c) && eqb (get_or x.c 0 1) 0 && all (is_context st) x.c) (no_repeats x.c) p.0 in
      let r = both_true (ltb 0 (length x.c) && eqb (get_or x.c 0 1) 0) (all (is_context st) x.c) q.0 in
      let u = both_true (ltb 0 (length x.c)) (eqb (get_or x.c 0 1) 0) r.0 in (
        ltb-true 0 (length x.c) u.0,
        eqb-true (get_or x.c 0 1) 0 u.1,
        (λ c h. context_of st c (all_of (is_context st) x.c r.1 c h)),
        distinct_of x.c q.1,
        leb-true (length x.c) (1 + size x) p.1,
      )

  five_of : is_t5 x ≡ true → ((i j : ℕ) → In i x.s → In j x.s → i ≢ j → Differ st w x.c i j) × ((i : ℕ) → In i x.t → Yes st w x.c i)
  five_of e =
      let says : ℕ → Bool = λ i. among 2 (row_of x i) in
      let p = both_true (all_differ (map (row_of x) x.s)) (all says x.t) e in
      ((λ i j a b n. go i j (all_differ_of (row_of x) x.s p.0 i j a b n)), λ i h. has_of st w 2 x.c i (all_of says x.t p.1 i h))
    where
      go : (i j : ℕ) → (differ_known (row_of x i) (row_of x j) ≡ true) ⊎ (differ_known (row_of x j) (row_of x i) ≡ true) → Differ st w x.c i j
      go i j (inl d) = differ_of st w x.c i j d
      go i j (inr d) = differ_sym st w x.c j i (differ_of st w x.c j i d)

  pub held_of : is_t2 x ≡ true → is_t3 x ≡ true → contexts_fit x ≡ true → is_t5 x ≡ true → Held st w x.s x.t x.c × Numbers x × In 0 x.c
  held_of a b c d =
      let p = two_of a in
      let q = three_of b in
      let r = four_of c in
      let u = five_of d in (
        record { context = r.2; row = p.2; kids = p.3; among = q.2; differ = u.0; yes = u.1; one = q.1; each_one = p.1 },
        record { few_t = p.0; few_s = q.0; some_c = r.0; hole_first_law = r.1; one_c = r.3; few_c = r.4 },
        first_in x.c r.1,
      )

  two_back : Held st w x.s x.t x.c → Numbers x → is_t2 x ≡ true
  two_back h n =
      true_both _ _ (true_both _ _ (true_both _ _ (le-leb (length x.t) most_rules n.few_t) (distinct_back h.each_one)) (all_back (is_record st) x.t (λ i a. record_back st i (h.row i a))))
      (all_back (λ (i : ℕ). all_among (kids_at st i) x.s) x.t (λ i a. members_in x.s (h.kids i a)))

  three_back : Held st w x.s x.t x.c → Numbers x → is_t3 x ≡ true
  three_back h n = true_both _ _ (true_both _ _ (le-leb (length x.s) most_states n.few_s) (distinct_back h.one)) (members_in x.t (each_from x.s h.among))

  four_back : Held st w x.s x.t x.c → Numbers x → contexts_fit x ≡ true
  four_back h n =
      true_both _ _
      (true_both _ _
      (true_both _ _ (true_both _ _ (lt-ltb 0 (length x.c) n.some_c) (eq-eqb (get_or x.c 0 1) 0 n.hole_first_law)) (all_back (is_context st) x.c (λ c a. context_back st c (h.context c a))))
      (distinct_back n.one_c))
      (le-leb (length x.c) (1 + size x) n.few_c)

  five_back : Held st w x.s x.t x.c → is_t5 x ≡ true
  five_back h =
      true_both _ _ (all_differ_back (row_of x) h.one (λ i j a b m. differ_back st w x.c i j (h.differ i j a b m)))
      (all_back (λ (i : ℕ). among 2 (row_of x i)) x.t (λ i a. has_back st w 2 x.c i (h.yes i a)))

  pub held_back : Held st w x.s x.t x.c → Numbers x → (is_t2 x ≡ true) × (is_t3 x ≡ true) × (contexts_fit x ≡ true) × (is_t5 x ≡ true)
  held_back h n = (two_back h n, three_back h n, four_back h n, five_back h)

  -- no answer is missing, or one is
  pub missing_of : is_missing x ≡ true → Missing x
  missing_of e =
      let p = missing_row (row_of x) x.t e in
      let q = has_of st w 0 x.c p.0 p.2 in
      (p.0, q.0, p.1, q.1, q.2)

  pub missing_back : Missing x → is_missing x ≡ true
  missing_back m = row_missing (row_of x) x.t m.0 m.2 (has_back st w 0 x.c m.0 (m.1, m.3, m.4))

  pub known_of : is_missing x ≡ false → Known x
  known_of e i c a b z = true≢false (sym (missing_back (i, c, a, b, z)) ∙ e)

  pub known_back : Known x → is_missing x ≡ false
  known_back k = not_so (is_missing x) (λ e. let m = missing_of e in k m.0 m.1 m.2 m.3 m.4)

  -- T4: how many contexts there may be
  pub few_of : contexts_few x ≡ true → Known x → (length x.c ≤ 1) ⊎ (length x.c ≤ size x)
  few_of e k = go (eqb (size x) 0) (rw (known_back k) at e)
    where
      go : (b : Bool) → leb (length x.c) (cond b 1 (size x)) ≡ true → (length x.c ≤ 1) ⊎ (length x.c ≤ size x)
      go true f = inl (leb-true (length x.c) 1 f)
      go false f = inr (leb-true (length x.c) (size x) f)

  pub few_back : (length x.c ≤ 1) ⊎ (length x.c ≤ size x) → contexts_few x ≡ true
  few_back l = or_right (is_missing x) (le-leb (length x.c) (cond (eqb (size x) 0) 1 (size x)) (go (eqb (size x) 0) refl l))
    where
      go : (b : Bool) → eqb (size x) 0 ≡ b → (length x.c ≤ 1) ⊎ (length x.c ≤ size x) → length x.c ≤ cond b 1 (size x)
      go true e (inl m) = m
      go true e (inr m) = let z = eqb-true (size x) 0 e in omega arith
      go false e (inl m) = let n = eqb-false (size x) 0 e in omega arith
      go false e (inr m) = m

  pub few_missing : Missing x → contexts_few x ≡ true
  few_missing m = or_left (leb (length x.c) (cond (eqb (size x) 0) 1 (size x))) (missing_back m)

  -- T6
  abbrev once : ℕ → Bool
  once i = eqb (count_same (row_of x i) (map (row_of x) x.s)) 1

  rows_differ : Held st w x.s x.t x.c → (i j : ℕ) → In i x.s → In j x.s → row_of x i ≡ row_of x j → i ≡ j
  rows_differ h i j a b e = go (ℕ_discrete i j)
    where
      go : Dec (i ≡ j) → i ≡ j
      go (yes p) = p
      go (no n) = absurd (differ_not_same st w x.c i j (h.differ i j a b n) e)

  pub shaped_of : Held st w x.s x.t x.c → Known x → is_t6 x ≡ true → Shaped st (row_of x) x.s x.t
  shaped_of h k e =
      record {
        row = λ i a. ((h.row i a).some, (h.row i a).within);
        kids = h.kids;
        among = h.among;
        differ = rows_differ h;
        covered = covered (or_cases (is_missing x) (all once x.t) e);
      }
    where
      covered : (is_missing x ≡ true) ⊎ (all once x.t ≡ true) → (i : ℕ) → In i x.t → (j : ℕ) × In j x.s × (row_of x i ≡ row_of x j)
      covered (inl p) i a = absurd (true≢false (sym p ∙ known_back k))
      covered (inr p) i a =
          let n = eqb-true (count_same (row_of x i) (map (row_of x) x.s)) 1 (all_of once x.t p i a) in
          count_some (row_of x i) (row_of x) x.s (omega arith)

  pub shaped_back : Held st w x.s x.t x.c → Known x → Shaped st (row_of x) x.s x.t → is_t6 x ≡ true
  shaped_back h k q = or_right (is_missing x) (all_back once x.t (λ i a. one i (q.covered i a)))
    where
      one : (i : ℕ) → (j : ℕ) × In j x.s × (row_of x i ≡ row_of x j) → once i ≡ true
      one i t =
          eq-eqb (count_same (row_of x i) (map (row_of x) x.s)) 1
          (count_one (row_of x i) (row_of x) h.one t.0 t.1 t.2 (λ m b e. rows_differ h m t.0 b t.1 (sym e ∙ t.2)))

  pub six_missing : Missing x → is_t6 x ≡ true
  six_missing m = or_left (all once x.t) (missing_back m)

  -- T7
  abbrev accepted_hand : Bool
  accepted_hand = accepts_row (automaton_of x) st x.hand

  pub hand_of : x.hand ≢ 0 → is_t7 x ≡ true → HandFits st w x.s x.t x.c x.hand × Known x
  hand_of n e = go (or_cases (eqb x.hand 0) (is_record st x.hand && verdict_differs x x.hand && not (is_missing x)) e)
    where
      go : (eqb x.hand 0 ≡ true) ⊎ (is_record st x.hand && verdict_differs x x.hand && not (is_missing x) ≡ true) →
          HandFits st w x.s x.t x.c x.hand × Known x
      go (inl p) = absurd (n (eqb-true x.hand 0 p))
      go (inr p) =
          let q = both_true (is_record st x.hand && verdict_differs x x.hand) (not (is_missing x)) p in
          let r = both_true (is_record st x.hand) (verdict_differs x x.hand) q.0 in
          let a = against accepted_hand (answer_at w x.hand) (eqb-true (answer_at w x.hand) (cond accepted_hand 1 2) r.1) in
          (record { record_row = record_of st x.hand r.0; known = a.0; small = a.1; against_it = a.2 }, known_of (not-true (is_missing x) q.1))

  pub hand_back : HandFits st w x.s x.t x.c x.hand → Known x → is_t7 x ≡ true
  hand_back h k =
      or_right (eqb x.hand 0)
      (true_both _ _
      (true_both _ _ (record_back st x.hand h.record_row)
      (eq-eqb (answer_at w x.hand) (cond accepted_hand 1 2) (against_back accepted_hand (answer_at w x.hand) h.known h.small h.against_it)))
      (ap not (known_back k)))

  pub seven_none : x.hand ≡ 0 → is_t7 x ≡ true
  seven_none e = or_left (is_record st x.hand && verdict_differs x x.hand && not (is_missing x)) (eq-eqb x.hand 0 e)

  -- T8
  pub open_of : x.asked ≢ 0 → is_t8 x ≡ true → Open x × (x.accepted ≡ false)
  open_of n e =
      let f : question_fits x ≡ true = rw (ne_eqb x.asked 0 n) at e in
      let p = both_true (is_record st x.asked && eqb (answer_at w x.asked) 0) (not x.accepted) f in
      let q = both_true (is_record st x.asked) (eqb (answer_at w x.asked) 0) p.0 in
      ((record_of st x.asked q.0, eqb-true (answer_at w x.asked) 0 q.1), not-true x.accepted p.1)

  pub open_back : Open x → x.accepted ≡ false → is_t8 x ≡ true
  open_back o a =
      let s = o.0.some in
      rw (ne_eqb x.asked 0 (λ z. omega (arith, z)))
      (true_both _ _ (true_both _ _ (record_back st x.asked o.0) (eq-eqb (answer_at w x.asked) 0 o.1)) (ap not a))

  pub idle_of : x.asked ≡ 0 → is_t8 x ≡ true → (x.hand ≡ 0) × Known x
  idle_of z e =
      let f : eqb x.hand 0 && not (is_missing x) ≡ true = rw (eq-eqb x.asked 0 z) at e in
      let p = both_true (eqb x.hand 0) (not (is_missing x)) f in
      (eqb-true x.hand 0 p.0, known_of (not-true (is_missing x) p.1))

  pub idle_back : x.asked ≡ 0 → x.hand ≡ 0 → Known x → is_t8 x ≡ true
  idle_back z h k = rw (eq-eqb x.asked 0 z) (true_both _ _ (eq-eqb x.hand 0 h) (ap not (known_back k)))

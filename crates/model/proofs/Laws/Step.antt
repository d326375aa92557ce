-- A taken offer or answer on any sound tables: its mark is stored, then the step ends short, asking or proposing, and what it leaves is nearly sound.
-- The search in hand and the settling of the table were followed before; here their ends are put together.
use mathlib.Core.Path.{◌≡◌, refl, sym, ap, ◌∙◌}
use mathlib.Core.Logic.{◌≢◌, ◌⊎◌, inl, inr}
use mathlib.Core.Bool.{Bool, true, false, not, cond, true≢false}
use mathlib.Core.List.{List, []}
use mathlib.Core.Option.{none, some}
use Prim.Native.Nat.{ℕ, zero, suc, ◌+◌, ◌-◌, ◌≤◌}
use native.Mathlib.Omega.{arith}
use lib.Dec.{eqb}
use borrow.Author.Tests.{eqb-true, eqb-false, ne_eqb, eq-eqb, leb-true, not-true, not-false}
use lib.ListN.{get_or, set}
use lib.Seq.{get_or-set_same, get_or-set_other}
use Rattle.model.specs.Base.{each_nil}
use Rattle.model.specs.Store.{Store, used, Extends, Built, full, built}
use Rattle.model.specs.Terms.{tree_at, tree_of, tree_with, hole_tree, eval_from, store_from, known_from, known_row, record_fault, or_else, unless}
use Rattle.model.specs.Automata.{leads, is_final, accepts_list, run_from}
use Rattle.model.specs.Table.{Tables, tables, answer_at, row_of, rules_of, automaton_of}
use Rattle.model.specs.Steps.{Shortage, of_rows, Ended, short, asks, proposes, blanked, settled, searched, search, advance, taken_by, offered, answered}
use Rattle.model.specs.Facts.{Good, IsRecord, Parses}
use Rattle.model.specs.TableFacts.{Core, Tidy, Whole, Few, Open, HandFits, proposed_verdict}
use Rattle.model.specs.Calls.{is_asking, is_proposing, mark_fits, contradicts, verdict_is, offer_fault, answer_fault}
use Rattle.model.proofs.Laws.Tests.{both_true}
use Rattle.model.proofs.Laws.Fill.{ext_refl, ext_trans}
use Rattle.model.proofs.Laws.Trees.{record_fault_parses}
use Rattle.model.proofs.Laws.Listed.{stored}
use Rattle.model.proofs.Laws.Verdict.{yes_ended, run_state}
use Rattle.model.proofs.Laws.Settle.{Keeps, ShortOk, SettledOk, ok_short, ok_asks, ok_proposes, settled_ok, past, blanked_length}
use Rattle.model.proofs.Laws.Advance.{PutDown, HandOk, hand_short, hand_asks, hand_down}
use Rattle.model.proofs.Laws.Cases.{not_contradicts}
use Rattle.model.proofs.Laws.Offer.{offer_ok, its_answer}
use Rattle.model.proofs.Laws.Answer.{answered_core, answered_tidy, answer_hand_ok}
use Rattle.model.specs.Phase.{idle, holding, filling, Nearly}

-- FAULTS: the first line does not apply and a later one decides, or it does
or_cases : (n m k : ℕ) → or_else n m ≡ k → ((n ≡ 0) × (m ≡ k)) ⊎ ((n ≢ 0) × (n ≡ k))
or_cases n m k e = go (eqb n 0) refl e
  where
    go : (b : Bool) → eqb n 0 ≡ b → cond b m n ≡ k → ((n ≡ 0) × (m ≡ k)) ⊎ ((n ≢ 0) × (n ≡ k))
    go true p q = inl (eqb-true n 0 p, q)
    go false p q = inr (eqb-false n 0 p, q)

-- no line applies
pub or_zero : (n m : ℕ) → or_else n m ≡ 0 → (n ≡ 0) × (m ≡ 0)
or_zero n m e = go (or_cases n m 0 e)
  where
    go : ((n ≡ 0) × (m ≡ 0)) ⊎ ((n ≢ 0) × (n ≡ 0)) → (n ≡ 0) × (m ≡ 0)
    go (inl p) = p
    go (inr p) = absurd (p.0 p.1)

-- the number is that of a later line
pub or_later : (n m k : ℕ) → n ≢ k → or_else n m ≡ k → (n ≡ 0) × (m ≡ k)
or_later n m k d e = go (or_cases n m k e)
  where
    go : ((n ≡ 0) × (m ≡ k)) ⊎ ((n ≢ 0) × (n ≡ k)) → (n ≡ 0) × (m ≡ k)
    go (inl p) = p
    go (inr p) = absurd (d p.1)

pub unless_true : (z : Bool) (n : ℕ) → n ≢ 0 → unless z n ≡ 0 → z ≡ true
unless_true true n d e = refl
unless_true false n d e = absurd (d e)

-- what an offer that no line refuses brings
pub record Offering (x : Tables) (xs : List ℕ) (m : ℕ) : Type 0 where
  pub idle_now : x.asked ≡ 0
  pub running : x.accepted ≡ false
  pub fits : record_fault x.store.counts xs ≡ 0
  pub parsed : Parses x.store.counts 0 xs
  pub mark : m ≤ 1
  pub other_verdict : proposed_verdict x.store x.answers x.s x.t x.c (eval_from (leads (rules_of x.store (row_of x) x.s x.t)) none x.store.counts xs []) ≡ not (eqb (m + 1) 2)
  pub agrees : (get_or x.answers (known_from x.store xs []) 0 ≡ 0) ⊎ (get_or x.answers (known_from x.store xs []) 0 ≡ m + 1)

pub proposing_of : (x : Tables) → is_proposing x ≡ true → (x.asked ≡ 0) × (x.accepted ≡ false)
proposing_of x e =
    let p = both_true (not (is_asking x)) (not x.accepted) e in
    (eqb-true x.asked 0 (not-false (eqb x.asked 0) (not-true (is_asking x) p.0)), not-true x.accepted p.1)

verdict_other : (b : Bool) (m : ℕ) → m ≤ 1 → eqb (cond b 1 0) m ≡ false → b ≡ not (eqb (m + 1) 2)
verdict_other true zero l e = refl
verdict_other false zero l e = absurd (true≢false e)
verdict_other true (suc zero) l e = absurd (true≢false e)
verdict_other false (suc zero) l e = refl
verdict_other b (suc (suc m)) l e = absurd (omega arith)

-- the verdict by a stack is the proposal's verdict on the listed record
list_verdict : (x : Tables) (xs : List ℕ) → Parses x.store.counts 0 xs →
    accepts_list (automaton_of x) xs ≡ proposed_verdict x.store x.answers x.s x.t x.c (eval_from (leads (rules_of x.store (row_of x) x.s x.t)) none x.store.counts xs [])
list_verdict x xs ps =
    yes_ended (automaton_of x).finals (run_from (automaton_of x) 0 xs []) ∙ ap (is_final (automaton_of x).finals) (sym (run_state (automaton_of x) ps 0 [] refl))

-- 11 to 15 are not given
pub listed_well : (x : Tables) (xs : List ℕ) (m : ℕ) → offer_fault x xs m ≡ 0 → record_fault x.store.counts xs ≡ 0
listed_well x xs m e = (or_zero (record_fault x.store.counts xs) _ (or_zero (unless (is_proposing x) 31) _ e).1).0

pub offering : (x : Tables) → ((i : ℕ) → answer_at x.answers i ≤ 2) → (xs : List ℕ) (m : ℕ) → offer_fault x xs m ≡ 0 → Offering x xs m
offering x bound xs m e =
    let a = or_zero (unless (is_proposing x) 31) _ e in
    let b = or_zero (record_fault x.store.counts xs) _ a.1 in
    let c = or_zero (unless (mark_fits m) 16) _ b.1 in
    let d = or_zero (unless (not (contradicts (answer_at x.answers (known_row x.store xs)) m)) 33) _ c.1 in
    let p = proposing_of x (unless_true (is_proposing x) 31 (λ q. omega arith) a.0) in
    let ps = (record_fault_parses x.store.counts xs b.0).0 in
    let l = leb-true m 1 (unless_true (mark_fits m) 16 (λ q. omega arith) c.0) in
    let w = not-true (contradicts (answer_at x.answers (known_row x.store xs)) m) (unless_true (not (contradicts (answer_at x.answers (known_row x.store xs)) m)) 33 (λ q. omega arith) d.0) in
    let v = not-true (verdict_is x xs m) (unless_true (not (verdict_is x xs m)) 32 (λ q. omega arith) d.1) in
    record {
      idle_now = p.0;
      running = p.1;
      fits = b.0;
      parsed = ps;
      mark = l;
      other_verdict = sym (list_verdict x xs ps) ∙ verdict_other (accepts_list (automaton_of x) xs) m l v;
      agrees = not_contradicts (answer_at x.answers (known_row x.store xs)) m (bound (known_row x.store xs)) l w;
    }

pub answering : (x : Tables) (m : ℕ) → answer_fault x m ≡ 0 → (x.asked ≢ 0) × (m ≤ 1)
answering x m e =
    let a = or_zero (unless (is_asking x) 31) (unless (mark_fits m) 16) e in
    (eqb-false x.asked 0 (not-true (eqb x.asked 0) (unless_true (is_asking x) 31 (λ q. omega arith) a.0)), leb-true m 1 (unless_true (mark_fits m) 16 (λ q. omega arith) a.1))

-- A STEP from tables whose mark is stored: by hand, or by settling
pub data StepOk (x : Tables) : Ended → Type 0 where
  by_hand : {e : Ended} → Few x → HandOk x e → StepOk x e
  by_settling : {e : Ended} → x.hand ≡ 0 → SettledOk x e → StepOk x e

-- what it leaves
pub record Left (x y : Tables) : Type 0 where
  pub nearly : Nearly y
  pub keeps : Keeps x y
  pub running : y.accepted ≡ false

settled_left : (x y : Tables) → x.hand ≡ 0 → SettledOk x (asks y) ⊎ SettledOk x (proposes y) → Left x y
settled_left x y h (inl (ok_asks q d m g)) =
    record { nearly = record { core = q.core; tidy = q.tidy; phase = filling q.opens q.running (d ∙ h) (inl m) }; keeps = q.keeps; running = q.running }
settled_left x y h (inr (ok_proposes q g)) =
    record { nearly = record { core = q.whole.core; tidy = q.tidy; phase = idle q.idle q.empty q.whole }; keeps = q.keeps; running = q.running }

keeps_trans : (x y z : Tables) → Keeps x y → Keeps y z → Keeps x z
keeps_trans x y z a b =
    record { ext = ext_trans x.store y.store z.store a.ext b.ext; answers = λ i. b.answers i ∙ a.answers i }

down_left : (x z y : Tables) → PutDown x z → Left z y → Left x y
down_left x z y p l = record { nearly = l.nearly; keeps = keeps_trans x z y p.keeps l.keeps; running = l.running }

hand_left : (x y : Tables) → HandOk x (asks y) ⊎ HandOk x (proposes y) → Left x y
hand_left x y (inl (hand_asks q w f u)) = record { nearly = record { core = q.core; tidy = q.tidy; phase = holding q.opens q.running w f }; keeps = q.keeps; running = q.running }
hand_left x y (inl (hand_down {z = z} p s)) = down_left x z y p (settled_left z y p.empty (inl s))
hand_left x y (inr (hand_down {z = z} p s)) = down_left x z y p (settled_left z y p.empty (inr s))

pub step_left : (x y : Tables) → StepOk x (asks y) ⊎ StepOk x (proposes y) → Left x y
step_left x y (inl (by_hand c h)) = hand_left x y (inl h)
step_left x y (inl (by_settling e s)) = settled_left x y e (inl s)
step_left x y (inr (by_hand c h)) = hand_left x y (inr h)
step_left x y (inr (by_settling e s)) = settled_left x y e (inr s)

-- and what runs short
settled_short : (x : Tables) (n : Shortage) → SettledOk x (short n) → ShortOk n
settled_short x n (ok_short s) = s

pub step_short : (x : Tables) (n : Shortage) → StepOk x (short n) → ShortOk n
step_short x n (by_hand c (hand_short s)) = s
step_short x n (by_hand c (hand_down {z = z} p s)) = settled_short z n s
step_short x n (by_settling e s) = settled_short x n s

-- THE MARK STORED: one record more answered, the rest as it was
pub record Marked (x y : Tables) (i v : ℕ) : Type 0 where
  pub ext : Extends x.store y.store
  pub good : Good y.store
  pub is_record_law : IsRecord y.store i
  pub here : answer_at y.answers i ≡ v
  pub elsewhere : (j : ℕ) → j ≢ i → answer_at y.answers j ≡ answer_at x.answers j
  pub before : (answer_at x.answers i ≡ 0) ⊎ (answer_at x.answers i ≡ v)
  pub same_s : y.s ≡ x.s
  pub same_t : y.t ≡ x.t
  pub same_c : y.c ≡ x.c

-- AN OFFER on sound tables: its rows run short, or its mark is stored and the step goes on
pub data OfferOk (x : Tables) (xs : List ℕ) (m : ℕ) : Ended → Type 0 where
  no_rows : OfferOk x xs m (short of_rows)
  stored_at : {e : Ended} (y : Tables) (i : ℕ) → Marked x y i (m + 1) → tree_at y.store i ≡ tree_of x.store.counts xs → StepOk y e → OfferOk x xs m e

-- a record in hand is searched
pub held_advance : (x : Tables) → x.hand ≢ 0 → advance x ≡ searched x (search x.store x.answers x.s x.t x.c x.hand)
held_advance x n = ap (λ (b : Bool). cond b (settled x) (searched x (search x.store x.answers x.s x.t x.c x.hand))) (ne_eqb x.hand 0 n)

pub none_advance : (x : Tables) → x.hand ≡ 0 → advance x ≡ settled x
none_advance x n = ap (λ (b : Bool). cond b (settled x) (searched x (search x.store x.answers x.s x.t x.c x.hand))) (eq-eqb x.hand 0 n)

pub mark_some : (m : ℕ) → m + 1 ≢ 0
mark_some m e = omega arith

pub mark_small : (m : ℕ) → m ≤ 1 → m + 1 ≤ 2
mark_small m l = omega arith

module _ (x : Tables) (f : Whole x) (d : Tidy x) (w : Few x) (xs : List ℕ) (m : ℕ) (o : Offering x xs m) where
  marked_at : (i : ℕ) (y : Store) → store_from x.store xs [] ≡ built i y →
      Marked x (tables y (set (blanked x.store y x.answers) i (m + 1)) x.s x.t x.c i 0 false) i (m + 1) × (tree_at y i ≡ tree_of x.store.counts xs)
  marked_at i y e =
      let g = f.core.good in
      let st = stored xs x.store g 0 [] each_nil refl o.parsed i y e in
      let many = blanked_length x.store y x.answers f.core.counted st.ext.more in
      let u = st.is_record_law.within in
      let p = past x.answers (used y - used x.store) in
      let q = its_answer x f xs o.parsed (m + 1) (mark_some m) (mark_small m o.mark) o.agrees o.other_verdict i y e in (
        record {
          ext = st.ext;
          good = st.good;
          is_record_law = st.is_record_law;
          here = get_or-set_same (blanked x.store y x.answers) i (m + 1) 0 (omega arith);
          elsewhere = λ j n. get_or-set_other (blanked x.store y x.answers) i j (m + 1) 0 n ∙ p j;
          before = was o.agrees (sym (p i) ∙ q);
          same_s = refl;
          same_t = refl;
          same_c = refl;
        },
        st.value tree_with hole_tree,
      )
    where
      was : {a b : ℕ} → (b ≡ 0) ⊎ (b ≡ m + 1) → a ≡ b → (a ≡ 0) ⊎ (a ≡ m + 1)
      was (inl z) e = inl (e ∙ z)
      was (inr z) e = inr (e ∙ z)

  pub offer_taken : OfferOk x xs m (offered x xs m)
  offer_taken = go (store_from x.store xs []) refl
    where
      go : (b : Built) → store_from x.store xs [] ≡ b → OfferOk x xs m (taken_by x m b)
      go full e = no_rows
      go (built i y) e =
          let k = marked_at i y e in
          let z : Tables = tables y (set (blanked x.store y x.answers) i (m + 1)) x.s x.t x.c i 0 false in
          let a = k.0.is_record_law.some in
          stored_at {e = advance z} z i k.0 k.1
          (rw (held_advance z (λ p. omega (arith, p)))
          (by_hand w (offer_ok x f xs o.parsed (m + 1) (mark_some m) (mark_small m o.mark) o.agrees o.other_verdict i y e d w)))

-- AN ANSWER on sound tables
pub record AnswerOk (x : Tables) (m : ℕ) (e : Ended) : Type 0 where
  pub marked_tables_law : Tables
  pub marked : Marked x marked_tables_law x.asked (m + 1)
  pub same_store : marked_tables_law.store ≡ x.store
  pub step : StepOk marked_tables_law e

module _ (x : Tables) (k : Core x) (d : Tidy x) (q : Open x) (m : ℕ) (l : m ≤ 1) where
  abbrev answered_tables_law : Tables
  answered_tables_law = tables x.store (set x.answers x.asked (m + 1)) x.s x.t x.c x.hand 0 false

  asked_marked : Marked x answered_tables_law x.asked (m + 1)
  asked_marked =
      let u = q.0.within in
      let c = k.counted in
      record {
        ext = ext_refl x.store;
        good = k.good;
        is_record_law = q.0;
        here = get_or-set_same x.answers x.asked (m + 1) 0 (omega arith);
        elsewhere = λ j n. get_or-set_other x.answers x.asked j (m + 1) 0 n;
        before = inl q.1;
        same_s = refl;
        same_t = refl;
        same_c = refl;
      }

  pub answer_held : Whole x → Few x → HandFits x.store x.answers x.s x.t x.c x.hand → AnswerOk x m (answered x m)
  answer_held f w h =
      let a = h.record_row.some in
      record {
        marked_tables_law = answered_tables_law;
        marked = asked_marked;
        same_store = refl;
        step = rw (held_advance answered_tables_law (λ p. omega (arith, p))) (by_hand w (answer_hand_ok x f x.hand h x.asked q.0 q.1 (m + 1) (mark_some m) (mark_small m l) d w));
      }

  pub answer_filling : x.hand ≡ 0 → AnswerOk x m (answered x m)
  answer_filling z =
      record {
        marked_tables_law = answered_tables_law;
        marked = asked_marked;
        same_store = refl;
        step =
            rw (none_advance answered_tables_law z)
            (by_settling z
            (settled_ok answered_tables_law (answered_core x k x.asked q.0 q.1 (m + 1) (mark_small m l)) (answered_tidy x k x.asked q.0 q.1 (m + 1) (mark_small m l) d)));
      }

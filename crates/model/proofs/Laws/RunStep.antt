-- One call of a fresh run, taken or refused: it changes no count; or it opens a question; or it shows a proposal, and S and T have grown past the last one.
-- The invariant Fresh goes along with the lent tables, since what they mean is what the step leaves.
use mathlib.Core.Path.{◌≡◌, refl, sym, ap, ◌∙◌, subst}
use mathlib.Core.Logic.{◌≢◌, inl, inr}
use mathlib.Core.Bool.{Bool, true, false, ◌&&◌, not, cond}
use mathlib.Core.List.{List, [], ◌∷◌}
use Prim.Native.Nat.{ℕ, zero, suc, ◌+◌, ◌≤◌, ◌<◌}
use native.Mathlib.Omega.{arith}
use lib.Dec.{eqb, leb, ltb}
use borrow.Author.Tests.{eq-eqb, ne_eqb, leb-true, le-leb, ltb-true, ltb-false}
use lib.ListN.{length, get_or, set, get_or-eq_default}
use Rattle.model.specs.Limits.{most_symbols, most_children}
use Rattle.model.specs.Base.{is_in, all, apart_nil, distinct_cons, distinct_nil, each_nil}
use Rattle.model.specs.Store.{Built, full, built}
use Rattle.model.specs.Terms.{store_from}
use Rattle.model.specs.Table.{Tables, tables, size}
use Rattle.model.specs.Sound.{alphabet_fits}
use Rattle.model.specs.Steps.{Ended, short, asks, proposes, offered_tables, offered, answered, taken_by}
use Rattle.model.specs.TableFacts.{Tidy, Open}
use Rattle.model.specs.Calls.{is_proposing, Call, offers, answers, accept, looks, emits, judges, is_asking, phase_of, done_by, leaves, started}
use Rattle.model.specs.Entry.{size_fits, lists_fit, rows_lent, start_number}
use Rattle.model.specs.Run.{Lent, meant, after_call, after, started_run, is_taken, takes_one, taken, is_shown, shown_by, grows_from}
use Rattle.model.specs.declared.Lists.{Lists}
use Rattle.model.proofs.Laws.Tests.{both_true, true_both, all_get_d}
use Rattle.model.proofs.Laws.Listed.{stored}
use Rattle.model.proofs.Laws.Flags.{whole_flags, tidy_flags}
use Rattle.model.specs.Phase.{idle, holding, filling, Sounds}
use Rattle.model.proofs.Laws.Step.{Offering, offering, answering, held_advance, none_advance, mark_some, mark_small, proposing_of, unless_true}
use Rattle.model.proofs.Laws.Lent.{start_back, start_size_back, start_lists_fit, start_alphabet, start_size, size_fits_facts}
use Rattle.model.proofs.Laws.Took.{EndsIn, in_asks, in_proposes, ends_in}
use Rattle.model.proofs.Laws.Along.{Along, along}
use Rattle.model.proofs.Laws.Fresh.{Fresh, at_proposal, in_hand, to_fill, After, after_short, after_asks, after_proposes, offer_step, answer_step_down, answer_step_hand, start_fresh}
use Rattle.model.proofs.Promises.Calls.{refused_untouched}

pub record FreshLent (l : Lent) (k n : ℕ) : Type 0 where
  pub size_fits_law : size_fits l.words ≡ true
  pub lists_fit_law : lists_fit l.lists ≡ true
  pub tidy : Tidy (meant l)
  pub fresh : Fresh (meant l) k n

-- fresh tables are sound
pub fresh_sounds : (x : Tables) (k n : ℕ) → Tidy x → Fresh x k n → Sounds x
fresh_sounds x k n d (at_proposal w a h c l m) = record { nearly = record { core = w.core; tidy = d; phase = idle a h w }; few = inr c }
fresh_sounds x k n d (in_hand w f o r c l m) = record { nearly = record { core = w.core; tidy = d; phase = holding o r w f }; few = inr (inr c) }
fresh_sounds x k n d (to_fill q h e o r a b c) = record { nearly = record { core = q; tidy = d; phase = filling o r h (inl e) }; few = inl e }

-- AN OFFER and AN ANSWER of a fresh run
fresh_offer : (x : Tables) (k n : ℕ) → Tidy x → Fresh x k n → (xs : List ℕ) (m : ℕ) → Offering x xs m → After (k + 1) n (offered x xs m)
fresh_offer x k n d (in_hand w f q r c l e) xs m o = let p = q.0.some in let z = o.idle_now in absurd (omega arith)
fresh_offer x k n d (to_fill t h e q r a b c) xs m o = let p = q.0.some in let z = o.idle_now in absurd (omega arith)
fresh_offer x k n d (at_proposal w a h c l e) xs m o = go (store_from x.store xs []) refl
  where
    go : (b : Built) → store_from x.store xs [] ≡ b → After (k + 1) n (taken_by x m b)
    go full q = after_short
    go (built i y) q =
        let s = offer_step x k n w d c l e xs o.parsed (m + 1) (mark_some m) (mark_small m o.mark) o.agrees o.other_verdict i y q in
        subst (After (k + 1) n) (sym (held_advance (offered_tables x m i y) (stored_some i y q))) s
      where
        stored_some : (i : ℕ) (y : _) → store_from x.store xs [] ≡ built i y → i ≢ 0
        stored_some i y q z =
            let r = stored xs x.store w.core.good 0 [] each_nil refl o.parsed i y q in
            let p = r.is_record_law.some in
            omega arith

fresh_answer : (x : Tables) (k n : ℕ) → Tidy x → Fresh x k n → x.asked ≢ 0 → (m : ℕ) → m ≤ 1 → After k n (answered x m)
fresh_answer x k n d (at_proposal w a h c l e) z m o = absurd (z a)
fresh_answer x k n d (in_hand w f q r c l e) z m o =
    let s = answer_step_hand x k n w d f q c l e (m + 1) (mark_some m) (mark_small m o) in
    let p = f.record_row.some in
    subst (After k n) (sym (held_advance (tables x.store (set x.answers x.asked (m + 1)) x.s x.t x.c x.hand 0 false) (λ u. omega (arith, u)))) s
fresh_answer x k n d (to_fill t h e q r a b c) z m o =
    let s = answer_step_down x k n t d h q a b c (m + 1) (mark_small m o) in
    subst (After k n) (sym (none_advance (tables x.store (set x.answers x.asked (m + 1)) x.s x.t x.c x.hand 0 false) h)) s

-- acceptance changes the flag alone
fresh_accept : (x : Tables) (k n : ℕ) → Tidy x → Fresh x k n → x.asked ≡ 0 →
    Tidy (tables x.store x.answers x.s x.t x.c x.hand x.asked true) × Fresh (tables x.store x.answers x.s x.t x.c x.hand x.asked true) k n
fresh_accept x k n d (in_hand w f q r c l e) z = let p = q.0.some in absurd (omega arith)
fresh_accept x k n d (to_fill t h e q r a b c) z = let p = q.0.some in absurd (omega arith)
fresh_accept x k n d (at_proposal w a h c l e) z =
    (tidy_flags x d x.hand x.asked true, at_proposal (whole_flags x w x.hand x.asked true) a h c l e)

-- A CALL of the run, with its counts
pub data RunStep (l : Lent) (q : Call) (k n : ℕ) : Type 0 where
  still : takes_one l q ≡ 0 → is_shown l q ≡ false → is_asking (meant (after_call l q)) ≡ is_asking (meant l) → FreshLent (after_call l q) k n → RunStep l q k n
  opens : is_shown l q ≡ false → is_asking (meant (after_call l q)) ≡ true → takes_one l q + cond (is_asking (meant l)) 1 0 ≡ 1 → FreshLent (after_call l q) (takes_one l q + k) n → RunStep l q k n
  shows : is_shown l q ≡ true → is_asking (meant (after_call l q)) ≡ false → takes_one l q + cond (is_asking (meant l)) 1 0 ≡ 1 →
      FreshLent (after_call l q) (takes_one l q + k) (size (meant (after_call l q))) → n + 1 ≤ size (meant (after_call l q)) → RunStep l q k n

asking_of : (x : Tables) → Open x → is_asking x ≡ true
asking_of x o = let p = o.0.some in ap not (ne_eqb x.asked 0 (λ e. omega arith))

idle_not : (x : Tables) → x.asked ≡ 0 → is_asking x ≡ false
idle_not x e = ap not (eq-eqb x.asked 0 e)

fresh_open : (x : Tables) (k n : ℕ) → Fresh x k n → x.asked ≢ 0 → (is_asking x ≡ true) × (x.accepted ≡ false)
fresh_open x k n (at_proposal w a h c l e) z = absurd (z a)
fresh_open x k n (in_hand w f q r c l e) z = (asking_of x q, r)
fresh_open x k n (to_fill t h e q r a b c) z = (asking_of x q, r)

-- the phase told by tables that ask, and by tables that propose
phase_asks : (x : Tables) → is_asking x ≡ true → x.accepted ≡ false → eqb (phase_of x) 0 ≡ false
phase_asks x a b = rw (b, a)

phase_proposes : (x : Tables) → is_asking x ≡ false → x.accepted ≡ false → eqb (phase_of x) 0 ≡ true
phase_proposes x a b = rw (b, a)

module _ (l : Lent) (k n : ℕ) (f : FreshLent l k n) where
  sounds : Sounds (meant l)
  sounds = fresh_sounds (meant l) k n f.tidy f.fresh

  -- the lent tables after a taken call, with the invariant that its end has
  left_fresh : (q : Call) (a : Along l q) (j m : ℕ) → Tidy a.left → Fresh a.left j m → FreshLent (after_call l q) j m
  left_fresh q a j m d r =
      record {
        size_fits_law = a.size;
        lists_fit_law = a.lists;
        tidy = subst Tidy (sym a.means) d;
        fresh = subst (λ (x : Tables). Fresh x j m) (sym a.means) r;
      }

  asking_left : (q : Call) (a : Along l q) → is_asking (meant (after_call l q)) ≡ is_asking a.left
  asking_left q a = ap is_asking a.means

  proposes_left : (q : Call) (a : Along l q) → eqb (phase_of (meant (after_call l q))) 0 ≡ eqb (phase_of a.left) 0
  proposes_left q a = ap (λ (x : Tables). eqb (phase_of x) 0) a.means

  refused_step : (q : Call) → is_taken l q ≡ false → takes_one l q ≡ 0 → is_shown l q ≡ false → RunStep l q k n
  refused_step q e t s =
      let u = sym (refused_untouched l q e) in
      still t s (ap (λ (v : Lent). is_asking (meant v)) (sym u)) (subst (λ (v : Lent). FreshLent v k n) u f)

  offer_run : (xs : List ℕ) (m : ℕ) → is_taken l (offers xs m) ≡ true → RunStep l (offers xs m) k n
  offer_run xs m e = go (offered (meant l) xs m) (fresh_offer (meant l) k n f.tidy f.fresh xs m o) (ends_in (offered (meant l) xs m) y a.done)
    where
      a : Along l (offers xs m)
      a = along l sounds (offers xs m) e

      y : Tables
      y = a.left

      o : Offering (meant l) xs m
      o = offering (meant l) sounds.nearly.core.bound xs m a.faultless

      one : takes_one l (offers xs m) ≡ 1
      one = ap (λ (b : Bool). cond b 1 0) e

      counts : takes_one l (offers xs m) + cond (is_asking (meant l)) 1 0 ≡ 1
      counts = rw (one, idle_not (meant l) o.idle_now)

      next : (j : ℕ) → FreshLent (after_call l (offers xs m)) (k + 1) j → FreshLent (after_call l (offers xs m)) (takes_one l (offers xs m) + k) j
      next j r = let p : k + 1 ≡ takes_one l (offers xs m) + k = omega (arith, one) in subst (λ (i : ℕ). FreshLent (after_call l (offers xs m)) i j) p r

      showing : (b : Bool) → eqb (phase_of a.left) 0 ≡ b → is_shown l (offers xs m) ≡ b
      showing b p = ap (λ (c : Bool). c && eqb (phase_of (meant (after_call l (offers xs m)))) 0) e ∙ proposes_left (offers xs m) a ∙ p

      go : (e : Ended) → After (k + 1) n e → EndsIn y e → RunStep l (offers xs m) k n
      go (asks v) (after_asks d r p b) in_asks =
          let z = asking_of y p in
          opens (showing false (phase_asks y z b)) (asking_left (offers xs m) a ∙ z) counts (next n (left_fresh (offers xs m) a (k + 1) n d r))
      go (proposes v) (after_proposes d r g p b) in_proposes =
          let z = idle_not y p in
          let w = a.means in
          shows (showing true (phase_proposes y z b)) (asking_left (offers xs m) a ∙ z) counts
          (next (size (meant (after_call l (offers xs m)))) (left_fresh (offers xs m) a (k + 1) (size (meant (after_call l (offers xs m)))) d (subst (λ (x : Tables). Fresh y (k + 1) (size x)) (sym w) r)))
          (subst (λ (x : Tables). n + 1 ≤ size x) (sym w) g)
      go (short _) _ x4 = elim x4 [ ]

  answer_run : (m : ℕ) → is_taken l (answers m) ≡ true → RunStep l (answers m) k n
  answer_run m e = go (answered (meant l) m) (fresh_answer (meant l) k n f.tidy f.fresh o.0 m o.1) (ends_in (answered (meant l) m) y a.done)
    where
      a : Along l (answers m)
      a = along l sounds (answers m) e

      y : Tables
      y = a.left

      o : ((meant l).asked ≢ 0) × (m ≤ 1)
      o = answering (meant l) m a.faultless

      counts : takes_one l (answers m) + cond (is_asking (meant l)) 1 0 ≡ 1
      counts = rw (fresh_open (meant l) k n f.fresh o.0).0 refl

      next : (j : ℕ) → FreshLent (after_call l (answers m)) k j → FreshLent (after_call l (answers m)) (takes_one l (answers m) + k) j
      next j r = let p : k ≡ 0 + k = omega arith in subst (λ (i : ℕ). FreshLent (after_call l (answers m)) i j) p r

      showing : (b : Bool) → eqb (phase_of a.left) 0 ≡ b → is_shown l (answers m) ≡ b
      showing b p = ap (λ (c : Bool). c && eqb (phase_of (meant (after_call l (answers m)))) 0) e ∙ proposes_left (answers m) a ∙ p

      go : (e : Ended) → After k n e → EndsIn y e → RunStep l (answers m) k n
      go (asks v) (after_asks d r p b) in_asks =
          let z = asking_of y p in
          opens (showing false (phase_asks y z b)) (asking_left (answers m) a ∙ z) counts (next n (left_fresh (answers m) a k n d r))
      go (proposes v) (after_proposes d r g p b) in_proposes =
          let z = idle_not y p in
          let w = a.means in
          shows (showing true (phase_proposes y z b)) (asking_left (answers m) a ∙ z) counts
          (next (size (meant (after_call l (answers m)))) (left_fresh (answers m) a k (size (meant (after_call l (answers m)))) d (subst (λ (x : Tables). Fresh y k (size x)) (sym w) r))) (subst (λ (x : Tables). n + 1 ≤ size x) (sym w) g)
      go (short _) _ x4 = elim x4 [ ]

  -- calls that leave the tables, but for the flag
  same_run : (q : Call) (a : Along l q) → takes_one l q ≡ 0 → is_shown l q ≡ false → Tidy a.left → Fresh a.left k n → is_asking a.left ≡ is_asking (meant l) → RunStep l q k n
  same_run q a t s d r z = still t s (asking_left q a ∙ z) (left_fresh q a k n d r)

  quiet_run : (q : Call) (a : Along l q) → takes_one l q ≡ 0 → is_shown l q ≡ false → done_by (meant l) q ≡ leaves (meant l) → RunStep l q k n
  quiet_run q a t s e =
      let p : meant l ≡ a.left = left_is a.left (sym e ∙ a.done) in
      same_run q a t s (subst Tidy p f.tidy) (subst (λ (x : Tables). Fresh x k n) p f.fresh) (ap is_asking (sym p))
    where
      left_is : (y : Tables) → leaves (meant l) ≡ leaves y → meant l ≡ y
      left_is y e = cc

  accept_run : is_taken l accept ≡ true → RunStep l accept k n
  accept_run e =
      let a = along l sounds accept e in
      let p = proposing_of (meant l) (unless_true (is_proposing (meant l)) 31 (λ u. omega arith) a.faultless) in
      let r = fresh_accept (meant l) k n f.tidy f.fresh p.0 in
      let x = meant l in
      let w = left_is a.left a.done in
      same_run accept a refl refl (subst Tidy w r.0) (subst (λ (x : Tables). Fresh x k n) w r.1) (ap is_asking (sym w))
    where
      left_is : (y : Tables) → leaves (tables (meant l).store (meant l).answers (meant l).s (meant l).t (meant l).c (meant l).hand (meant l).asked true) ≡ leaves y →
          tables (meant l).store (meant l).answers (meant l).s (meant l).t (meant l).c (meant l).hand (meant l).asked true ≡ y
      left_is y e = cc

  -- every call of a fresh run
  pub run_step : (q : Call) → RunStep l q k n
  run_step q = go q (is_taken l q) refl
    where
      go : (q : Call) (b : Bool) → is_taken l q ≡ b → RunStep l q k n
      go (offers xs m) true e = offer_run xs m e
      go (offers xs m) false e = refused_step (offers xs m) e (ap (λ (b : Bool). cond b 1 0) e) (ap (λ (c : Bool). c && eqb (phase_of (meant (after_call l (offers xs m)))) 0) e)
      go (answers m) true e = answer_run m e
      go (answers m) false e = refused_step (answers m) e refl (ap (λ (c : Bool). c && eqb (phase_of (meant (after_call l (answers m)))) 0) e)
      go accept true e = accept_run e
      go accept false e = refused_step accept e refl refl
      go looks true e = quiet_run looks (along l sounds looks e) refl refl refl
      go looks false e = refused_step looks e refl refl
      go (emits r) true e = quiet_run (emits r) (along l sounds (emits r) e) refl refl refl
      go (emits r) false e = refused_step (emits r) e refl refl
      go (judges xs) true e = quiet_run (judges xs) (along l sounds (judges xs) e) refl refl refl
      go (judges xs) false e = refused_step (judges xs) e refl refl

-- START
alphabet_facts : (ns : List ℕ) → alphabet_fits ns ≡ true → (length ns ≤ most_symbols) × ((a : ℕ) → get_or ns a 0 ≤ most_children)
alphabet_facts ns e =
    let a = both_true (is_in 1 most_symbols (length ns)) (all (λ (n : ℕ). leb n most_children) ns) e in
    let b = both_true (leb 1 (length ns)) (leb (length ns) most_symbols) a.0 in
    (leb-true (length ns) most_symbols b.1, λ i. go i (ltb i (length ns)) refl a.1)
  where
    go : (i : ℕ) (b : Bool) → ltb i (length ns) ≡ b → all (λ (n : ℕ). leb n most_children) ns ≡ true → get_or ns i 0 ≤ most_children
    go i true p q = leb-true (get_or ns i 0) most_children (all_get_d (λ (n : ℕ). leb n most_children) ns i 0 q (ltb-true i (length ns) p))
    go i false p q = rw (get_or-eq_default ns 0 {n = i} (ltb-false i (length ns) p)) (omega arith)

start_tidy : (n : ℕ) (ns : List ℕ) → alphabet_fits ns ≡ true → Tidy (started n ns)
start_tidy n ns e =
    record {
      alphabet = e;
      blank = λ i u h. blank i u;
      few_t = omega arith;
      few_s = omega arith;
      some_c = omega arith;
      hole_first_law = refl;
      one_c = distinct_cons apart_nil distinct_nil;
      few_c = omega arith;
    }
  where
    blank : (i : ℕ) → i < 1 → ◌≡◌ {A = ℕ} (get_or (0 ∷ []) i 0) 0
    blank zero u = refl
    blank (suc i) u = absurd (omega arith)

pub fresh_start : (ws ns : List ℕ) (old : Lists) → start_number ws ns ≡ 0 → FreshLent (started_run ws ns old) 0 0
fresh_start ws ns old e =
    let b = sym (start_back ws ns e old) in
    let a = start_alphabet ws ns e in
    let c = alphabet_facts ns a in
    let w = size_fits_facts ws (start_size ws ns e) in
    record {
      size_fits_law = start_size_back ws ns e;
      lists_fit_law = start_lists_fit ws ns e old;
      tidy = subst Tidy b (start_tidy (rows_lent ws) ns a);
      fresh = subst (λ (x : Tables). Fresh x 0 0) b (start_fresh (rows_lent ws) ns w.some c.0 c.1);
    }

-- ALONG A LIST OF CALLS from fresh tables, k records taken before it
pub record RunAfter (l : Lent) (ks : List Call) (k : ℕ) : Type 0 where
  pub taken_now : ℕ
  pub last_size : ℕ
  pub fresh : FreshLent (after l ks) taken_now last_size
  pub counted : taken_now ≡ taken l ks + k
  pub shown_are : shown_by l ks + cond (is_asking (meant (after l ks))) 1 0 ≡ taken l ks + cond (is_asking (meant l)) 1 0

pub run_after : {l : Lent} {k n : ℕ} → FreshLent l k n → (ks : List Call) → RunAfter l ks k
unfolding after taken shown_by
run_after {l} {k} {n} f [] = record { taken_now = k; last_size = n; fresh = f; counted = omega arith; shown_are = refl }
run_after {l} {k} {n} f (q ∷ qs) = go (run_step l k n f q) (λ j m g. run_after {l = after_call l q} {k = j} {n = m} g qs)
  where
    next : (j m s t : ℕ) → FreshLent (after_call l q) j m → j ≡ takes_one l q + k → cond (is_shown l q) 1 0 ≡ s → cond (is_asking (meant (after_call l q))) 1 0 ≡ t →
        s + t ≡ takes_one l q + cond (is_asking (meant l)) 1 0 → RunAfter (after_call l q) qs j → RunAfter l (q ∷ qs) k
    next j m s t g a b c d r =
        let e = r.counted in
        let h = r.shown_are in
        record { taken_now = r.taken_now; last_size = r.last_size; fresh = r.fresh; counted = omega arith; shown_are = omega arith }

    go : RunStep l q k n → ((j m : ℕ) → FreshLent (after_call l q) j m → RunAfter (after_call l q) qs j) → RunAfter l (q ∷ qs) k
    go (still a b c g) ih = next k n 0 (cond (is_asking (meant l)) 1 0) g (omega arith) (ap (λ (z : Bool). cond z 1 0) b) (ap (λ (z : Bool). cond z 1 0) c) (omega arith) (ih k n g)
    go (opens b c d g) ih =
        next (takes_one l q + k) n 0 1 g refl (ap (λ (z : Bool). cond z 1 0) b) (ap (λ (z : Bool). cond z 1 0) c) (omega arith) (ih (takes_one l q + k) n g)
    go (shows b c d g m) ih =
        next (takes_one l q + k) (size (meant (after_call l q))) 1 0 g refl (ap (λ (z : Bool). cond z 1 0) b) (ap (λ (z : Bool). cond z 1 0) c) (omega arith)
        (ih (takes_one l q + k) (size (meant (after_call l q))) g)

-- growth from proposal to proposal: while no question is open nothing was taken since the last one, while one is open one record was
pub run_grows : {l : Lent} {k n : ℕ} → FreshLent l k n → (m : ℕ) → m ≡ cond (is_asking (meant l)) 1 0 → (ks : List Call) → grows_from n m l ks ≡ true
unfolding grows_from
run_grows f m e [] = refl
run_grows {l} {k} {n} f m e (q ∷ qs) = go (run_step l k n f q) (λ j i g u z. run_grows {l = after_call l q} {k = j} {n = i} g u z qs)
  where
    rest : ℕ → ℕ → Bool
    rest i u = grows_from i u (after_call l q) qs

    quiet : (u : ℕ) → is_shown l q ≡ false → m + takes_one l q ≡ u → rest n u ≡ true →
        cond (is_shown l q) (leb (n + (m + takes_one l q)) (size (meant (after_call l q))) && rest (size (meant (after_call l q))) 0) (rest n (m + takes_one l q)) ≡ true
    quiet u b p r = rw (b, p) r

    go : RunStep l q k n → ((j i : ℕ) → FreshLent (after_call l q) j i → (u : ℕ) → u ≡ cond (is_asking (meant (after_call l q))) 1 0 → rest i u ≡ true) →
        cond (is_shown l q) (leb (n + (m + takes_one l q)) (size (meant (after_call l q))) && rest (size (meant (after_call l q))) 0) (rest n (m + takes_one l q)) ≡ true
    go (still a b c g) ih = quiet m b (omega arith) (ih k n g m (e ∙ ap (λ (z : Bool). cond z 1 0) (sym c)))
    go (opens b c d g) ih = quiet 1 b (omega arith) (ih (takes_one l q + k) n g 1 (ap (λ (z : Bool). cond z 1 0) (sym c)))
    go (shows b c d g w) ih =
        let i = ih (takes_one l q + k) (size (meant (after_call l q))) g 0 (ap (λ (z : Bool). cond z 1 0) (sym c)) in
        rw b (true_both _ _ (le-leb (n + (m + takes_one l q)) (size (meant (after_call l q))) (omega arith)) i)

-- What a call of a run adds to the answers: they stay, and beside them stand those that the call said; a question that it opens is for a record without one.
-- The mark is stored at one row, the rest of the step keeps rows and answers, and a tree has one row; a refused call changes nothing.
use mathlib.Core.Path.{◌≡◌, refl, sym, ap, ◌∙◌, subst}
use mathlib.Core.Logic.{◌≢◌, ◌⊎◌, inl, inr}
use mathlib.Core.Bool.{Bool, true, false, not, cond}
use mathlib.Core.List.{List, [], ◌∷◌, ◌++◌, append_assoc, append-nil}
use Prim.Native.Nat.{ℕ, ◌+◌, ◌<◌}
use native.Mathlib.Omega.{arith}
use native.Mathlib.Decide.{ℕ_discrete}
use borrow.Author.Tests.{eq-eqb}
use Rattle.model.specs.Base.{In, here}
use Rattle.model.specs.Store.{Store, used, is_record, frames_of, filled_row, Extends}
use Rattle.model.specs.Terms.{Tree, Within, tree_at, tree_of}
use Rattle.model.specs.Table.{Tables, answer_at}
use Rattle.model.specs.Facts.{Good}
use Rattle.model.specs.TableFacts.{Core, Open}
use Rattle.model.specs.Calls.{Call, offers, answers, accept, looks, emits, judges, is_asking}
use Rattle.model.specs.Run.{Lent, meant, after_call, after, is_taken, Said, said, said_by, said_in, offered_by, question_of, asked_by, heard_in}
use Rattle.model.specs.Promise.{Holds}
use Rattle.model.proofs.Laws.Lists.{no_in, in_one, in_left, in_right, in_either}
use Rattle.model.proofs.Laws.Rows.{record_ext}
use Rattle.model.proofs.Laws.Fill.{ext_refl, ext_trans}
use Rattle.model.proofs.Laws.Filled.{filled_leads}
use Rattle.model.proofs.Laws.Down.{context_fits}
use Rattle.model.proofs.Laws.Trees.{tree_kept, one_row, within_leads}
use Rattle.model.proofs.Laws.Settle.{Keeps, answered_used}
use Rattle.model.specs.Phase.{Phase, idle, holding, filling, Nearly, Sounds}
use Rattle.model.proofs.Laws.Step.{Marked, Left}
use Rattle.model.proofs.Laws.ReflectLists.{record_of, record_back}
use Rattle.model.proofs.Laws.Took.{Took, took_offer, took_answer, took_accept, took_look, took_emit, took_judge}
use Rattle.model.proofs.Laws.Along.{along}
use Rattle.model.proofs.Laws.RunStep.{FreshLent, fresh_sounds, RunStep, still, opens, shows, run_step}
use Rattle.model.proofs.Promises.Calls.{refused_untouched}

-- a row that has the answer said of its record
abbrev pub Keeping : Tables → Said → Type 0
Keeping x e = (i : ℕ) × (is_record x.store i ≡ true) × (tree_at x.store i ≡ e.about) × (answer_at x.answers i ≡ e.mark + 1)

-- FROM x TO y the answers grow by what es say
pub record Adds (x y : Tables) (es : List Said) : Type 0 where
  pub ext : Extends x.store y.store
  pub kept : (i : ℕ) → answer_at x.answers i ≢ 0 → answer_at y.answers i ≡ answer_at x.answers i
  pub stored : (e : Said) → In e es → Keeping y e
  pub new : (i : ℕ) → answer_at y.answers i ≢ 0 →
      (answer_at x.answers i ≢ 0) ⊎ ((e : Said) × In e es × (tree_at y.store i ≡ e.about) × (answer_at y.answers i ≡ e.mark + 1))

adds_none : (x y : Tables) → Keeps x y → Adds x y []
adds_none x y k = record { ext = k.ext; kept = λ i n. k.answers i; stored = λ e m. absurd (no_in m); new = λ i n. inl (λ z. n (k.answers i ∙ z)) }

module _ (x z y : Tables) (i m : ℕ) (k : Marked x z i (m + 1)) (l : Left z y) where
  here_now : answer_at y.answers i ≡ m + 1
  here_now = l.keeps.answers i ∙ k.here

  adds_mark : (t : Tree) → tree_at z.store i ≡ t → Adds x y (said t m ∷ [])
  adds_mark t e =
      record {
        ext = ext_trans x.store z.store y.store k.ext l.keeps.ext;
        kept = λ j n. keeps j n (ℕ_discrete j i);
        stored = λ d n. rw (in_one n) now;
        new = λ j n. news j n (ℕ_discrete j i);
      }
    where
      g : Good y.store
      g = l.nearly.core.good

      same_tree : tree_at y.store i ≡ t
      same_tree = sym (tree_kept z.store y.store g l.keeps.ext i k.is_record_law.within) ∙ e

      now : Keeping y (said t m)
      now = (i, record_back y.store i (record_ext z.store y.store k.good l.keeps.ext i k.is_record_law), same_tree, here_now)

      was : answer_at x.answers i ≢ 0 → (answer_at x.answers i ≡ 0) ⊎ (answer_at x.answers i ≡ m + 1) → answer_at y.answers i ≡ answer_at x.answers i
      was n (inl p) = absurd (n p)
      was n (inr p) = here_now ∙ sym p

      keeps : (j : ℕ) → answer_at x.answers j ≢ 0 → Dec (j ≡ i) → answer_at y.answers j ≡ answer_at x.answers j
      keeps j n (yes p) = subst (λ (v : ℕ). answer_at x.answers v ≢ 0 → answer_at y.answers v ≡ answer_at x.answers v) (sym p) (λ o. was o k.before) n
      keeps j n (no p) = l.keeps.answers j ∙ k.elsewhere j p

      news : (j : ℕ) → answer_at y.answers j ≢ 0 → Dec (j ≡ i) →
          (answer_at x.answers j ≢ 0) ⊎ ((d : Said) × In d (said t m ∷ []) × (tree_at y.store j ≡ d.about) × (answer_at y.answers j ≡ d.mark + 1))
      news j n (yes p) = inr (said t m, here, ap (tree_at y.store) p ∙ same_tree, ap (answer_at y.answers) p ∙ here_now)
      news j n (no p) = inl (λ q. n (l.keeps.answers j ∙ k.elsewhere j p ∙ q))

-- the answers hold what was said before, and what is said now
pub holds_more : (x y : Tables) → Core x → Core y → (es ds : List Said) → Adds x y ds → Holds x es → Holds y (es ++ ds)
holds_more x y k c es ds a h = record { stored = λ e m. kept e (in_either es m); said_so = λ i u n. told i n (a.new i n); one_row = one_row y.store c.good }
  where
    kept : (e : Said) → In e es ⊎ In e ds → Keeping y e
    kept e (inr m) = a.stored e m
    kept e (inl m) =
        let s = h.stored e m in
        let r = record_of x.store s.0 s.1 in
        let p = s.3 in (
          s.0,
          record_back y.store s.0 (record_ext x.store y.store k.good a.ext s.0 r),
          sym (tree_kept x.store y.store c.good a.ext s.0 r.within) ∙ s.2,
          a.kept s.0 (λ z. omega arith) ∙ p,
        )

    told : (i : ℕ) → answer_at y.answers i ≢ 0 →
        (answer_at x.answers i ≢ 0) ⊎ ((e : Said) × In e ds × (tree_at y.store i ≡ e.about) × (answer_at y.answers i ≡ e.mark + 1)) →
        (e : Said) × In e (es ++ ds) × (tree_at y.store i ≡ e.about) × (answer_at y.answers i ≡ e.mark + 1)
    told i n (inr d) = (d.0, in_right es d.1, d.2, d.3)
    told i n (inl o) =
        let u = answered_used x k i o in
        let s = h.said_so i u o in
        (s.0, in_left ds s.1, sym (tree_kept x.store y.store c.good a.ext i u) ∙ s.2, a.kept i o ∙ s.3)

-- nothing is said of tables without an answer
pub holds_none : (x : Tables) → Core x → ((i : ℕ) → answer_at x.answers i ≡ 0) → Holds x []
holds_none x k n = record { stored = λ e m. absurd (no_in m); said_so = λ i u o. absurd (o (n i)); one_row = one_row x.store k.good }

-- HEARD OF: a record whose answer is known, or that is asked for
pub record HeardOf (x : Tables) (t : Tree) : Type 0 where
  pub row : ℕ
  pub within : row < used x.store
  pub about : tree_at x.store row ≡ t
  pub answered_or_asked : (answer_at x.answers row ≢ 0) ⊎ ((x.asked ≢ 0) × (row ≡ x.asked))

-- AN OPEN QUESTION for t, where every record heard of before has its answer
pub record Asks (x y : Tables) (t : Tree) : Type 0 where
  pub about : tree_at y.store y.asked ≡ t
  pub opens : Open y
  pub answered : x.asked ≢ 0 → answer_at y.answers x.asked ≢ 0

-- A CALL from x to y that says es, offers os and asks qs
pub record Spoken (x y : Tables) (es : List Said) (os qs : List Tree) : Type 0 where
  pub adds : Adds x y es
  pub stays : x.asked ≢ 0 → (answer_at y.answers x.asked ≢ 0) ⊎ (y.asked ≡ x.asked)
  pub offered : (t : Tree) → In t os → (m : ℕ) × In (said t m) es
  pub asked : (t : Tree) → In t qs → Asks x y t

-- a record whose answer is known
abbrev Answered : Tables → Tree → Type 0
Answered x t = (i : ℕ) × (i < used x.store) × (tree_at x.store i ≡ t) × (answer_at x.answers i ≢ 0)

module _ (x y : Tables) (c : Core y) {es : List Said} {os qs : List Tree} (p : Spoken x y es os qs) where
  old_row : (t : Tree) (h : HeardOf x t) → (h.row < used y.store) × (tree_at y.store h.row ≡ t)
  old_row t h =
      let m = p.adds.ext.more in
      let u = h.within in
      (omega arith, sym (tree_kept x.store y.store c.good p.adds.ext h.row u) ∙ h.about)

  still_answered : (i : ℕ) → answer_at x.answers i ≢ 0 → answer_at y.answers i ≢ 0
  still_answered i n z = n (sym (p.adds.kept i n) ∙ z)

  offered_answered : (t : Tree) → In t os → Answered y t
  offered_answered t m =
      let o = p.offered t m in
      let s = p.adds.stored (said t o.0) o.1 in
      let r = record_of y.store s.0 s.1 in
      let a = s.3 in
      (s.0, r.within, s.2, λ z. omega arith)

  -- what was heard of stays so, and what is offered or asked is heard of
  heard_stays : (t : Tree) → HeardOf x t → HeardOf y t
  heard_stays t h = record { row = h.row; within = (old_row t h).0; about = (old_row t h).1; answered_or_asked = go h.answered_or_asked }
    where
      moved : (x.asked ≢ 0) → h.row ≡ x.asked → (answer_at y.answers x.asked ≢ 0) ⊎ (y.asked ≡ x.asked) → (answer_at y.answers h.row ≢ 0) ⊎ ((y.asked ≢ 0) × (h.row ≡ y.asked))
      moved n e (inl a) = inl (λ z. a (ap (answer_at y.answers) (sym e) ∙ z))
      moved n e (inr a) = inr (λ z. n (sym a ∙ z), e ∙ sym a)

      go : (answer_at x.answers h.row ≢ 0) ⊎ ((x.asked ≢ 0) × (h.row ≡ x.asked)) → (answer_at y.answers h.row ≢ 0) ⊎ ((y.asked ≢ 0) × (h.row ≡ y.asked))
      go (inl n) = inl (still_answered h.row n)
      go (inr a) = moved a.0 a.1 (p.stays a.0)

  heard_now : (t : Tree) → In t (os ++ qs) → HeardOf y t
  heard_now t m = go (in_either os m)
    where
      go : In t os ⊎ In t qs → HeardOf y t
      go (inl n) = let a = offered_answered t n in record { row = a.0; within = a.1; about = a.2; answered_or_asked = inl a.3 }
      go (inr n) =
          let a = p.asked t n in
          let r = a.opens.0 in
          let s = r.some in
          record { row = y.asked; within = r.within; about = a.about; answered_or_asked = inr (λ z. omega arith, refl) }

  pub heard_more : (ts : List Tree) → ((t : Tree) → In t ts → HeardOf x t) → (t : Tree) → In t (ts ++ (os ++ qs)) → HeardOf y t
  heard_more ts h t m = go (in_either ts m)
    where
      go : In t ts ⊎ In t (os ++ qs) → HeardOf y t
      go (inl n) = heard_stays t (h t n)
      go (inr n) = heard_now t n

  -- a question is for none of them: it would have its record's answer
  anew : (t : Tree) → Asks x y t → Answered y t → ⊥
  anew t a r =
      let e = one_row y.store c.good r.0 y.asked r.1 a.opens.0.within (r.2 ∙ sym a.about) in
      r.3 (ap (answer_at y.answers) e ∙ a.opens.1)

  heard_answered : (t : Tree) → Asks x y t → HeardOf x t → Answered y t
  heard_answered t a h = (h.row, (old_row t h).0, (old_row t h).1, go h.answered_or_asked)
    where
      go : (answer_at x.answers h.row ≢ 0) ⊎ ((x.asked ≢ 0) × (h.row ≡ x.asked)) → answer_at y.answers h.row ≢ 0
      go (inl n) = still_answered h.row n
      go (inr b) = λ z. a.answered b.0 (ap (answer_at y.answers) (sym b.1) ∙ z)

  pub asked_anew : (t : Tree) → In t qs → HeardOf x t ⊎ In t os → ⊥
  asked_anew t m (inl h) = anew t (p.asked t m) (heard_answered t (p.asked t m) h)
  asked_anew t m (inr o) = anew t (p.asked t m) (offered_answered t o)

-- ONE CALL of a run
question_open : (y : Tables) → Nearly y → (t : Tree) → In t (question_of y) → (tree_at y.store y.asked ≡ t) × Open y
question_open y n t m = go n.phase
  where
    asks_it : (b : Bool) → In t (cond b (tree_at y.store y.asked ∷ []) []) → tree_at y.store y.asked ≡ t
    asks_it true m = sym (in_one m)
    asks_it false m = absurd (no_in m)

    idle_asks : y.asked ≡ 0 → ⊥
    idle_asks e = no_in (subst (λ (b : Bool). In t (cond (not b) (tree_at y.store y.asked ∷ []) [])) (eq-eqb y.asked 0 e) m)

    go : Phase y → (tree_at y.store y.asked ≡ t) × Open y
    go (idle e h w) = absurd (idle_asks e)
    go (holding o r w h) = (asks_it (is_asking y) m, o)
    go (filling o r h e) = (asks_it (is_asking y) m, o)

-- a mark was stored, and the question that was open is answered
spoken_mark : (x z y : Tables) (i m : ℕ) (t : Tree) → Marked x z i (m + 1) → tree_at z.store i ≡ t → Left z y → (x.asked ≢ 0 → x.asked ≡ i) →
    (os : List Tree) → ((u : Tree) → In u os → u ≡ t) → Spoken x y (said t m ∷ []) os (question_of y)
spoken_mark x z y i m t k e l a os f =
    record {
      adds = adds_mark x z y i m k l t e;
      stays = λ n. inl (closed n);
      offered = λ u o. (m, rw (f u o) here);
      asked = λ u q. (let r = question_open y l.nearly u q in record { about = r.0; opens = r.1; answered = closed });
    }
  where
    closed : x.asked ≢ 0 → answer_at y.answers x.asked ≢ 0
    closed n d = let p = here_now x z y i m k l in let q = ap (answer_at y.answers) (a n) in omega arith

spoken_none : (x y : Tables) → Keeps x y → y.asked ≡ x.asked → Spoken x y [] [] []
spoken_none x y k a = record { adds = adds_none x y k; stays = λ n. inr a; offered = λ t m. absurd (no_in m); asked = λ t m. absurd (no_in m) }

keeps_refl : (x : Tables) → Keeps x x
keeps_refl x = record { ext = ext_refl x.store; answers = λ i. refl }

-- what a call said, offered and asked on lent tables
abbrev pub SpokenBy : Lent → Call → Type 0
SpokenBy l q = Spoken (meant l) (meant (after_call l q)) (said_by l q) (offered_by l q) (asked_by l q)

module _ (l : Lent) where
  -- a call that reads says nothing
  quiet_spoken : {v : Tables} → v ≡ meant l → Spoken (meant l) v [] [] []
  quiet_spoken w = subst (λ (v : Tables). Spoken (meant l) v [] [] []) (sym w) (spoken_none (meant l) (meant l) (keeps_refl (meant l)) refl)

  took_spoken : (q : Call) (y : Tables) → is_taken l q ≡ true → meant (after_call l q) ≡ y → Took (meant l) q y → SpokenBy l q
  took_spoken (offers xs m) y e w (took_offer z i o k t f) =
      subst
      (λ (b : Bool). Spoken (meant l) (meant (after_call l (offers xs m))) (cond b (said (tree_of (meant l).store.counts xs) m ∷ []) []) (cond b (tree_of (meant l).store.counts xs ∷ []) [])
      (cond b (question_of (meant (after_call l (offers xs m)))) []))
      (sym e)
      (subst (λ (v : Tables). Spoken (meant l) v (said (tree_of (meant l).store.counts xs) m ∷ []) (tree_of (meant l).store.counts xs ∷ []) (question_of v)) (sym w)
      (spoken_mark (meant l) z y i m (tree_of (meant l).store.counts xs) k t f (λ n. absurd (n o.idle_now)) (tree_of (meant l).store.counts xs ∷ []) (λ u j. in_one j)))
  took_spoken (answers m) y e w (took_answer z c o k t f) =
      subst
      (λ (b : Bool). Spoken (meant l) (meant (after_call l (answers m))) (cond b (said (tree_at (meant l).store (meant l).asked) m ∷ []) []) [] (cond b (question_of (meant (after_call l (answers m)))) []))
      (sym e)
      (subst (λ (v : Tables). Spoken (meant l) v (said (tree_at (meant l).store (meant l).asked) m ∷ []) [] (question_of v)) (sym w)
      (spoken_mark (meant l) z y (meant l).asked m (tree_at (meant l).store (meant l).asked) k (ap (λ (s : Store). tree_at s (meant l).asked) t) f (λ n. refl) [] (λ u j. absurd (no_in j))))
  took_spoken accept y e w (took_accept a r) =
      subst (λ (v : Tables). Spoken (meant l) v [] [] []) (sym w) (spoken_none (meant l) y (record { ext = ext_refl (meant l).store; answers = λ i. refl }) refl)
  took_spoken looks y e w took_look = quiet_spoken w
  took_spoken (emits r) y e w took_emit = quiet_spoken w
  took_spoken (judges xs) y e w took_judge = quiet_spoken w

  untouched : (q : Call) → is_taken l q ≡ false → Spoken (meant l) (meant (after_call l q)) [] [] []
  untouched q e = quiet_spoken (ap meant (refused_untouched l q e))

  refused_spoken : (q : Call) → is_taken l q ≡ false → SpokenBy l q
  refused_spoken (offers xs m) e = rw e (untouched (offers xs m) e)
  refused_spoken (answers m) e = rw e (untouched (answers m) e)
  refused_spoken accept e = untouched accept e
  refused_spoken looks e = untouched looks e
  refused_spoken (emits r) e = untouched (emits r) e
  refused_spoken (judges xs) e = untouched (judges xs) e

  spoken_by : Sounds (meant l) → (q : Call) → SpokenBy l q
  spoken_by s q = go (is_taken l q) refl
    where
      go : (b : Bool) → is_taken l q ≡ b → SpokenBy l q
      go true e = let a = along l s q e in took_spoken q a.left e a.means a.step
      go false e = refused_spoken q e

-- ALONG A LIST OF CALLS of a fresh run
abbrev pub FreshRun : Lent → Type 0
FreshRun l = (k : ℕ) × (n : ℕ) × FreshLent l k n

run_sounds : (l : Lent) → FreshRun l → Sounds (meant l)
run_sounds l f = fresh_sounds (meant l) f.0 f.1 f.2.tidy f.2.fresh

pub run_core : (l : Lent) → FreshRun l → Core (meant l)
run_core l f = (run_sounds l f).nearly.core

pub run_next : (l : Lent) → FreshRun l → (q : Call) → FreshRun (after_call l q)
run_next l f q = go (run_step l f.0 f.1 f.2 q)
  where
    go : RunStep l q f.0 f.1 → FreshRun (after_call l q)
    go (still a b c g) = (_, _, g)
    go (opens b c d g) = (_, _, g)
    go (shows b c d g m) = (_, _, g)

pub run_spoken : (l : Lent) → FreshRun l → (q : Call) → SpokenBy l q
run_spoken l f q = spoken_by l (run_sounds l f) q

pub holds_run : (l : Lent) → FreshRun l → (es : List Said) → Holds (meant l) es → (ks : List Call) → Holds (meant (after l ks)) (es ++ said_in l ks)
unfolding after said_in
holds_run l f es h [] = rw append-nil h
holds_run l f es h (q ∷ qs) =
    let n = run_next l f q in
    let s = run_spoken l f q in
    rw (← append_assoc es (said_by l q) (said_in (after_call l q) qs))
    (holds_run (after_call l q) n (es ++ said_by l q) (holds_more (meant l) (meant (after_call l q)) (run_core l f) (run_core (after_call l q) n) es (said_by l q) s.adds h) qs)

pub heard_run : (l : Lent) → FreshRun l → (ts : List Tree) → ((t : Tree) → In t ts → HeardOf (meant l) t) → (ks : List Call) →
    (t : Tree) → In t (ts ++ heard_in l ks) → HeardOf (meant (after l ks)) t
unfolding after heard_in
heard_run l f ts h [] = rw append-nil h
heard_run l f ts h (q ∷ qs) =
    let n = run_next l f q in
    let s = run_spoken l f q in
    rw (← append_assoc ts (offered_by l q ++ asked_by l q) (heard_in (after_call l q) qs))
    (heard_run (after_call l q) n (ts ++ (offered_by l q ++ asked_by l q)) (heard_more (meant l) (meant (after_call l q)) (run_core (after_call l q) n) s ts h) qs)

-- A YES for each transition: at a context of C the filled record was answered, so it was said
pub yes_said : (x : Tables) → Core x → (es : List Said) → Holds x es → (i : ℕ) → In i x.t → (u : Tree) × In (said u 1) es × Within (tree_at x.store i) u
yes_said x k es h i m =
    let y = k.held.yes i m in
    let d = k.held.context y.0 y.1 in
    let fs = frames_of x.store y.0 in
    let j = filled_row x.store fs i in
    let a : answer_at x.answers j ≡ 2 = y.2 in
    let n : j ≢ 0 = λ z. (let f = k.first in let e = ap (answer_at x.answers) z in omega arith) in
    let o : answer_at x.answers j ≢ 0 = λ z. omega arith in
    let s = h.said_so j (answered_used x k j o) o in
    let l = filled_leads x.store k.good fs (context_fits x.store k.good y.0 d.within d.hole) i (k.held.row i m).some n in
    (tree_at x.store j, as_yes s.0 (tree_at x.store j) s.1 s.2 (sym a ∙ s.3), within_leads x.store k.good fs i j l)
  where
    as_yes : (e : Said) (u : Tree) → In e es → u ≡ e.about → 2 ≡ e.mark + 1 → In (said u 1) es
    as_yes e u n p q =
        let r : e.mark ≡ 1 = omega arith in
        subst (λ (v : ℕ). In (said u v) es) r (subst (λ (v : Tree). In (said v e.mark) es) (sym p) n)

-- What a taken call did to sound tables, call by call: the mark that it stored and how its step ended, or nothing but the flag. What it leaves is nearly sound.
-- An outcome that leaves tables comes from a step that asks or proposes; the rest are the calls that change no row.
use mathlib.Core.Path.{◌≡◌, refl, sym, ◌∙◌, subst}
use mathlib.Core.Logic.{◌≢◌, ◌⊎◌, inl, inr}
use mathlib.Core.Bool.{true, false}
use mathlib.Core.List.{List}
use Prim.Native.Nat.{ℕ, ◌+◌, ◌≤◌}
use native.Mathlib.Omega.{arith}
use Rattle.model.specs.Terms.{tree_at, tree_of}
use Rattle.model.specs.Table.{Tables, tables}
use Rattle.model.specs.Steps.{Ended, short, asks, proposes, offered, answered}
use Rattle.model.specs.TableFacts.{Core, Tidy, Missing, Whole, Few, Open}
use Rattle.model.specs.Calls.{Call, offers, answers, accept, looks, emits, judges, leaves, end_of, done_by, fault_of, is_proposing}
use Rattle.model.proofs.Laws.Flags.{core_flags, whole_flags, tidy_flags}
use Rattle.model.specs.Phase.{Phase, idle, holding, filling, Nearly, Sounds}
use Rattle.model.proofs.Laws.Step.{Offering, offering, answering, StepOk, Left, step_left, Marked, OfferOk, stored_at, offer_taken, AnswerOk, answer_held, answer_filling, proposing_of, unless_true}

-- the tables with which a step ends
pub data EndsIn (y : Tables) : Ended → Type 0 where
  in_asks : EndsIn y (asks y)
  in_proposes : EndsIn y (proposes y)

pub ends_in : (e : Ended) (y : Tables) → end_of e ≡ leaves y → EndsIn y e
ends_in (short n) y p = let z : ◌≡◌ {A = ℕ} 0 1 = cc in absurd (omega arith)
ends_in (asks x) y p = let q : x ≡ y = cc in subst (λ (v : Tables). EndsIn y (asks v)) (sym q) in_asks
ends_in (proposes x) y p = let q : x ≡ y = cc in subst (λ (v : Tables). EndsIn y (proposes v)) (sym q) in_proposes

pub data Took (x : Tables) : Call → Tables → Type 0 where
  took_offer : {xs : List ℕ} {m : ℕ} {y : Tables} (z : Tables) (i : ℕ) → Offering x xs m → Marked x z i (m + 1) → tree_at z.store i ≡ tree_of x.store.counts xs →
      Left z y → Took x (offers xs m) y
  took_answer : {m : ℕ} {y : Tables} (z : Tables) → m ≤ 1 → Open x → Marked x z x.asked (m + 1) → z.store ≡ x.store → Left z y → Took x (answers m) y
  took_accept : x.asked ≡ 0 → x.accepted ≡ false → Took x accept (tables x.store x.answers x.s x.t x.c x.hand x.asked true)
  took_look : Took x looks x
  took_emit : {r : ℕ} → Took x (emits r) x
  took_judge : {xs : List ℕ} → Took x (judges xs) x

left_of : (z y : Tables) (e : Ended) → StepOk z e → EndsIn y e → Left z y
left_of z y (asks v) s in_asks = step_left z y (inl s)
left_of z y (proposes v) s in_proposes = step_left z y (inr s)
left_of z y (short _) s x3 = elim x3 [ ]

-- with no answer missing the contexts are few
pub whole_few : (x : Tables) → Whole x → Missing x ⊎ Few x → Few x
whole_few x w (inl m) = absurd (w.known m.0 m.1 m.2 m.3 m.4)
whole_few x w (inr f) = f

-- the phase tells what a sound table has where an offer or an answer is due
pub idle_facts : (x : Tables) → Sounds x → x.asked ≡ 0 → Whole x × Few x
idle_facts x s a = go s.nearly.phase s.few
  where
    open_some : Open x → ⊥
    open_some o = let p = o.0.some in omega arith

    go : Phase x → Missing x ⊎ Few x → Whole x × Few x
    go (idle b h w) f = (w, whole_few x w f)
    go (holding o r w h) f = absurd (open_some o)
    go (filling o r h m) f = absurd (open_some o)

pub answer_ok : (x : Tables) → Sounds x → x.asked ≢ 0 → (m : ℕ) → m ≤ 1 → Open x × AnswerOk x m (answered x m)
answer_ok x s a m l = go s.nearly.phase s.few
  where
    k : Core x
    k = s.nearly.core

    d : Tidy x
    d = s.nearly.tidy

    go : Phase x → Missing x ⊎ Few x → Open x × AnswerOk x m (answered x m)
    go (idle b h w) f = absurd (a b)
    go (holding o r w h) f = (o, answer_held x k d o m l w (whole_few x w f) h)
    go (filling o r h e) f = (o, answer_filling x k d o m l h)

module _ (x : Tables) (s : Sounds x) where
  took_offered : (xs : List ℕ) (m : ℕ) (y : Tables) → Offering x xs m → (e : Ended) → OfferOk x xs m e → EndsIn y e → Took x (offers xs m) y
  took_offered xs m y o e (stored_at z i k t p) q = took_offer z i o k t (left_of z y e p q)
  took_offered xs m y o _ Rattle.model.proofs.Laws.Step.no_rows q = elim q [ ]

  pub took : (k : Call) (y : Tables) → fault_of x k ≡ 0 → done_by x k ≡ leaves y → Took x k y
  took (offers xs m) y f e =
      let o = offering x s.nearly.core.bound xs m f in
      let w = idle_facts x s o.idle_now in
      took_offered xs m y o (offered x xs m) (offer_taken x w.0 s.nearly.tidy w.1 xs m o) (ends_in (offered x xs m) y e)
  took (answers m) y f e =
      let a = answering x m f in
      let p = answer_ok x s a.0 m a.1 in
      let r = p.1 in
      took_answer r.marked_tables_law a.1 p.0 r.marked r.same_store (left_of r.marked_tables_law y (answered x m) r.step (ends_in (answered x m) y e))
  took accept y f e =
      let p = proposing_of x (unless_true (is_proposing x) 31 (λ q. omega arith) f) in
      let q : tables x.store x.answers x.s x.t x.c x.hand x.asked true ≡ y = cc in
      subst (Took x accept) q (took_accept p.0 p.1)
  took looks y f e = let q : x ≡ y = cc in subst (Took x looks) q took_look
  took (emits r) y f e = let q : x ≡ y = cc in subst (Took x (emits r)) q took_emit
  took (judges xs) y f e = let q : x ≡ y = cc in subst (Took x (judges xs)) q took_judge

  accepted_nearly : x.asked ≡ 0 → Nearly (tables x.store x.answers x.s x.t x.c x.hand x.asked true)
  accepted_nearly a =
      let n = s.nearly in
      record {
        core = core_flags x n.core x.hand x.asked true;
        tidy = tidy_flags x n.tidy x.hand x.asked true;
        phase = idle a (hand_none n.phase) (whole_flags x (idle_facts x s a).0 x.hand x.asked true);
      }
    where
      hand_none : Phase x → x.hand ≡ 0
      hand_none (idle b h w) = h
      hand_none (holding o r w h) = let p = o.0.some in absurd (omega arith)
      hand_none (filling o r h m) = h

  -- what a taken call leaves is nearly sound, in as many lent rows
  pub took_nearly : {k : Call} {y : Tables} → Took x k y → Nearly y × (y.store.room ≡ x.store.room)
  took_nearly (took_offer z i o k t l) = (l.nearly, l.keeps.ext.room ∙ k.ext.room)
  took_nearly (took_answer z m o k q l) = (l.nearly, l.keeps.ext.room ∙ k.ext.room)
  took_nearly (took_accept a r) = (accepted_nearly a, refl)
  took_nearly took_look = (s.nearly, refl)
  took_nearly took_emit = (s.nearly, refl)
  took_nearly took_judge = (s.nearly, refl)

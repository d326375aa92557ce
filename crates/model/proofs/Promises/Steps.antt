-- The search in hand ends, and on sound tables a call is refused by the first line that applies, or is taken, or something runs short, and then it does.
-- A line's number is at most 33; a step that no line refuses leaves tables, or ends at a shortage that its laws describe, and none of them is of turns.
use mathlib.Core.Path.{◌≡◌, refl, sym, ap, ◌∙◌}
use mathlib.Core.Logic.{◌≢◌}
use mathlib.Core.Bool.{Bool, true, false}
use mathlib.Core.List.{List, [], ◌∷◌}
use Prim.Native.Nat.{ℕ, ◌<◌}
use native.Mathlib.Omega.{arith}
use native.Mathlib.Decide.{ℕ_discrete}
use borrow.Author.Tests.{eq-eqb, ne_eqb}
use Rattle.model.specs.Base.{among}
use Rattle.model.specs.Table.{Tables}
use Rattle.model.specs.Sound.{is_sound}
use Rattle.model.specs.Steps.{Shortage, shortage_number, Ended, short, asks, proposes, Search, lost, search, offered, answered}
use Rattle.model.specs.TableFacts.{Whole, HandFits, SearchEnd, ends_new, ends_unknown, ends_different}
use Rattle.model.specs.Calls.{Call, offers, answers, accept, looks, emits, judges, Outcome, refuses, leaves, number_of, end_of, fault_of, done_by, call}
use Rattle.model.specs.Due.{RoomAlone}
use Rattle.model.specs.Promise.{SearchEnds, Due, TakenWhenDue}
use Rattle.model.proofs.Laws.Search.{in_hand_ends}
use Rattle.model.proofs.Laws.Settle.{ShortOk, short_rows, short_states, short_rules}
use Rattle.model.proofs.Laws.Unchanged.{full_of}
use Rattle.model.specs.Phase.{Phase, idle, holding, filling, Sounds}
use Rattle.model.proofs.Laws.Step.{offering, answering, StepOk, step_short, OfferOk, no_rows, stored_at, offer_taken}
use Rattle.model.proofs.Laws.Faults.{fault_small}
use Rattle.model.proofs.Laws.Sounds.{sound_facts}
use Rattle.model.proofs.Laws.Took.{idle_facts, answer_ok}
use Rattle.model.proofs.Laws.Lending.{call_room}
use Rattle.model.proofs.Laws.Due.{rows_due, states_due, transitions_due}

-- THE SEARCH: a record in hand on sound tables goes against the proposal
held_facts : (x : Tables) → x.hand ≢ 0 → Phase x → Whole x × HandFits x.store x.answers x.s x.t x.c x.hand
held_facts x n (idle a h w) = absurd (n h)
held_facts x n (holding o r w h) = (w, h)
held_facts x n (filling o r h m) = absurd (n h)

found : (x : Tables) (v : Search) → SearchEnd x.store x.answers x.s x.t x.c v → v ≢ lost
found x v (ends_new h p n y) e = let z : ◌≡◌ {A = ℕ} 0 1 = cc in omega arith
found x v (ends_unknown h p i r s u) e = let z : ◌≡◌ {A = ℕ} 0 1 = cc in omega arith
found x v (ends_different h p i r s l a b) e = let z : ◌≡◌ {A = ℕ} 0 1 = cc in omega arith

search_found : (x : Tables) → is_sound x ≡ true → x.hand ≢ 0 → search x.store x.answers x.s x.t x.c x.hand ≢ lost
search_found x e n =
    let f = held_facts x n (sound_facts x e).nearly.phase in
    found x (search x.store x.answers x.s x.t x.c x.hand)
    (in_hand_ends x.store x.answers x.s x.t x.c (full_of x f.0) x.hand f.1)

-- HOW A CALL that no line refuses ends on sound tables
data Ran : Outcome → Type 0 where
  ran : {y : Tables} → Ran (leaves y)
  ran_short : {n : Shortage} → ShortOk n → Ran (refuses (shortage_number n))

end_ran : (y : Tables) (e : Ended) → StepOk y e → Ran (end_of e)
end_ran y (short n) s = ran_short (step_short y n s)
end_ran y (asks z) s = ran
end_ran y (proposes z) s = ran

offer_ran : (x : Tables) (xs : List ℕ) (m : ℕ) (e : Ended) → OfferOk x xs m e → Ran (end_of e)
offer_ran x xs m e no_rows = ran_short short_rows
offer_ran x xs m e (stored_at y i k t s) = end_ran y e s

done_ran : (x : Tables) → Sounds x → (k : Call) → fault_of x k ≡ 0 → Ran (done_by x k)
done_ran x s (offers xs m) f =
    let o = offering x s.nearly.core.bound xs m f in
    let w = idle_facts x s o.idle_now in
    offer_ran x xs m (offered x xs m) (offer_taken x w.0 s.nearly.tidy w.1 xs m o)
done_ran x s (answers m) f =
    let a = answering x m f in
    let r = (answer_ok x s a.0 m a.1).1 in
    end_ran r.marked_tables_law (answered x m) r.step
done_ran x s accept f = ran
done_ran x s looks f = ran
done_ran x s (emits r) f = ran
done_ran x s (judges xs) f = ran

-- which numbers there are
ran_number : (o : Outcome) → Ran o → among (number_of o) (0 ∷ 34 ∷ 35 ∷ 36 ∷ []) ≡ true
unfolding among
ran_number o ran = refl
ran_number o (ran_short short_rows) = refl
ran_number o (ran_short short_states) = refl
ran_number o (ran_short short_rules) = refl

ran_turns : (o : Outcome) → Ran o → number_of o ≢ 255
ran_turns o ran e = omega arith
ran_turns o (ran_short short_rows) e = omega arith
ran_turns o (ran_short short_states) e = omega arith
ran_turns o (ran_short short_rules) e = omega arith

-- A CALL on sound tables, by its fault
module _ (x : Tables) (k : Call) (e : is_sound x ≡ true) where
  call_refused : fault_of x k ≢ 0 → call x k ≡ refuses (fault_of x k)
  call_refused n = rw (e, ne_eqb (fault_of x k) 0 n)

  call_ran : fault_of x k ≡ 0 → Ran (call x k)
  call_ran f = rw (e, eq-eqb (fault_of x k) 0 f) (done_ran x (sound_facts x e) k f)

  -- a number beyond the lines' is the step's
  faultless : (n : ℕ) → 33 < n → call x k ≡ refuses n → fault_of x k ≡ 0
  faultless n l p = go (ℕ_discrete (fault_of x k) 0)
    where
      go : Dec (fault_of x k ≡ 0) → fault_of x k ≡ 0
      go (yes f) = f
      go (no f) = let q = ap number_of (sym (call_refused f) ∙ p) in let s = fault_small x k in absurd (omega arith)

  call_due : Due x k
  call_due =
      record {
        refused = call_refused;
        taken_or_short = λ f. ran_number (call x k) (call_ran f);
        rows = λ p. rows_due x (sound_facts x e) k e (faultless 34 (omega arith) p) p;
        states = λ p. states_due x (sound_facts x e) k e (faultless 35 (omega arith) p) p;
        transitions = λ p. transitions_due x (sound_facts x e) k e (faultless 36 (omega arith) p) p;
      }

pub search_ends : SearchEnds
search_ends = record { in_hand = search_found; in_calls = λ x k. go x k (is_sound x) refl }
  where
    go : (x : Tables) (k : Call) (b : Bool) → is_sound x ≡ b → call x k ≢ refuses 255
    go x k true e p = ran_turns (call x k) (call_ran x k e (faultless x k e 255 (omega arith) p)) (ap number_of p)
    go x k false e p = let q = rw e at (ap number_of p) in omega arith

pub taken_when_due : TakenWhenDue
taken_when_due = call_due

pub room_alone : RoomAlone
room_alone x r k u l d = call_room r x l u k d

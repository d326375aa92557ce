-- More rows lent change nothing but 34: a call that is not refused with 34 does the same with more room, and leaves that room.
-- Only a row that is added looks at the room. Until rows run out both build the same, and every other choice is made by what has no room in it.
use mathlib.Core.Path.{◌≡◌, refl, sym, ap, subst, ◌∙◌}
use mathlib.Core.Logic.{◌≢◌}
use mathlib.Core.Bool.{Bool, true, false, not, cond}
use mathlib.Core.List.{List, [], ◌∷◌, ◌++◌}
use mathlib.Core.Option.{Option, none, some}
use Prim.Native.Nat.{ℕ, ◌+◌, ◌≤◌}
use native.Mathlib.Omega.{arith}
use lib.Dec.{ltb, leb, eqb}
use borrow.Author.Tests.{ltb-true, ltb-false}
use lib.ListN.{length, drop, set}
use Rattle.model.specs.Limits.{most_rules}
use Rattle.model.specs.Base.{top}
use Rattle.model.specs.Store.{Store, used, count_of, find_row, added, Built, full, built, then_build, row_for, Frame, filled_kids, fill, frames_of}
use Rattle.model.specs.Terms.{or_else, unless, record_fault, store_from}
use Rattle.model.specs.Automata.{accepts_list}
use Rattle.model.specs.Table.{Tables, tables, answer_at, answers_of}
use Rattle.model.specs.Sound.{is_sound}
use Rattle.model.specs.Listing.{emitted}
use Rattle.model.specs.Steps.{Shortage, of_rows, of_states, of_transitions, of_turns, Ended, short, asks, proposes, blanked, Search, lost, at_new_transition, at_unknown, at_difference, search, Sought, none_unknown, unknown, seek, grow, opened, proposed, settled_by, settled, with_context, put_by, put_down, searched, advance, taken_by, offered, answered}
use Rattle.model.specs.Calls.{Call, offers, answers, accept, looks, emits, judges, refuses, number_of, is_asking, is_proposing, mark_fits, contradicts, fault_of, end_of, done_by, call}
use Rattle.model.specs.Room.{roomed, with_room, left_with_room}
use Rattle.model.proofs.Laws.Room.{frames_room, known_room, answers_room, search_room, seek_room, automaton_room, sound_room}

module _ (r : ℕ) where
  -- ROWS: where they did not run out, more room builds the same
  abbrev SameBuilt : Built → Built → Type 0
  SameBuilt full b = Unit {0}
  SameBuilt (built i y) b = (y.room ≤ r) × (b ≡ built i (roomed r y))

  row_for_room : (x : Store) → x.room ≤ r → (a : ℕ) (ks : List ℕ) → SameBuilt (row_for x a ks) (row_for (roomed r x) a ks)
  row_for_room x h a ks = go (eqb (find_row x a ks) 0) (ltb (used x) x.room) refl (ltb (used x) r) refl
    where
      go : (b c : Bool) → ltb (used x) x.room ≡ c → (d : Bool) → ltb (used x) r ≡ d →
          SameBuilt (cond b (cond c (built (used x) (added x a ks)) full) (built (find_row x a ks) x))
          (cond b (cond d (built (used x) (added (roomed r x) a ks)) full) (built (find_row x a ks) (roomed r x)))
      go true true p true q = (h, refl)
      go true true p false q = let a = ltb-true (used x) x.room p in let b = ltb-false (used x) r q in absurd (omega arith)
      go true false p d q = tt
      go false c p d q = (h, refl)

  then_room : (b b' : Built) (f f' : ℕ → Store → Built) → SameBuilt b b' → ((i : ℕ) (y : Store) → y.room ≤ r → SameBuilt (f i y) (f' i (roomed r y))) →
      SameBuilt (then_build b f) (then_build b' f')
  then_room full b' f f' s g = tt
  then_room (built i y) b' f f' s g = subst (λ (c : Built). SameBuilt (f i y) (then_build c f')) (sym s.1) (g i y s.0)

  fill_room : (fs : List Frame) (x : Store) → x.room ≤ r → (i : ℕ) → SameBuilt (fill x fs i) (fill (roomed r x) fs i)
  unfolding fill
  fill_room [] x h i = (h, refl)
  fill_room (f ∷ fs) x h i =
      then_room (fill x fs i) (fill (roomed r x) fs i) (λ (j : ℕ) (y : Store). row_for y f.symbol (filled_kids f j)) (λ (j : ℕ) (y : Store). row_for y f.symbol (filled_kids f j)) (fill_room fs x h i)
      (λ j y l. row_for_room y l f.symbol (filled_kids f j))

  store_room : (xs : List ℕ) (x : Store) → x.room ≤ r → (is : List ℕ) → SameBuilt (store_from x xs is) (store_from (roomed r x) xs is)
  unfolding store_from
  store_room [] x h [] = tt
  store_room [] x h (i ∷ is) = (h, refl)
  store_room (a ∷ xs) x h is =
      then_room (row_for x a (top (count_of x a) is)) (row_for (roomed r x) a (top (count_of x a) is)) (λ (i : ℕ) (y : Store). store_from y xs (i ∷ drop (count_of x a) is))
      (λ (i : ℕ) (y : Store). store_from y xs (i ∷ drop (count_of x a) is)) (row_for_room x h a (top (count_of x a) is)) (λ i y l. store_room xs y l (i ∷ drop (count_of x a) is))

  -- STEPS: where rows did not run out, more room ends the same
  abbrev SameShort : Shortage → Ended → Type 0
  SameShort of_rows e = Unit {0}
  SameShort of_states e = e ≡ short of_states
  SameShort of_transitions e = e ≡ short of_transitions
  SameShort of_turns e = e ≡ short of_turns

  abbrev SameEnd : Ended → Ended → Type 0
  SameEnd (short n) e = SameShort n e
  SameEnd (asks y) e = e ≡ asks (with_room r y)
  SameEnd (proposes y) e = e ≡ proposes (with_room r y)

  opened_room : (x : Tables) (b b' : Built) → SameBuilt b b' → SameEnd (opened x b) (opened (with_room r x) b')
  opened_room x full b' s = tt
  opened_room x (built j y) b' s = ap (opened (with_room r x)) s.1

  proposed_room : (x : Tables) (o : Option (List ℕ)) → SameEnd (proposed x o) (proposed (with_room r x) o)
  proposed_room x none = refl
  proposed_room x (some s) = refl

  settled_by_room : (x : Tables) → x.store.room ≤ r → (q : Sought) → SameEnd (settled_by x q) (settled_by (with_room r x) q)
  settled_by_room x h none_unknown =
      subst (λ (f : ℕ → List ℕ). SameEnd (proposed x (grow (answers_of x.store x.answers x.c) x.s x.t)) (proposed (with_room r x) (grow f x.s x.t))) (sym (answers_room r x.store x.answers x.c))
      (proposed_room x (grow (answers_of x.store x.answers x.c) x.s x.t))
  settled_by_room x h (unknown c i) =
      opened_room x (fill x.store (frames_of x.store c) i) (fill (roomed r x.store) (frames_of (roomed r x.store) c) i)
      (subst (λ (f : ℕ → List Frame). SameBuilt (fill x.store (frames_of x.store c) i) (fill (roomed r x.store) (f c) i)) (sym (frames_room r x.store))
      (fill_room (frames_of x.store c) x.store h i))

  settled_room : (x : Tables) → x.store.room ≤ r → SameEnd (settled x) (settled (with_room r x))
  settled_room x h =
      subst (λ (q : Sought). SameEnd (settled x) (settled_by (with_room r x) q)) (sym (seek_room r x.store x.answers x.c x.t))
      (settled_by_room x h (seek x.store x.answers x.c x.t))

  put_by_room : (x : Tables) (b b' : Built) → SameBuilt b b' → SameEnd (put_by x b) (put_by (with_room r x) b')
  put_by_room x full b' s = tt
  put_by_room x (built c y) b' s =
      subst (λ (b : Built). SameEnd (put_by x (built c y)) (put_by (with_room r x) b)) (sym s.1)
      (settled_room (tables y (blanked x.store y x.answers) x.s x.t (with_context c x.c) 0 0 false) s.0)

  put_down_room : (x : Tables) → x.store.room ≤ r → (fs : List Frame) → SameEnd (put_down x fs) (put_down (with_room r x) fs)
  put_down_room x h fs = put_by_room x (fill x.store fs 0) (fill (roomed r x.store) fs 0) (fill_room fs x.store h 0)

  searched_room : (x : Tables) → x.store.room ≤ r → (q : Search) → SameEnd (searched x q) (searched (with_room r x) q)
  searched_room x h lost = refl
  searched_room x h (at_new_transition i p) = go (leb most_rules (length x.t))
    where
      y : Tables
      y = tables x.store x.answers x.s (x.t ++ (p.row ∷ [])) x.c i 0 false

      go : (b : Bool) → SameEnd (cond b (short of_transitions) (put_down y p.around)) (cond b (short of_transitions) (put_down (with_room r y) p.around))
      go true = refl
      go false = put_down_room y h p.around
  searched_room x h (at_unknown i p rep) =
      opened_room (tables x.store x.answers x.s x.t x.c i 0 false) (fill x.store p.around rep) (fill (roomed r x.store) p.around rep) (fill_room p.around x.store h rep)
  searched_room x h (at_difference i p rep j) = put_down_room x h p.around

  advance_room : (x : Tables) → x.store.room ≤ r → SameEnd (advance x) (advance (with_room r x))
  advance_room x h = go (eqb x.hand 0)
    where
      find : Store → Search
      find z = search z x.answers x.s x.t x.c x.hand

      go : (b : Bool) → SameEnd (cond b (settled x) (searched x (find x.store))) (cond b (settled (with_room r x)) (searched (with_room r x) (find (roomed r x.store))))
      go true = settled_room x h
      go false =
          subst (λ (q : Search). SameEnd (searched x (find x.store)) (searched (with_room r x) q)) (sym (search_room r x.store x.answers x.s x.t x.c x.hand))
          (searched_room x h (find x.store))

  taken_by_room : (x : Tables) (m : ℕ) (b b' : Built) → SameBuilt b b' → SameEnd (taken_by x m b) (taken_by (with_room r x) m b')
  taken_by_room x m full b' s = tt
  taken_by_room x m (built i y) b' s =
      subst (λ (b : Built). SameEnd (taken_by x m (built i y)) (taken_by (with_room r x) m b)) (sym s.1)
      (advance_room (tables y (set (blanked x.store y x.answers) i (m + 1)) x.s x.t x.c i 0 false) s.0)

  -- CALLS
  end_room : (e e' : Ended) → SameEnd e e' → number_of (end_of e) ≢ 34 → end_of e' ≡ left_with_room r (end_of e)
  end_room (short of_rows) e' s d = absurd (d refl)
  end_room (short of_states) e' s d = ap end_of s
  end_room (short of_transitions) e' s d = ap end_of s
  end_room (short of_turns) e' s d = ap end_of s
  end_room (asks y) e' s d = ap end_of s
  end_room (proposes y) e' s d = ap end_of s

  -- what a line looks at has no room in it
  pub fault_room : (x : Tables) (k : Call) → fault_of (with_room r x) k ≡ fault_of x k
  fault_room x (offers xs m) = λ i.
      or_else (unless (is_proposing x) 31)
      (or_else (record_fault x.store.counts xs)
      (or_else (unless (mark_fits m) 16)
      (or_else (unless (not (contradicts (answer_at x.answers (known_room r x.store xs [] i)) m)) 33) (unless (not (eqb (cond (accepts_list (automaton_room r x i) xs) 1 0) m)) 32))))
  fault_room x (answers m) = refl
  fault_room x accept = refl
  fault_room x looks = refl
  fault_room x (emits n) = λ i. or_else (unless (not (is_asking x)) 31) (unless (leb (length (emitted (record { automaton = automaton_room r x i }))) n) 20)
  fault_room x (judges xs) = refl

  module _ (x : Tables) (h : x.store.room ≤ r) where
    done_room : (k : Call) → number_of (done_by x k) ≢ 34 → done_by (with_room r x) k ≡ left_with_room r (done_by x k)
    done_room (offers xs m) d =
        end_room (offered x xs m) (offered (with_room r x) xs m) (taken_by_room x m (store_from x.store xs []) (store_from (roomed r x.store) xs []) (store_room xs x.store h [])) d
    done_room (answers m) d =
        end_room (answered x m) (answered (with_room r x) m) (advance_room (tables x.store (set x.answers x.asked (m + 1)) x.s x.t x.c x.hand 0 false) h) d
    done_room accept d = refl
    done_room looks d = refl
    done_room (emits n) d = refl
    done_room (judges xs) d = refl

    pub call_room : used x.store ≤ x.store.room → (k : Call) → number_of (call x k) ≢ 34 → call (with_room r x) k ≡ left_with_room r (call x k)
    call_room u k d =
        (λ i. cond (sound_room r x u (omega arith) i) (cond (eqb (fault_room x k i) 0) (done_by (with_room r x) k) (refuses (fault_room x k i))) (refuses 30)) ∙
        go (is_sound x) (eqb (fault_of x k) 0) d
      where
        go : (b c : Bool) → number_of (cond b (cond c (done_by x k) (refuses (fault_of x k))) (refuses 30)) ≢ 34 →
            cond b (cond c (done_by (with_room r x) k) (refuses (fault_of x k))) (refuses 30) ≡ left_with_room r (cond b (cond c (done_by x k) (refuses (fault_of x k))) (refuses 30))
        go true true q = done_room k q
        go true false q = refl
        go false c q = refl

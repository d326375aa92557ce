-- A refused call changes nothing, nor does one that only reads, unsound tables get 30, the counts told are those of the tables left, and refused calls may be left out of a run.
-- Each holds by the call's outcome alone: a refusal keeps what was lent, and tables that are left are told and written as they are.
use mathlib.Core.Path.{◌≡◌, refl, sym, ap, ◌∙◌}
use mathlib.Core.Bool.{Bool, true, false, ◌&&◌, cond, true≢false}
use mathlib.Core.List.{List, [], ◌∷◌}
use Prim.Native.Nat.{ℕ}
use native.Mathlib.Omega.{arith}
use lib.Dec.{eqb}
use lib.ListN.{length}
use Rattle.model.specs.Table.{Tables}
use Rattle.model.specs.Sound.{is_sound}
use Rattle.model.specs.Calls.{Call, offers, answers, accept, looks, emits, judges, Outcome, refuses, leaves, number_of, look, fault_of, done_by, is_asking, started}
use Rattle.model.specs.Entry.{rows_lent, size_fits, tables_of, lists_fit, lists_of, seen_of, seen_by, words_by, words_of, lists_by, zero_lists, call_by}
use Rattle.model.specs.Run.{Lent, meant, after_call, after, is_taken, taken_only}
use Rattle.model.specs.Promise.{RefusedUntouched, ReadsUntouched, only_reads, UnsoundRefused, Tells, CountsTold, TakenAlone}
use Rattle.model.specs.declared.Lists.{Lists}
use Rattle.model.proofs.Laws.Lent.{length_nodes_in, words_same, lists_same, s_back, t_back, c_back, accepted_back, rows_within, lists_fit_facts, start_leaves}
use Rattle.model.proofs.Laws.Taken.{is_taken_law, leaves_after}
use Rattle.model.proofs.Laws.Sounds.{sound_facts}

pub refused_untouched : RefusedUntouched
refused_untouched l k e = go (call_by l.words l.lists k) e
  where
    go : (o : Outcome) → eqb (number_of o) 0 ≡ false → record { words = words_by l.words o; lists = lists_by l.lists o } ≡ l
    go (refuses n) e = refl
    go (leaves y) e = absurd (true≢false e)

-- tables written over what they were read from are the same
pub reads_done : (x : Tables) (k : Call) → only_reads k ≡ true → done_by x k ≡ leaves x
reads_done x (offers xs m) r = absurd (true≢false (sym r))
reads_done x (answers m) r = absurd (true≢false (sym r))
reads_done x accept r = absurd (true≢false (sym r))
reads_done x looks r = refl
reads_done x (emits n) r = refl
reads_done x (judges xs) r = refl

pub reads_untouched : ReadsUntouched
reads_untouched l k a r = go (is_taken l k) refl
  where
    go : (b : Bool) → is_taken l k ≡ b → after_call l k ≡ l
    go false e = refused_untouched l k e
    go true e =
        let w = is_taken_law l k e in
        let f = lists_fit_facts l.lists w.lists in
        let g = (sound_facts (meant l) w.taken.sound).nearly.core.good.fits in
        let n = length_nodes_in l.lists.used l.words in
        let a1 = a.counts in
        let a2 = a.s in
        let a3 = a.t in
        let a4 = a.c in
        let f1 = f.letters in
        let f2 = f.states in
        let f3 = f.rules in
        let f4 = f.contexts in
        let p = words_same l.words l.lists (rows_within l.words l.lists.used (omega arith)) in
        let q = lists_same l.words l.lists (omega arith) (omega arith) (omega arith) (omega arith) f.accepted in
        leaves_after l k (meant l) (w.outcome ∙ sym w.taken.done ∙ reads_done (meant l) k r) ∙ (λ i. record { words = p i; lists = q i })

-- both gates behind the size refuse with 30
shut_gates : (a b c : Bool) (o : Outcome) → a ≡ true → a && b && c ≡ false →
    number_of (cond a (cond b (cond c o (refuses 30)) (refuses 30)) (refuses 18)) ≡ 30
shut_gates true true true o p q = absurd (true≢false q)
shut_gates true true false o p q = refl
shut_gates true false c o p q = refl
shut_gates false b c o p q = absurd (true≢false (sym p))

pub unsound_refused : UnsoundRefused
unsound_refused l k p q =
    shut_gates (size_fits l.words) (lists_fit l.lists) (is_sound (meant l))
    (cond (eqb (fault_of (meant l) k) 0) (done_by (meant l) k) (refuses (fault_of (meant l) k))) p q

-- tables left are told as they are
left_told : (ws : List ℕ) (l : Lists) (y : Tables) → Tells (seen_of (look y)) (tables_of ws (lists_of l y))
left_told ws l y =
    record {
      states = sym (ap length (s_back ws l y));
      rules = sym (ap length (t_back ws l y));
      contexts = sym (ap length (c_back ws l y));
      row = refl;
      phase = ap (λ (b : Bool). cond b 2 (cond (is_asking y) 1 0)) (sym (accepted_back ws l y));
    }

call_told_law : (l : Lent) (o : Outcome) (y : Tables) → o ≡ leaves y → Tells (seen_by o) (tables_of (words_by l.words o) (lists_by l.lists o))
call_told_law l o y e = rw e (left_told (words_of l.words y) l.lists y)

pub counts_told : CountsTold
counts_told =
    record {
      calls = λ l k t. (let w = is_taken_law l k t in call_told_law l (call_by l.words l.lists k) w.taken.left w.outcome);
      start = λ ws ns old h. rw (start_leaves ws ns h) (left_told (words_of ws (started (rows_lent ws) ns)) zero_lists (started (rows_lent ws) ns));
    }

pub taken_alone : TakenAlone
unfolding after taken_only
taken_alone l [] = refl
taken_alone l (k ∷ ks) = go (is_taken l k) refl (taken_alone (after_call l k) ks)
  where
    go : (b : Bool) → is_taken l k ≡ b → after (after_call l k) ks ≡ after (after_call l k) (taken_only (after_call l k) ks) →
        after (after_call l k) ks ≡ after l (cond b (k ∷ taken_only (after_call l k) ks) (taken_only (after_call l k) ks))
    go true e r = r
    go false e r = r ∙ ap (λ (m : Lent). after m (taken_only (after_call l k) ks)) (refused_untouched l k e)

-- The six cases of 33, and that it is told before 32: on sound tables by the row of the listed record, in a run from start by what was said.
-- The row that the offer looks up is the one with the record's tree; in a run its answer is what was said. Where 32 is given, 33 did not apply.
use mathlib.Core.Path.{◌≡◌, refl, sym, ap, ◌∙◌}
use mathlib.Core.Logic.{◌≢◌, ◌⊎◌, inl, inr}
use mathlib.Core.Bool.{Bool, true, false, not, true≢false}
use mathlib.Core.List.{List, [], ◌∷◌}
use Prim.Native.Nat.{ℕ, ◌+◌, ◌≤◌}
use native.Mathlib.Omega.{arith}
use native.Mathlib.Decide.{ℕ_discrete}
use borrow.Author.Tests.{leb-true, le-leb, not-true}
use Rattle.model.specs.Base.{among, In}
use Rattle.model.specs.Terms.{unless, tree_at, tree_of, record_fault, known_row}
use Rattle.model.specs.Table.{Tables, answer_at}
use Rattle.model.specs.TableFacts.{Core}
use Rattle.model.specs.Sound.{is_sound}
use Rattle.model.specs.Calls.{Call, offers, refuses, number_of, is_proposing, phase_of, mark_fits, contradicts, verdict_is, offer_fault, fault_of, call}
use Rattle.model.specs.Entry.{start_number, call_number}
use Rattle.model.specs.Run.{Lent, meant, started_run, after, Said, said_in}
use Rattle.model.specs.Promise.{Due}
use Rattle.model.specs.Marks.{SixCases, ContradictionTold}
use Rattle.model.specs.declared.Lists.{Lists}
use Rattle.model.proofs.Laws.Trees.{record_fault_parses}
use Rattle.model.proofs.Laws.Settle.{answered_used}
use Rattle.model.proofs.Laws.Cases.{as_the_sum, not_contradicts, contradicted}
use Rattle.model.proofs.Laws.Step.{or_later, unless_true, proposing_of}
use Rattle.model.proofs.Laws.Faults.{record_small}
use Rattle.model.proofs.Laws.Known.{known_there}
use Rattle.model.proofs.Laws.Sounds.{sound_facts}
use Rattle.model.proofs.Laws.Along.{LentSound, lent_sound, call_meant}
use Rattle.model.proofs.Promises.Sound.{stays_sound}
use Rattle.model.proofs.Promises.Steps.{taken_when_due}
use Rattle.model.proofs.Promises.Offers.{proposing}
use Rattle.model.proofs.Promises.History.{answers_taken}

-- 33: the six cases are computed, and the answers of sound tables are at most 2
pub six_cases : SixCases
six_cases =
    record {
      unknown_no = refl;
      unknown_yes = refl;
      no_no = refl;
      no_yes = refl;
      yes_no = refl;
      yes_yes = refl;
      as_the_sum = as_the_sum;
      in_calls = λ x i m e f. as_the_sum (answer_at x.answers i) m ((sound_facts x e).nearly.core.bound i) (leb-true m 1 f);
    }

-- THE LISTED RECORD's row: the one with its tree
module _ (x : Tables) (core : Core x) (xs : List ℕ) (fits : record_fault x.store.counts xs ≡ 0) (i : ℕ) (same : tree_at x.store i ≡ tree_of x.store.counts xs) where
  looked_up : answer_at x.answers i ≢ 0 → answer_at x.answers (known_row x.store xs) ≡ answer_at x.answers i
  looked_up n =
      ap (answer_at x.answers) (known_there x.store core.good xs (record_fault_parses x.store.counts xs fits).0 i (answered_used x core i n) same)

-- 33 on sound tables
told_33 : (x : Tables) (xs : List ℕ) (m i : ℕ) → is_sound x ≡ true → phase_of x ≡ 0 → record_fault x.store.counts xs ≡ 0 → m ≤ 1 →
    tree_at x.store i ≡ tree_of x.store.counts xs → answer_at x.answers i ≢ 0 → answer_at x.answers i ≢ m + 1 → call x (offers xs m) ≡ refuses 33
told_33 x xs m i e p f k t n d =
    let core = (sound_facts x e).nearly.core in
    let c : contradicts (answer_at x.answers (known_row x.store xs)) m ≡ true =
    ap (λ (v : ℕ). contradicts v m) (looked_up x core xs f i t n) ∙ contradicted (answer_at x.answers i) m (core.bound i) k n d in
    let g : fault_of x (offers xs m) ≡ 33 = rw (proposing x p, f, le-leb m 1 k, c) in
    (taken_when_due x (offers xs m) e).refused (λ z. omega (arith, z, g)) ∙ ap refuses g

-- 32: the lines before it do not apply
unless_other : (z : Bool) (n : ℕ) → n ≢ 32 → unless z n ≢ 32
unless_other true n d e = absurd (omega arith)
unless_other false n d e = d e

-- a call with this number was refused by its line
pub by_line : (x : Tables) (xs : List ℕ) (m : ℕ) → is_sound x ≡ true → number_of (call x (offers xs m)) ≡ 32 → offer_fault x xs m ≡ 32
unfolding among
by_line x xs m e q = go (ℕ_discrete (offer_fault x xs m) 0)
  where
    due : Due x (offers xs m)
    due = taken_when_due x (offers xs m) e

    go : Dec (offer_fault x xs m ≡ 0) → offer_fault x xs m ≡ 32
    go (yes z) = absurd (true≢false (sym (due.taken_or_short z) ∙ ap (λ (n : ℕ). among n (0 ∷ 34 ∷ 35 ∷ 36 ∷ [])) q))
    go (no n) = sym (ap number_of (due.refused n)) ∙ q

-- then those before it do not apply, and the mark is the verdict
pub record Only32 (x : Tables) (xs : List ℕ) (m : ℕ) : Type 0 where
  pub idle : x.asked ≡ 0
  pub fits : record_fault x.store.counts xs ≡ 0
  pub mark : m ≤ 1
  pub agrees : contradicts (answer_at x.answers (known_row x.store xs)) m ≡ false
  pub verdict : verdict_is x xs m ≡ true

applies : (z : Bool) → unless (not z) 32 ≡ 32 → z ≡ true
applies true e = refl
applies false e = absurd (omega arith)

pub only_32 : (x : Tables) (xs : List ℕ) (m : ℕ) → offer_fault x xs m ≡ 32 → Only32 x xs m
only_32 x xs m e =
    let against = contradicts (answer_at x.answers (known_row x.store xs)) m in
    let a = or_later (unless (is_proposing x) 31) _ 32 (unless_other (is_proposing x) 31 (λ q. omega arith)) e in
    let b = or_later (record_fault x.store.counts xs) _ 32 (λ q. (let s = record_small x.store.counts xs in omega arith)) a.1 in
    let c = or_later (unless (mark_fits m) 16) _ 32 (unless_other (mark_fits m) 16 (λ q. omega arith)) b.1 in
    let d = or_later (unless (not against) 33) _ 32 (unless_other (not against) 33 (λ q. omega arith)) c.1 in
    record {
      idle = (proposing_of x (unless_true (is_proposing x) 31 (λ q. omega arith) a.0)).0;
      fits = b.0;
      mark = leb-true m 1 (unless_true (mark_fits m) 16 (λ q. omega arith) c.0);
      agrees = not-true against (unless_true (not against) 33 (λ q. omega arith) d.0);
      verdict = applies (verdict_is x xs m) d.1;
    }

-- ALONG A RUN from start
module _ (ws ns : List ℕ) (old : Lists) (ks : List Call) (s : start_number ws ns ≡ 0) where
  abbrev l : Lent
  l = after (started_run ws ns old) ks

  now_sound : LentSound l
  now_sound = lent_sound l (stays_sound ws ns old ks s)

  module _ (xs : List ℕ) (m : ℕ) (e : Said) (h : In e (said_in (started_run ws ns old) ks)) (t : e.about ≡ tree_of (meant l).store.counts xs) where
    said_33 : phase_of (meant l) ≡ 0 → record_fault (meant l).store.counts xs ≡ 0 → m ≤ 1 → e.mark ≢ m → call_number l.words l.lists (offers xs m) ≡ 33
    said_33 p f k d =
        let r = (answers_taken ws ns old ks s).stored e h in
        ap number_of (call_meant l now_sound (offers xs m) ∙ told_33 (meant l) xs m r.0 now_sound.tested p f k (r.2 ∙ t) (λ z. (let a = r.3 in omega arith)) (λ z. d (let a = r.3 in omega arith)))

    said_32 : call_number l.words l.lists (offers xs m) ≡ 32 → e.mark ≡ m
    said_32 q =
        let r = (answers_taken ws ns old ks s).stored e h in
        let core = now_sound.sounds.nearly.core in
        let p = only_32 (meant l) xs m (by_line (meant l) xs m now_sound.tested (sym (ap number_of (call_meant l now_sound (offers xs m))) ∙ q)) in
        let n : answer_at (meant l).answers r.0 ≢ 0 = λ z. (let a = r.3 in omega arith) in
        let c : contradicts (answer_at (meant l).answers r.0) m ≡ false = ap (λ (v : ℕ). contradicts v m) (sym (looked_up (meant l) core xs p.fits r.0 (r.2 ∙ t) n)) ∙ p.agrees in
        go (not_contradicts (answer_at (meant l).answers r.0) m (core.bound r.0) p.mark c) n r.3
      where
        go : {v : ℕ} → (v ≡ 0) ⊎ (v ≡ m + 1) → v ≢ 0 → v ≡ e.mark + 1 → e.mark ≡ m
        go (inl z) n a = absurd (n z)
        go (inr z) n a = omega arith

pub contradiction_told : ContradictionTold
contradiction_told =
    record {
      stored = told_33;
      said_before = λ ws ns old ks xs m e s p f k h t d. said_33 ws ns old ks s xs m e h t p f k d;
      none_behind_32 = λ ws ns old ks xs m e s q h t. said_32 ws ns old ks s xs m e h t q;
    }

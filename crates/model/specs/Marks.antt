-- A mark against what is stored and against what was said of its record (§5.2, §5.3): 33 in six cases, and no contradiction behind 32.
use Rattle.std.specs.Prelude.{◌≡◌, ◌≢◌, Bool, true, false, ◌&&◌, not, List, ℕ, ◌+◌, ◌≤◌, eqb}
use Rattle.model.specs.Base.{In}
use Rattle.model.specs.Terms.{tree_at, tree_of, record_fault}
use Rattle.model.specs.Table.{Tables, answer_at}
use Rattle.model.specs.Sound.{is_sound}
use Rattle.model.specs.Calls.{Call, offers, refuses, phase_of, mark_fits, contradicts, call}
use Rattle.model.specs.Entry.{start_number, call_number}
use Rattle.model.specs.Run.{meant, started_run, after, Said, said_in}
use Rattle.model.specs.declared.Lists.{Lists}

-- 33 in six cases: at 1 with 1 and at 2 with 0, at none of the other four. Wherever a call tests a mark against a stored answer, they say
-- what the sum said that they replace: no call's answer changes
abbrev pub the_sum : (stored mark : ℕ) → Bool
the_sum v m = not (eqb v 0) && not (eqb v (m + 1))

pub record SixCases : Type 0 where
  pub unknown_no : contradicts 0 0 ≡ false
  pub unknown_yes : contradicts 0 1 ≡ false
  pub no_no : contradicts 1 0 ≡ false
  pub no_yes : contradicts 1 1 ≡ true
  pub yes_no : contradicts 2 0 ≡ true
  pub yes_yes : contradicts 2 1 ≡ false
  pub as_the_sum : (v m : ℕ) → v ≤ 2 → m ≤ 1 → contradicts v m ≡ the_sum v m
  pub in_calls : (x : Tables) (i m : ℕ) → is_sound x ≡ true → mark_fits m ≡ true →
      contradicts (answer_at x.answers i) m ≡ the_sum (answer_at x.answers i) m

-- 33 before 32: a contradiction is told, whatever the automaton says of the record
pub record ContradictionTold : Type 0 where
  -- on any sound tables, while proposing: the listed record is in a row whose answer is known and not the mark's
  pub stored : (x : Tables) (xs : List ℕ) (m i : ℕ) → is_sound x ≡ true → phase_of x ≡ 0 → record_fault x.store.counts xs ≡ 0 → m ≤ 1 →
      tree_at x.store i ≡ tree_of x.store.counts xs → answer_at x.answers i ≢ 0 → answer_at x.answers i ≢ m + 1 →
      call x (offers xs m) ≡ refuses 33
  -- in a run from start: a taken call said the opposite of the listed record
  pub said_before : (ws ns : List ℕ) (old : Lists) (ks : List Call) (xs : List ℕ) (m : ℕ) (e : Said) → start_number ws ns ≡ 0 →
      let l = after (started_run ws ns old) ks in
      phase_of (meant l) ≡ 0 → record_fault (meant l).store.counts xs ≡ 0 → m ≤ 1 →
      In e (said_in (started_run ws ns old) ks) → e.about ≡ tree_of (meant l).store.counts xs → e.mark ≢ m →
      call_number l.words l.lists (offers xs m) ≡ 33
  -- so 32 hides nothing: all that was said of the listed record is what the mark says
  pub none_behind_32 : (ws ns : List ℕ) (old : Lists) (ks : List Call) (xs : List ℕ) (m : ℕ) (e : Said) → start_number ws ns ≡ 0 →
      let l = after (started_run ws ns old) ks in
      call_number l.words l.lists (offers xs m) ≡ 32 →
      In e (said_in (started_run ws ns old) ks) → e.about ≡ tree_of (meant l).store.counts xs → e.mark ≡ m

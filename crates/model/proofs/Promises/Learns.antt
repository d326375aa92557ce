-- Demand 3 (§7.3): whatever the calls, S and T grow with the records taken; and an automaton that agrees with all that was taken has at least as many states and rules.
-- By the invariant of Laws.Fresh along the list, and by two injections: representatives to states, transitions to rules.
use mathlib.Core.Path.{◌≡◌, sym, ap, ◌∙◌}
use mathlib.Core.Bool.{Bool, true, false, cond}
use Prim.Native.Nat.{ℕ, ◌+◌, ◌≤◌}
use native.Mathlib.Omega.{arith}
use lib.ListN.{length}
use Rattle.model.specs.Table.{Tables, size}
use Rattle.model.specs.Calls.{is_asking}
use Rattle.model.specs.Run.{meant, after, started_run, taken, shown, shown_by}
use Rattle.model.specs.Promise.{GrowsEach, LearnsEach}
use Rattle.model.proofs.Laws.Injections.{targets_in, representative_leads, representatives_apart, transition_uses, transitions_apart}
use Rattle.model.proofs.Laws.Lent.{start_back}
use Rattle.model.proofs.Laws.Fresh.{taken_le, core_of, taken_bound}
use Rattle.model.proofs.Laws.RunStep.{fresh_start, run_after, run_grows}
use Rattle.model.proofs.Laws.AgreeRun.{agree_run, agree_start}

pub grows_each : GrowsEach
grows_each ws ns old ks e =
    let b = start_back ws ns e old in
    let f = fresh_start ws ns old e in
    let r = run_after f ks in
    let t = taken_le (meant (after (started_run ws ns old) ks)) r.taken_now r.last_size r.fresh.fresh in
    let c = r.counted in
    let s = r.shown_are in
    let d = r.fresh.tidy in
    let ds = d.few_s in
    let dt = d.few_t in
    let z : ◌≡◌ {A = ℕ} (cond (is_asking (meant (started_run ws ns old))) 1 0) 0 = ap (λ (x : Tables). cond (is_asking x) 1 0) b in
    let n : size (meant (started_run ws ns old)) ≡ 0 = ap size b in
    record {
      each = ap (λ (m : ℕ). Rattle.model.specs.Run.grows_from m 0 (started_run ws ns old) ks) n ∙ run_grows f 0 (sym z) ks;
      taken_few = omega arith;
      size_few = omega arith;
      shown_are = flip (is_asking (meant (after (started_run ws ns old) ks))) (s ∙ ap (λ (m : ℕ). taken (started_run ws ns old) ks + m) z);
    }
  where
    flip : (b : Bool) → shown_by (started_run ws ns old) ks + cond b 1 0 ≡ taken (started_run ws ns old) ks + 0 → 1 + shown_by (started_run ws ns old) ks ≡ taken (started_run ws ns old) ks + cond b 0 1
    flip true e = omega arith
    flip false e = omega arith

pub learns_each : LearnsEach
learns_each ws ns old ks d e c dt g =
    let f = fresh_start ws ns old e in
    let r = run_after f ks in
    let x = meant (after (started_run ws ns old) ks) in
    let a = agree_run d f (agree_start d ws ns old e) ks g in
    let q = core_of (meant (after (started_run ws ns old) ks)) r.taken_now r.last_size r.fresh.fresh in
    let y = grows_each ws ns old ks e in
    let b = taken_bound (meant (after (started_run ws ns old) ks)) r.taken_now r.last_size r.fresh.fresh d.rules d.finals (targets_in d dt) a in
    let n = r.counted in
    let s = y.shown_are in
    let few : taken (started_run ws ns old) ks ≤ length d.finals + length d.rules = omega arith in
    record {
      representative = representative_leads d x.store q.good x.answers a x.s x.t x.c q.held;
      apart = representatives_apart d x.store q.good x.answers a x.s x.t x.c q.held;
      transition = transition_uses d x.store q.good x.answers a x.s x.t x.c q.held;
      own_rule = transitions_apart d x.store q.good x.answers a x.s x.t x.c q.held;
      grows_each = y.each;
      taken_few = few;
      shown_are = s;
      shown_few = at_most (is_asking (meant (after (started_run ws ns old) ks))) s few;
    }
  where
    at_most : (b : Bool) → shown (started_run ws ns old) ks ≡ taken (started_run ws ns old) ks + cond b 0 1 → taken (started_run ws ns old) ks ≤ length d.finals + length d.rules →
        shown (started_run ws ns old) ks ≤ length d.finals + length d.rules + 1
    at_most true p q = omega arith
    at_most false p q = omega arith

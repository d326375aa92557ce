-- A mark stored on a record that had none, or that one (§3.4, §3.5), where no answer of T at C is missing: each transition keeps its representative.
-- None of the answers of T at C changes: the rows of answers are the same, and so is the first representative with each.
use mathlib.Core.Path.{◌≡◌, sym, ap, ◌∙◌}
use mathlib.Core.Logic.{◌≢◌, ◌⊎◌, inl, inr}
use mathlib.Core.Bool.{false}
use mathlib.Core.List.{List}
use Prim.Native.Nat.{ℕ, ◌≤◌, ◌<◌}
use native.Mathlib.Omega.{arith}
use lib.ListN.{length, get_or, set}
use lib.Seq.{get_or-set_same, get_or-set_other}
use Rattle.model.specs.Limits.{most_rows}
use Rattle.model.specs.Base.{In}
use Rattle.model.specs.Store.{Store, Extends, used, filled_row, frames_of}
use Rattle.model.specs.Table.{Tables, tables, answer_in, answers_of, state_from, row_of}
use Rattle.model.specs.Steps.{blanked, rep_of}
use Rattle.model.specs.Facts.{Good}
use Rattle.model.specs.TableFacts.{Whole}
use Rattle.model.proofs.Laws.Tests.{by_equal}
use Rattle.model.proofs.Laws.Held.{answer_ext}
use Rattle.model.proofs.Laws.Settle.{blank_is}
use Rattle.model.proofs.Laws.Turn.{answers_same}
use Rattle.model.proofs.Laws.Unchanged.{full_of, stored_whole}
use Rattle.model.proofs.Laws.Unchanged.{state_same}
use Rattle.table_verdict.proofs.Laws.Tied.{RepsOf}
use Rattle.step_search.specs.Spots.{Noted}

-- a mark on a row that had none, or that one, changes no answer that was there
marked_keeps : (w : List ℕ) (j v n : ℕ) → j < length w → (get_or w j 0 ≡ 0) ⊎ (get_or w j 0 ≡ v) → get_or w n 0 ≢ 0 → get_or (set w j v) n 0 ≡ get_or w n 0
marked_keeps w j v n l was z =
    by_equal n j (λ p. ap (λ (k : ℕ). get_or (set w j v) k 0) p ∙ get_or-set_same w j v 0 l ∙ at was p ∙ ap (λ (k : ℕ). get_or w k 0) (sym p)) (λ d. get_or-set_other w j n v 0 d)
  where
    at : (get_or w j 0 ≡ 0) ⊎ (get_or w j 0 ≡ v) → n ≡ j → v ≡ get_or w j 0
    at (inl q) p = absurd (z (ap (λ (k : ℕ). get_or w k 0) p ∙ q))
    at (inr q) p = sym q

module _ (x : Tables) (f : Whole x) (y : Store) (good : Good y) (ext : Extends x.store y) (j v : ℕ) (low : j < used y)
    (was : (get_or (blanked x.store y x.answers) j 0 ≡ 0) ⊎ (get_or (blanked x.store y x.answers) j 0 ≡ v)) where
  abbrev blank : List ℕ
  blank = blanked x.store y x.answers

  abbrev marked : List ℕ
  marked = set blank j v

  unmarked : Whole (tables y blank x.s x.t x.c j 0 false)
  unmarked = stored_whole x f y good ext j

  answer_same : (i c : ℕ) → In i x.t → In c x.c → answer_in y marked c i ≡ answer_in x.store x.answers c i
  answer_same i c a b =
      let k = f.core in
      marked_keeps blank j v (filled_row y (frames_of y c) i) (omega (arith, low, unmarked.core.counted)) was (unmarked.known i c a b) ∙
      answer_ext x.store y k.good good ext x.answers blank (blank_is x.store y x.answers k.counted k.first) c i (k.held.context c b) (k.held.row i a)

  rows_same : (i : ℕ) → In i x.t → answers_of y marked x.c i ≡ answers_of x.store x.answers x.c i
  rows_same i a = answers_same x.store y x.answers marked x.c i (λ c b. answer_same i c a b)

  rep_same : (i : ℕ) → In i x.t → rep_of y marked x.s x.t x.c i ≡ rep_of x.store x.answers x.s x.t x.c i
  rep_same i a =
      let r = answers_of y marked x.c in
      ap (λ (k : ℕ). get_or x.s k 0)
      (state_same (row_of x) r (r i) 0 x.s (λ k b. rows_same k (f.core.held.among k b)) ∙ ap (λ (w : List ℕ). state_from (row_of x) w 0 x.s) (rows_same i a))

  pub handling_marked : (h : ℕ) → Whole (tables y (set (blanked x.store y x.answers) j v) x.s x.t x.c h 0 false) →
      {reps : List ℕ} → RepsOf (answers_of x.store x.answers x.c) x.s x.t reps → used x.store ≤ most_rows → y.room ≤ length reps →
      Noted y (set (blanked x.store y x.answers) j v) x.s x.t x.c reps
  handling_marked h whole p small long =
      record {
        full = full_of (tables y marked x.s x.t x.c h 0 false) whole;
        long = long;
        of_t = λ i a. p.right i (omega (arith, (f.core.held.row i a).within)) a ∙ sym (rep_same i a);
        others = p.others;
      }

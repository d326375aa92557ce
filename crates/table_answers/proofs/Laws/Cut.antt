-- The first members of T and of C as lists of their own: what holds of their table holds of the table of the first members, and the other way round.
-- A list cut to its first members has their number as its length.
use mathlib.Core.Path.{◌≡◌, sym, ap, ◌∙◌}
use mathlib.Core.List.{List}
use Prim.Native.Nat.{ℕ, ◌≤◌, ◌<◌}
use native.Mathlib.Omega.{arith}
use lib.ListN.{length, get_or, take}
use lib.Seq.{take-length, get_or-take, length-take-le}
use Rattle.model.specs.Base.{among}
use Rattle.model.specs.Store.{Store}
use Rattle.model.specs.Table.{answers_of}
use Rattle.table.specs.Answers.{answers_at, Observed, KnownRows}

module _ (x : Store) (w t : List ℕ) (n : ℕ) (c : List ℕ) (m : ℕ) (enough-t : n ≤ length t) (enough-c : m ≤ length c) (tb : List ℕ) where
  -- a row's answers, either way
  answers_cut : (k : ℕ) → k < n → answers_of x w (take (length (take m c)) (take m c)) (get_or (take n t) k 0) ≡ answers_of x w (take m c) (get_or t k 0)
  answers_cut k l = (λ i. answers_of x w (take-length (take m c) i) (get_or-take n t k 0 l i))

  row_cut : (k : ℕ) → answers_at tb (length (take m c)) k ≡ answers_at tb m k
  row_cut k = ap (λ (j : ℕ). answers_at tb j k) (length-take-le m c enough-c)

  pub known_cut : KnownRows x w t n c m tb → KnownRows x w (take n t) (length (take n t)) (take m c) (length (take m c)) tb
  known_cut h =
      let e = length-take-le n t enough-t in
      let f = length-take-le m c enough-c in
      let a = h.sized.long in
      let b = h.sized.few_t in
      let d = h.sized.few_c in
      record {
        sized = record { long = omega arith; few_t = omega arith; few_c = omega arith };
        right = λ k l o. row_cut k ∙ h.right k (omega arith) (ap (among 0) (sym (row_cut k)) ∙ o) ∙ sym (answers_cut k (omega arith));
      }

  pub observed_whole : (r : ℕ) → r ≤ n → Observed x w (take n t) r (take m c) (length (take m c)) tb → Observed x w t r c m tb
  observed_whole r l h =
      let f = length-take-le m c enough-c in
      let d = h.sized.few_c in
      record {
        sized = record { long = h.sized.long; few_t = h.sized.few_t; few_c = omega arith };
        rows = λ k a. sym (row_cut k) ∙ h.rows k a ∙ answers_cut k (omega arith);
      }

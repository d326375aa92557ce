-- A table of which only rows without an unknown answer are trusted: it comes of one that was right before an answer more,
-- or of one whose rows each begin with an unknown answer. A known answer stays where another one is set.
use mathlib.Core.Path.{◌≡◌, refl, sym, ap, ◌∙◌}
use mathlib.Core.Bool.{true, false, true≢false}
use mathlib.Core.List.{List}
use Prim.Native.Nat.{ℕ, zero, suc, ◌+◌, ◌*◌, ◌≤◌, ◌<◌}
use native.Mathlib.Omega.{arith}
use lib.ListN.{length, get_or, set, take}
use lib.Seq.{get_or-set_other}
use Rattle.model.specs.Limits.{most_rules, most_contexts}
use Rattle.model.specs.Base.{among}
use Rattle.model.specs.Store.{Store, filled_row, frames_of}
use Rattle.model.specs.Table.{answer_at, answers_of}
use Rattle.model.proofs.Laws.Turn.{answers_same}
use Rattle.model.proofs.Laws.ReflectLists.{has_back}
use Rattle.table.specs.Answers.{answers_at, Sized, Observed, KnownRows, Forgotten}
use Rattle.table.proofs.Laws.Rows.{row_fits, row_more}

-- FORGOTTEN: no row at first, a row more, and none of them is known then
-- FORGOTTEN: a row that begins with an unknown answer is not known
unknown_first : (tb : List ℕ) (n m k : ℕ) → Sized tb n m → k < n → 0 < m → get_or tb (most_contexts * k) 0 ≡ 0 → among 0 (answers_at tb m k) ≡ true
unfolding among
unknown_first tb n m k z l some e =
    let y : most_contexts * k + 0 ≡ most_contexts * k = omega arith in
    rw (row_more tb m k 0 (row_fits tb n m k z l) some, y, e) refl

pub forgotten_known : (x : Store) (w t : List ℕ) (n : ℕ) (c : List ℕ) (m : ℕ) {tb : List ℕ} → Forgotten n tb → most_contexts * n ≤ length tb → n ≤ most_rules → m ≤ most_contexts → KnownRows x w t n c m tb
forgotten_known x w t n c m {tb} f z a b = record { sized = sized m b; right = right m b }
  where
    sized : (j : ℕ) → j ≤ most_contexts → Sized tb n j
    sized j h = record { long = z; few_t = a; few_c = h }

    right : (j : ℕ) → j ≤ most_contexts → (k : ℕ) → k < n → among 0 (answers_at tb j k) ≡ false → answers_at tb j k ≡ answers_of x w (take j c) (get_or t k 0)
    right zero h k l e = refl
    right (suc j) h k l e =
        absurd (true≢false (sym (unknown_first tb n (suc j) k (sized (suc j) h) l (omega arith) (f.first k l)) ∙ e))

-- A KNOWN ROW is one more of those that are right
-- AN ANSWER MORE, where there was none: rows without an unknown answer stay right
pub answers_known : (x : Store) (w cs : List ℕ) (i v row : ℕ) → answer_at w i ≡ 0 → among 0 (answers_of x w cs row) ≡ false → answers_of x (set w i v) cs row ≡ answers_of x w cs row
answers_known x w cs i v row z e =
    answers_same x x w (set w i v) cs row
    (λ c a. get_or-set_other w i (filled_row x (frames_of x c) row) v 0 (λ p. true≢false (sym (has_back x w 0 cs row (c, a, ap (answer_at w) p ∙ z)) ∙ e)))

pub known_answered : {x : Store} {w t : List ℕ} {n : ℕ} {c : List ℕ} {m : ℕ} {tb : List ℕ} → Observed x w t n c m tb → (i v : ℕ) → answer_at w i ≡ 0 → KnownRows x (set w i v) t n c m tb
known_answered {x} {w} {t} {n} {c} {m} {tb} o i v z =
    record {
      sized = o.sized;
      right = λ k l e. o.rows k l ∙ sym (answers_known x w (take m c) i v (get_or t k 0) z (ap (among 0) (sym (o.rows k l)) ∙ e));
    }

-- The table of answers, row by row: a row's answers put one by one are the row written at once, and a row written is that row alone.
-- Rows are as wide as the most contexts, so a row's answers end before the next row begins.
use mathlib.Core.Path.{◌≡◌, refl, sym, ap, ◌∙◌}
use mathlib.Core.Bool.{Bool, true, false}
use mathlib.Core.List.{List, [], ◌∷◌, ◌++◌}
use Prim.Native.Nat.{ℕ, zero, suc, ◌+◌, ◌*◌, ◌≤◌, ◌<◌}
use native.Mathlib.Omega.{arith}
use native.Mathlib.Numerals.{add-one}
use borrow.Author.Tests.{ltb-true, ltb-false}
use lib.Dec.{ltb}
use lib.ListN.{length, get_or, set, take, drop, length-map, length-set}
use lib.Seq.{sets, sets-eq, length-sets, paste, paste-zero, paste-suc, take-length, get_or-take, get_or-set_same, get_or-set_other, length-take-le, ext_get_or}
use Rattle.model.specs.Limits.{most_rules, most_contexts}
use Rattle.model.specs.Base.{among}
use Rattle.model.specs.Store.{Store}
use Rattle.model.specs.Table.{answer_in, answers_of}
use Rattle.model.proofs.Laws.Tests.{by_equal}
use Rattle.model.proofs.Laws.Lists.{map_at}
use Rattle.table.specs.Answers.{answers_at, Observed, KnownRows}
use Rattle.table.proofs.Laws.Rows.{row_at, row_length}

-- THE ANSWERS of a record at the first m contexts
module _ (x : Store) (w c : List ℕ) (m row : ℕ) (enough : m ≤ length c) where
  pub answers_length : length (answers_of x w (take m c) row) ≡ m
  answers_length = length-map (take m c) (λ (i : ℕ). answer_in x w i row) ∙ length-take-le m c enough

  pub answers_at_law : (j : ℕ) → j < m → get_or (answers_of x w (take m c) row) j 0 ≡ answer_in x w (get_or c j 0) row
  answers_at_law j l =
      map_at (λ (i : ℕ). answer_in x w i row) (take m c) j (omega (arith, length-take-le m c enough)) ∙
      ap (λ (i : ℕ). answer_in x w i row) (get_or-take m c j 0 l)

-- NUMBERS PUT one by one from a place on
module _ (vs tb : List ℕ) (at : ℕ) (fits : at + length vs ≤ length tb) where
  pub put_none : tb ≡ paste tb at vs 0
  put_none = paste-zero tb at vs

  pub put_more : {us : List ℕ} (j v : ℕ) → j < length vs → us ≡ paste tb at vs j → v ≡ get_or vs j 0 → set us (at + j) v ≡ paste tb at vs (j + 1)
  put_more j v l e a = (λ t. set (e t) (at + j) (a t)) ∙ paste-suc tb at vs j 0 (omega arith) l ∙ ap (paste tb at vs) (sym (add-one j))

  pub put_all : {us : List ℕ} (j : ℕ) → j ≡ length vs → us ≡ paste tb at vs j → us ≡ sets tb at vs
  put_all j s e = e ∙ ap (paste tb at vs) s ∙ ap (λ (us : List ℕ). take at tb ++ us ++ drop (at + length vs) tb) (take-length vs) ∙ sym (sets-eq vs tb at fits)

-- A RUN OF STORES, number by number
sets_before : (tb : List ℕ) (at : ℕ) (vs : List ℕ) (j : ℕ) → j < at → get_or (sets tb at vs) j 0 ≡ get_or tb j 0
sets_before tb at [] j l = refl
sets_before tb at (v ∷ vs) j l = sets_before (set tb at v) (suc at) vs j (omega arith) ∙ get_or-set_other tb at j v 0 (λ e. omega arith)

sets_within : (tb : List ℕ) (at : ℕ) (vs : List ℕ) (j : ℕ) → at + length vs ≤ length tb → j < length vs → get_or (sets tb at vs) (at + j) 0 ≡ get_or vs j 0
sets_within tb at [] j h l = absurd (omega arith)
sets_within tb at (v ∷ vs) zero h l =
    let e : at + 0 ≡ at = omega arith in
    ap (λ (i : ℕ). get_or (sets (set tb at v) (suc at) vs) i 0) e ∙ sets_before (set tb at v) (suc at) vs at (omega arith) ∙ get_or-set_same tb at v 0 (omega arith)
sets_within tb at (v ∷ vs) (suc j) h l =
    let e : at + suc j ≡ suc at + j = omega arith in
    ap (λ (i : ℕ). get_or (sets (set tb at v) (suc at) vs) i 0) e ∙ sets_within (set tb at v) (suc at) vs j (rw length-set (omega arith)) (omega arith)

sets_after : (tb : List ℕ) (at : ℕ) (vs : List ℕ) (j : ℕ) → at + length vs ≤ j → get_or (sets tb at vs) j 0 ≡ get_or tb j 0
sets_after tb at [] j l = refl
sets_after tb at (v ∷ vs) j l = sets_after (set tb at v) (suc at) vs j (omega arith) ∙ get_or-set_other tb at j v 0 (λ e. omega arith)

-- A ROW WRITTEN leaves the other rows as they were
module _ (tb : List ℕ) (m k : ℕ) (vs : List ℕ) (long : length vs ≡ m) (few : m ≤ most_contexts) (fits : most_contexts * k + m ≤ length tb) where
  pub row_before : (i : ℕ) → i < k → answers_at (sets tb (most_contexts * k) vs) m i ≡ answers_at tb m i
  row_before i l =
      let a = row_length tb m i (omega arith) in
      let b = row_length (sets tb (most_contexts * k) vs) m i (rw length-sets (omega arith)) in
      ext_get_or 0 (answers_at (sets tb (most_contexts * k) vs) m i) (answers_at tb m i) (b ∙ sym a)
      (λ j q. row_at (sets tb (most_contexts * k) vs) m i j (omega arith) ∙ sets_before tb (most_contexts * k) vs (most_contexts * i + j) (omega arith) ∙ sym (row_at tb m i j (omega arith)))

  pub row_after : (i : ℕ) → k < i → most_contexts * i + m ≤ length tb → answers_at (sets tb (most_contexts * k) vs) m i ≡ answers_at tb m i
  row_after i l h =
      let a = row_length tb m i h in
      let b = row_length (sets tb (most_contexts * k) vs) m i (rw length-sets h) in
      ext_get_or 0 (answers_at (sets tb (most_contexts * k) vs) m i) (answers_at tb m i) (b ∙ sym a)
      (λ j q. row_at (sets tb (most_contexts * k) vs) m i j (omega arith) ∙ sets_after tb (most_contexts * k) vs (most_contexts * i + j) (omega arith) ∙ sym (row_at tb m i j (omega arith)))

  pub row_written : answers_at (sets tb (most_contexts * k) vs) m k ≡ vs
  row_written =
      let b = row_length (sets tb (most_contexts * k) vs) m k (rw length-sets fits) in
      ext_get_or 0 (answers_at (sets tb (most_contexts * k) vs) m k) vs (b ∙ sym long)
      (λ j q. row_at (sets tb (most_contexts * k) vs) m k j (omega arith) ∙ sets_within tb (most_contexts * k) vs j (omega arith) (omega arith))

by_order : {A : Type 0} (i j : ℕ) → (i < j → A) → (i ≡ j → A) → (j < i → A) → A
by_order {A} i j f g h = by_equal i j g (λ d. go (ltb i j) refl d)
  where
    go : (b : Bool) → ltb i j ≡ b → (i ≡ j → ⊥) → A
    go true e d = f (ltb-true i j e)
    go false e d = h (let l = ltb-false i j e in omega arith)

-- OBSERVED: no row at first, and a row more
-- OBSERVED: a row more
pub observed_more : {x : Store} {w t : List ℕ} {k : ℕ} {c : List ℕ} {m : ℕ} {tb : List ℕ} → Observed x w t k c m tb → k < most_rules → most_contexts * k + most_contexts ≤ length tb → m ≤ length c →
    Observed x w t (k + 1) c m (sets tb (most_contexts * k) (answers_of x w (take m c) (get_or t k 0)))
observed_more {x} {w} {t} {k} {c} {m} {tb} o l z h =
    record { sized = record { long = omega (arith, length-sets tb (most_contexts * k) vs); few_t = omega arith; few_c = o.sized.few_c }; rows = rows }
  where
    vs : List ℕ
    vs = answers_of x w (take m c) (get_or t k 0)

    long : length vs ≡ m
    long = answers_length x w c m (get_or t k 0) h

    fits : most_contexts * k + m ≤ length tb
    fits = let b = o.sized.few_c in omega arith

    rows : (i : ℕ) → i < k + 1 → answers_at (sets tb (most_contexts * k) vs) m i ≡ answers_of x w (take m c) (get_or t i 0)
    rows i a =
        by_equal i k (λ e. ap (answers_at (sets tb (most_contexts * k) vs) m) e ∙ row_written tb m k vs long o.sized.few_c fits ∙ ap (λ (j : ℕ). answers_of x w (take m c) (get_or t j 0)) (sym e))
        (λ e. row_before tb m k vs long o.sized.few_c fits i (omega arith) ∙ o.rows i (omega arith))

-- A ROW MORE: it is right, and the other rows are as they were, so those without an unknown answer are right as before
pub known_more : {x : Store} {w t : List ℕ} {n : ℕ} {c : List ℕ} {m : ℕ} {tb : List ℕ} → KnownRows x w t n c m tb → (k : ℕ) → k < n → m ≤ length c →
    KnownRows x w t n c m (sets tb (most_contexts * k) (answers_of x w (take m c) (get_or t k 0)))
known_more {x} {w} {t} {n} {c} {m} {tb} o k l h =
    record { sized = record { long = omega (arith, length-sets tb (most_contexts * k) vs, o.sized.long); few_t = o.sized.few_t; few_c = o.sized.few_c }; right = λ i a e. at i a e }
  where
    vs : List ℕ
    vs = answers_of x w (take m c) (get_or t k 0)

    long : length vs ≡ m
    long = answers_length x w c m (get_or t k 0) h

    fits : (i : ℕ) → i < n → most_contexts * i + m ≤ length tb
    fits i a = let z = o.sized.long in let b = o.sized.few_c in let d = o.sized.few_t in omega arith

    as_before : (i : ℕ) → i < n → answers_at (sets tb (most_contexts * k) vs) m i ≡ answers_at tb m i → among 0 (answers_at (sets tb (most_contexts * k) vs) m i) ≡ false →
        answers_at (sets tb (most_contexts * k) vs) m i ≡ answers_of x w (take m c) (get_or t i 0)
    as_before i a p e = p ∙ o.right i a (ap (among 0) (sym p) ∙ e)

    at : (i : ℕ) → i < n → among 0 (answers_at (sets tb (most_contexts * k) vs) m i) ≡ false → answers_at (sets tb (most_contexts * k) vs) m i ≡ answers_of x w (take m c) (get_or t i 0)
    at i a e =
        by_order i k (λ b. as_before i a (row_before tb m k vs long o.sized.few_c (fits k l) i b) e)
        (λ q. ap (answers_at (sets tb (most_contexts * k) vs) m) q ∙ row_written tb m k vs long o.sized.few_c (fits k l) ∙ ap (λ (j : ℕ). answers_of x w (take m c) (get_or t j 0)) (sym q))
        (λ b. as_before i a (row_after tb m k vs long o.sized.few_c (fits k l) i b (fits i a)) e)

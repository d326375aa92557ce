-- What the table says by places is what model says of the store by rows: the first unknown answer, the state of a transition, the growth of S.
-- Each row of the table is a row of answers (Observed); by induction on the contexts and on T, and by model's laws of renaming.
use mathlib.Core.Path.{◌≡◌, refl, sym, ap, ◌∙◌}
use mathlib.Core.Bool.{Bool, true, false, ◌||◌, cond, true≢false}
use mathlib.Core.List.{List, [], ◌∷◌}
use mathlib.Core.Option as maybe
use mathlib.Core.Option.{none, some}
use Prim.Native.Nat.{ℕ, zero, suc, ◌+◌, ◌≤◌, ◌<◌}
use native.Mathlib.Omega.{arith}
use native.Mathlib.Numerals.{add-one}
use borrow.Author.Tests.{eqb-true, eqb-false, eq-eqb, ne_eqb}
use lib.Dec.{eqb}
use lib.ListN.{length, get_or, take, drop, length-map}
use lib.Seq.{drop-cons, get_or-take, length-take-le, ext_get_or}
use Rattle.std.proofs.Common.{Option, None, Some}
use Rattle.model.specs.Base.{among, Below, none_below, one_below}
use Rattle.model.specs.Sound.{differ_known}
use Rattle.model.specs.Store.{Store}
use Rattle.model.specs.Table.{answer_in, answers_of, any_missing, state_from}
use Rattle.model.specs.Steps.{unknown, seek_in, seek, grow}
use Rattle.model.proofs.Laws.Renamed.{at_below, state_renamed, grow_renamed}
use Rattle.model.proofs.Laws.Lists.{map_at}
use Rattle.table.specs.declared.Gap.{Gap}
use Rattle.table.specs.declared.Places.{Places}
use Rattle.table.specs.Answers.{answers_at, unknown_in, gap_by, gap_from, state_at, places_from, grow_at, grown_by, Observed, Placed, sought_by, is_open, rows_at}

-- PLACES FROM k ON are below their end, and name what is left of T
places_below : (n k count : ℕ) → k + count ≤ n → Below n (places_from k count)
unfolding places_from
places_below n k zero l = none_below
places_below n k (suc i) l = one_below {k = k} (omega arith) (places_below n (suc k) i (omega arith))

places_rows : (t : List ℕ) (k count : ℕ) → k + count ≤ length t → rows_at t (places_from k count) ≡ take count (drop k t)
unfolding places_from
places_rows t k zero l = refl
places_rows t k (suc i) l = rw (drop-cons t k 0 (omega arith), places_rows t (suc k) i (omega arith))

-- A ROW: its first unknown answer is the first unknown one at C
module _ (x : Store) (w t c : List ℕ) (k i : ℕ) (its : get_or t k 0 ≡ i) (next : Option Gap) where
  row_sought : (cs : List ℕ) (j : ℕ) → ((p : ℕ) → p < length cs → get_or cs p 0 ≡ get_or c (j + p) 0) →
      sought_by t c (gap_by k (unknown_in (answers_of x w cs i) j) next) ≡ seek_in x w cs i (sought_by t c next)
  unfolding unknown_in seek_in
  row_sought [] j h = refl
  row_sought (d ∷ cs) j h = go (eqb (answer_in x w d i) 0) (row_sought cs (suc j) later)
    where
      later : (p : ℕ) → p < length cs → get_or cs p 0 ≡ get_or c (suc j + p) 0
      later p l = let e : j + suc p ≡ suc j + p = omega arith in h (suc p) (omega arith) ∙ ap (λ (q : ℕ). get_or c q 0) e

      here : get_or c j 0 ≡ d
      here = let e : j + 0 ≡ j = omega arith in sym (h 0 (omega arith) ∙ ap (λ (q : ℕ). get_or c q 0) e)

      go : (b : Bool) → sought_by t c (gap_by k (unknown_in (answers_of x w cs i) (suc j)) next) ≡ seek_in x w cs i (sought_by t c next) →
          sought_by t c (gap_by k (cond b (some j) (unknown_in (answers_of x w cs i) (suc j))) next) ≡ cond b (unknown d i) (seek_in x w cs i (sought_by t c next))
      go true ih = let a = here in cc
      go false ih = ih

row_open : (vs : List ℕ) (k j : ℕ) (next : Option Gap) → is_open (gap_by k (unknown_in vs j) next) ≡ among 0 vs || is_open next
unfolding unknown_in among
row_open [] k j next = refl
row_open (v ∷ vs) k j next = go (eqb v 0) refl (row_open vs k (suc j) next)
  where
    go : (b : Bool) → eqb v 0 ≡ b → is_open (gap_by k (unknown_in vs (suc j)) next) ≡ among 0 vs || is_open next →
        is_open (gap_by k (cond b (some j) (unknown_in vs (suc j))) next) ≡ (eqb 0 v || among 0 vs) || is_open next
    go true e ih = rw (eq-eqb 0 v (sym (eqb-true v 0 e)))
    go false e ih = rw (ne_eqb 0 v (λ p. eqb-false v 0 e (sym p))) ih

-- an unknown answer in the last row looked through is a gap
or_true : (b : Bool) → b || true ≡ true
or_true true = refl
or_true false = refl

open_at_last : (tb : List ℕ) (m i count : ℕ) → among 0 (answers_at tb m (i + count)) ≡ true → is_open (gap_from tb m i (suc count)) ≡ true
unfolding gap_from
open_at_last tb m i zero e =
    let z : i + 0 ≡ i = omega arith in
    row_open (answers_at tb m i) i 0 None ∙ ap (λ (b : Bool). b || false) (ap (λ (k : ℕ). among 0 (answers_at tb m k)) (sym z) ∙ e)
open_at_last tb m i (suc count) e =
    let z : suc i + count ≡ i + suc count = omega arith in
    row_open (answers_at tb m i) i 0 (gap_from tb m (suc i) (suc count)) ∙
    ap (λ (b : Bool). among 0 (answers_at tb m i) || b) (open_at_last tb m (suc i) count (ap (λ (k : ℕ). among 0 (answers_at tb m k)) z ∙ e)) ∙ or_true (among 0 (answers_at tb m i))

pub gap_at_last : (tb : List ℕ) (m k : ℕ) → among 0 (answers_at tb m k) ≡ true → gap_from tb m 0 (k + 1) ≡ None → ⊥
gap_at_last tb m k e g =
    let z : 0 + k ≡ k = omega arith in
    let o = open_at_last tb m 0 k (ap (λ (j : ℕ). among 0 (answers_at tb m j)) z ∙ e) in
    true≢false (sym o ∙ ap (λ (j : ℕ). is_open (gap_from tb m 0 j)) (sym (add-one k)) ∙ ap is_open g)

module _ {x : Store} {w t : List ℕ} {n : ℕ} {c : List ℕ} {m : ℕ} {tb : List ℕ} (o : Observed x w t n c m tb) where
  abbrev rows : ℕ → List ℕ
  rows i = answers_of x w (take m c) i

  -- TWO ROWS, AND ONE
  pub differ_tied : (a b : ℕ) → a < n → b < n →
      differ_known (answers_at tb m a) (answers_at tb m b) ≡ differ_known (answers_of x w (take m c) (get_or t a 0)) (answers_of x w (take m c) (get_or t b 0))
  differ_tied a b p q = rw (o.rows a p, o.rows b q)

  pub has_tied : (v a : ℕ) → a < n → among v (answers_at tb m a) ≡ among v (answers_of x w (take m c) (get_or t a 0))
  has_tied v a p = rw (o.rows a p)

  pub yes_tied : (a : ℕ) → a < n → among 2 (answers_at tb m a) ≡ among 2 (answers_of x w (take m c) (get_or t a 0))
  yes_tied a p = has_tied 2 a p

  -- THE FIRST UNKNOWN
  gap_tied : (k count : ℕ) → k + count ≤ n → n ≤ length t → m ≤ length c → sought_by t c (gap_from tb m k count) ≡ seek x w (take m c) (take count (drop k t))
  unfolding gap_from seek
  gap_tied k zero l h b = refl
  gap_tied k (suc i) l h b =
      rw (o.rows k (omega arith), drop-cons t k 0 (omega arith))
      (row_sought x w t c k (get_or t k 0) refl (gap_from tb m (suc k) i) (take m c) 0 at ∙ ap (seek_in x w (take m c) (get_or t k 0)) (gap_tied (suc k) i (omega arith) h b))
    where
      at : (p : ℕ) → p < length (take m c) → get_or (take m c) p 0 ≡ get_or c (0 + p) 0
      at p q = let e = length-take-le m c b in let z : p ≡ 0 + p = omega arith in get_or-take m c p 0 (omega arith) ∙ ap (λ (q : ℕ). get_or c q 0) z

  pub sought_tied : n ≤ length t → m ≤ length c → sought_by t c (gap_from tb m 0 n) ≡ seek x w (take m c) (take n t)
  sought_tied h b = gap_tied 0 n (omega arith) h b

  open_tied : (k count : ℕ) → k + count ≤ n → n ≤ length t → is_open (gap_from tb m k count) ≡ any_missing rows (take count (drop k t))
  unfolding gap_from any_missing
  open_tied k zero l h = refl
  open_tied k (suc i) l h =
      rw (o.rows k (omega arith), drop-cons t k 0 (omega arith), row_open (rows (get_or t k 0)) k 0 (gap_from tb m (suc k) i), open_tied (suc k) i (omega arith) h)

  pub missing_tied : n ≤ length t → is_open (gap_from tb m 0 n) ≡ any_missing (answers_of x w (take m c)) (take n t)
  missing_tied h = open_tied 0 n (omega arith) h

  -- STATES AND GROWTH: S by places in T
  module _ (s : List ℕ) (q : ℕ) (ps : List ℕ) (placed : Placed t n s q ps) (l : q ≤ length s) (h : q ≤ length ps) where
    pub placed_below : Below n (take q ps)
    placed_below = at_below n (take q ps) at
      where
        at : (i : ℕ) → i < length (take q ps) → get_or (take q ps) i 0 < n
        at i b = let e = length-take-le q ps h in rw (get_or-take q ps i 0 (omega arith)) (placed i (omega arith)).0

    pub placed_rows : rows_at t (take q ps) ≡ take q s
    placed_rows = ext_get_or 0 (rows_at t (take q ps)) (take q s) (long ∙ sym (length-take-le q s l)) at
      where
        long : length (rows_at t (take q ps)) ≡ q
        long = length-map (take q ps) (λ (p : ℕ). get_or t p 0) ∙ length-take-le q ps h

        at : (i : ℕ) → i < length (rows_at t (take q ps)) → get_or (rows_at t (take q ps)) i 0 ≡ get_or (take q s) i 0
        at i b =
            let e = long in
            let d = length-take-le q ps h in
            let z : i < q = omega arith in
            map_at (λ (p : ℕ). get_or t p 0) (take q ps) i (omega arith) ∙
            ap (λ (p : ℕ). get_or t p 0) (get_or-take q ps i 0 z) ∙ (placed i z).1 ∙ sym (get_or-take q s i 0 z)

    pub state_tied : (k : ℕ) → k < n → state_at tb m (take q ps) k ≡ state_from (answers_of x w (take m c)) (answers_of x w (take m c) (get_or t k 0)) 0 (take q s)
    state_tied k b =
        sym (state_renamed (answers_at tb m) rows (λ (p : ℕ). get_or t p 0) n o.rows (answers_at tb m k) 0 placed_below) ∙
        ap (λ (v : List ℕ). state_from rows v 0 (rows_at t (take q ps))) (o.rows k b) ∙ ap (state_from rows (rows (get_or t k 0)) 0) placed_rows

    pub grow_tied : n ≤ length t → grow (answers_of x w (take m c)) (take q s) (take n t) ≡ maybe.map (rows_at t) (grow_at tb m n (take q ps))
    grow_tied b =
        ap (λ (u : List ℕ). grow rows u (take n t)) (sym placed_rows) ∙
        ap (grow rows (rows_at t (take q ps))) (sym (places_rows t 0 n (omega arith))) ∙
        grow_renamed (answers_at tb m) rows (λ (p : ℕ). get_or t p 0) n o.rows placed_below (places_below n 0 n (omega arith))

    -- as a caller of grow has it: what it hands back, by rows; and its places name them
    pub grown_full : n ≤ length t → grown_by (grow_at tb m n (take q ps)) None → grow (answers_of x w (take m c)) (take q s) (take n t) ≡ none
    grown_full b e = grow_tied b ∙ go (grow_at tb m n (take q ps)) e
      where
        go : (u : maybe.Option (List ℕ)) → grown_by u None → maybe.map (rows_at t) u ≡ none
        go none p = refl
        go (some v) p = absurd p

    pub grown_rows : n ≤ length t → (g : Places) → grown_by (grow_at tb m n (take q ps)) (Some g) →
        grow (answers_of x w (take m c)) (take q s) (take n t) ≡ some (rows_at t (take g.states g.s))
    grown_rows b g e = grow_tied b ∙ go (grow_at tb m n (take q ps)) e
      where
        go : (u : maybe.Option (List ℕ)) → grown_by u (Some g) → maybe.map (rows_at t) u ≡ some (rows_at t (take g.states g.s))
        go none p = cc
        go (some v) p = ap (λ (u : List ℕ). some (rows_at t u)) (sym p.0)

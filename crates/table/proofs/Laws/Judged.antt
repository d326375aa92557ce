-- T5 and T6 by places are model's by rows: representatives that differ, a yes for each transition, one representative with its row.
-- Each row of the table is a row of answers (Observed), and the places name S (Placed); by induction on what is left of T.
use mathlib.Core.Path.{◌≡◌, refl, sym, ap, ◌∙◌}
use mathlib.Core.Bool.{Bool}
use mathlib.Core.List.{List, [], ◌∷◌, map}
use Prim.Native.Nat.{ℕ, zero, suc, ◌+◌, ◌≤◌, ◌<◌}
use native.Mathlib.Omega.{arith}
use lib.Dec.{eqb}
use lib.ListN.{length, get_or, take, drop}
use lib.Seq.{drop-cons}
use Rattle.model.specs.Base.{all, among}
use Rattle.model.specs.Sound.{all_differ, count_same}
use Rattle.model.specs.Store.{Store}
use Rattle.model.specs.Table.{answers_of}
use Rattle.model.proofs.Laws.Lists.{map_below}
use Rattle.table.specs.Answers.{answers_at, places_from, Observed, Placed}
use Rattle.table.proofs.Laws.Tied.{placed_below, placed_rows}

-- a test of every place is one of every member of T
all_places : (f g : ℕ → Bool) (t : List ℕ) (n : ℕ) → n ≤ length t → ((k : ℕ) → k < n → f k ≡ g (get_or t k 0)) → (k i : ℕ) → k + i ≤ n → all f (places_from k i) ≡ all g (take i (drop k t))
unfolding all places_from
all_places f g t n h e k zero l = refl
all_places f g t n h e k (suc i) l = rw (drop-cons t k 0 (omega arith), e k (omega arith), all_places f g t n h e (suc k) i (omega arith))

map_twice : (f : ℕ → List ℕ) (g : ℕ → ℕ) (ks : List ℕ) → map f (map g ks) ≡ map (λ (k : ℕ). f (g k)) ks
map_twice f g [] = refl
map_twice f g (k ∷ ks) = ap (λ (vs : List (List ℕ)). f (g k) ∷ vs) (map_twice f g ks)

module _ {x : Store} {w t : List ℕ} {n : ℕ} {c : List ℕ} {m : ℕ} {tb : List ℕ} (o : Observed x w t n c m tb) (h : n ≤ length t) where
  pub yes_tied : all (λ (k : ℕ). among 2 (answers_at tb m k)) (places_from 0 n) ≡ all (λ (i : ℕ). among 2 (answers_of x w (take m c) i)) (take n t)
  yes_tied = all_places (λ (k : ℕ). among 2 (answers_at tb m k)) (λ (i : ℕ). among 2 (answers_of x w (take m c) i)) t n h (λ k l. ap (among 2) (o.rows k l)) 0 n (omega arith)

  module _ (s : List ℕ) (q : ℕ) (ps : List ℕ) (placed : Placed t n s q ps) (l : q ≤ length s) (b : q ≤ length ps) where
    reps_rows : map (answers_at tb m) (take q ps) ≡ map (answers_of x w (take m c)) (take q s)
    reps_rows =
        map_below (answers_at tb m) (λ (p : ℕ). answers_of x w (take m c) (get_or t p 0)) n o.rows (placed_below o s q ps placed l b) ∙
        sym (map_twice (answers_of x w (take m c)) (λ (p : ℕ). get_or t p 0) (take q ps)) ∙ ap (map (answers_of x w (take m c))) (placed_rows o s q ps placed l b)

    pub differ_tied : all_differ (map (answers_at tb m) (take q ps)) ≡ all_differ (map (answers_of x w (take m c)) (take q s))
    differ_tied = ap all_differ reps_rows

    pub once_tied : all (λ (k : ℕ). eqb (count_same (answers_at tb m k) (map (answers_at tb m) (take q ps))) 1) (places_from 0 n) ≡
        all (λ (i : ℕ). eqb (count_same (answers_of x w (take m c) i) (map (answers_of x w (take m c)) (take q s))) 1) (take n t)
    once_tied =
        all_places (λ (k : ℕ). eqb (count_same (answers_at tb m k) (map (answers_at tb m) (take q ps))) 1)
        (λ (i : ℕ). eqb (count_same (answers_of x w (take m c) i) (map (answers_of x w (take m c)) (take q s))) 1) t n h (λ k z. rw (o.rows k z, reps_rows)) 0 n (omega arith)

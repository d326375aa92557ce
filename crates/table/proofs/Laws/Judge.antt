-- T5 and T6 by places: a test of each transition, of the representatives that are left, and how many of them have a row.
-- By induction on what is left, at the places taken apart by the laws of Growth.
use Rattle.std.proofs.Common.{◌≡◌, refl, ap, ℕ, zero, suc, ◌+◌, ◌-◌, ◌≤◌, ◌<◌, Bool, true, false, ◌&&◌, List, [], ◌∷◌, map, length, get_or, take, drop, drop-cons, length-drop, add-one, arith}
use Rattle.std.proofs.Math.ListN.{drop_of_length-le}
use Rattle.std.proofs.Math.Seq.{length-take-le, get_or-take, get_or-drop}
use Rattle.std.proofs.lemmas.List.{get_or_default}
use Rattle.std.specs.List.{list_all, range_with_len}
use Rattle.model.specs.Base.{all, count_true, same}
use Rattle.model.specs.Sound.{differ_known, all_differ, count_same}
use Rattle.table.specs.Answers.{places_from}
use Rattle.table.proofs.Laws.Growth.{left, left_none}

-- EVERY TRANSITION from k on
pub all_places : (f : ℕ → Bool) (k n : ℕ) → list_all f (range_with_len k n) ≡ all f (places_from k n)
unfolding all places_from
all_places f k zero = refl
all_places f k (suc n) = ap (λ (b : Bool). f k && b) (rw (add-one k) (all_places f (suc k) n))

-- REPRESENTATIVES: a test of the row of each
pub all_rows : (f : List ℕ → Bool) (r : ℕ → List ℕ) (ps : List ℕ) → list_all (λ (p : ℕ). f (r p)) ps ≡ all f (map r ps)
unfolding all
all_rows f r [] = refl
all_rows f r (p ∷ ps) = ap (λ (b : Bool). f (r p) && b) (all_rows f r ps)

-- a place of one from a place on is one of the table
pub place_within : (rules n : ℕ) (ps : List ℕ) → n ≤ length ps → ((i : ℕ) → i < n → get_or ps i 0 < rules) →
    (from k p : ℕ) → k < length (take (n - from) (drop from ps)) → p ≡ get_or (take (n - from) (drop from ps)) k p → p < rules
place_within rules n ps h w from k p l e =
    let d = length-drop from ps in
    let b = length-take-le (n - from) (drop from ps) (omega arith) in
    let m : from + k < n = omega arith in
    omega (arith, e, get_or-take (n - from) (drop from ps) k p (omega arith), get_or-drop from ps k p, get_or_default ps (from + k) p 0 (omega arith), w (from + k) m)

-- each two differ, from q on
pub differ_each : (r : ℕ → List ℕ) (n : ℕ) (ps : List ℕ) → n ≤ length ps → (q k : ℕ) → q + k ≡ n →
    list_all (λ (i : ℕ). all (differ_known (r (get_or ps i 0))) (map r (drop (i + 1) (take n ps)))) (range_with_len q k) ≡ all_differ (map r (drop q (take n ps)))
unfolding all_differ
differ_each r n ps h q zero e = rw (left_none n ps h q (omega arith)) refl
differ_each r n ps h q (suc k) e =
    rw (left n ps h q (omega arith))
    (ap (λ (b : Bool). all (differ_known (r (get_or ps q 0))) (map r (drop (q + 1) (take n ps))) && b) (differ_each r n ps h (q + 1) k (omega arith)))

-- how many have a row, from i on
module _ (v : List ℕ) (r : ℕ → List ℕ) (ps : List ℕ) (i : ℕ) where
  pub count_hit : (b : Bool) → i < length ps → b ≡ same v (r (get_or ps i 0)) → b ≡ true → count_same v (map r (drop i ps)) ≡ 1 + count_same v (map r (drop (i + 1) ps))
  unfolding count_true
  count_hit b l e t = rw (drop-cons ps i 0 l, ← e, t, add-one i)

  pub count_pass : (b : Bool) → i < length ps → b ≡ same v (r (get_or ps i 0)) → b ≡ false → count_same v (map r (drop i ps)) ≡ count_same v (map r (drop (i + 1) ps))
  unfolding count_true
  count_pass b l e t = rw (drop-cons ps i 0 l, ← e, t, add-one i) (omega arith)

  pub count_end : length ps ≤ i → count_same v (map r (drop i ps)) ≡ 0
  unfolding count_true
  count_end l = rw (drop_of_length-le ps {i = i} l)

-- A transition over lent words: its row is a used one beyond the hole, its children and its representative are states and have places below 32.
-- By T2 and T3 as a run needs them.
use mathlib.Core.Bool.{Bool, true, false, cond}
use mathlib.Core.Path.{◌≡◌, ap, ◌∙◌}
use mathlib.Core.List.{List, [], ◌∷◌}
use Prim.Native.Nat.{ℕ, suc, ◌+◌, ◌≤◌, ◌<◌}
use native.Mathlib.Omega.{arith}
use lib.Dec.{eqb}
use lib.ListN.{length, get_or}
use Rattle.model.specs.Limits.{most_states}
use Rattle.model.specs.Base.{In, place_of}
use Rattle.model.specs.Store.{Store, kids_at}
use Rattle.model.specs.Entry.{store_of}
use Rattle.model.proofs.Laws.Lists.{at_place, each_at, place_within}
use Rattle.bank.specs.Rows.{symbol_in, kid_in}
use Rattle.bank.proofs.Laws.Words.{used_of}
use Rattle.bank.specs.Bank.{Stored}
use Rattle.table_verdict.specs.Rules.{Ruled}
use Rattle.bank.proofs.Laws.Children.{row_known, row_few, row_early, row_kid, count_kids}
use Rattle.call_emit.specs.Proposal.{Transition}

-- a place is within the list or just behind it
pub place_most : (k n : ℕ) (ss : List ℕ) → place_of k n ss ≤ n + length ss
unfolding place_of
place_most k n [] = omega arith
place_most k n (s ∷ ss) = go (place_most k (suc n) ss) (eqb k s)
  where
    go : place_of k (suc n) ss ≤ suc n + length ss → (b : Bool) → cond b n (place_of k (suc n) ss) ≤ n + length (s ∷ ss)
    go h true = omega arith
    go h false = omega arith

-- each member of T is one
pub transition_of : {x : Store} {s t reps : List ℕ} → Ruled x s t reps → (k : ℕ) → k < length t → Transition x s reps (get_or t k 0)
transition_of {t = t} d k h =
    let i : ℕ = get_or t k 0 in
    let m = at_place t k h in
    record { some = (d.row i m).0; within = (d.row i m).1; kids = d.kids i m; target = d.covered i m }

module _ {ws ns : List ℕ} {u : ℕ} (r : Stored ws ns u) {s reps : List ℕ} (few : length s ≤ most_states) {i : ℕ} (d : Transition (store_of ws ns u) s reps i) where
  pub row_used : i < u
  row_used = omega (arith, d.within, used_of ws ns u)

  pub symbol_small : symbol_in ws i < 256
  symbol_small = omega (arith, row_known r i row_used d.some, r.good.letters)

  place_small : (j : ℕ) → In j s → place_of j 0 s < most_states
  place_small j m = omega (arith, place_within j 0 s m)

  pub kid_place : (j : ℕ) → j < length (kids_at (store_of ws ns u) i) → place_of (get_or (kids_at (store_of ws ns u) i) j 0) 0 s < most_states
  kid_place j l =
      let k : ℕ = get_or (kids_at (store_of ws ns u) i) j 0 in
      place_small k (each_at d.kids k (at_place (kids_at (store_of ws ns u) i) j l))

  pub target_place : place_of (get_or reps i 0) 0 s < most_states
  target_place = place_small (get_or reps i 0) d.target

  -- as many children as the symbol has
  pub count_is : (a : ℕ) → a ≡ symbol_in ws i → get_or ns a 0 ≡ length (kids_at (store_of ws ns u) i)
  count_is a e = ap (λ (b : ℕ). get_or ns b 0) e ∙ count_kids r i row_used

  pub count_few : length (kids_at (store_of ws ns u) i) ≤ 4
  count_few = row_few r i row_used d.some

  -- the word of a child
  pub word_early : (j k : ℕ) → j < length (kids_at (store_of ws ns u) i) → k ≡ kid_in ws i j → k < u
  word_early j k l e = omega (arith, row_used, row_kid r i row_used d.some j l, row_early r i row_used d.some j l)

  pub word_place : (j k : ℕ) → j < length (kids_at (store_of ws ns u) i) → k ≡ kid_in ws i j → place_of k 0 s ≡ place_of (get_or (kids_at (store_of ws ns u) i) j 0) 0 s
  word_place j k l e = ap (λ (n : ℕ). place_of n 0 s) (e ∙ row_kid r i row_used d.some j l)

-- What the array says, by S: a row is its own representative if it is in S, so the way down of each row, its spot and the row after the exchange are those of the definitions.
-- Children are earlier rows, so properties that agree on the used rows lead the same way down.
use mathlib.Core.Path.{◌≡◌, refl, ap, ◌∙◌}
use mathlib.Core.Bool.{Bool, cond, not}
use mathlib.Core.List.{List, []}
use Prim.Native.Nat.{ℕ, zero, suc, ◌+◌, ◌≤◌, ◌<◌}
use native.Mathlib.Omega.{arith}
use lib.ListN.{get_or}
use Rattle.model.specs.Limits.{most_rows}
use Rattle.model.specs.Base.{Below, none_below, one_below, among, sum}
use Rattle.model.specs.Store.{Store, Split, Spot, nowhere, there, push, split_at, used, symbol_at, kids_at, frame, under, down_by, down_from, filled_row, fold_from, fold, outside, spot_of}
use Rattle.model.specs.Facts.{Good}
use Rattle.model.specs.Entry.{store_of}
use Rattle.model.proofs.Laws.Lists.{map_below, below_split}
use Rattle.model.proofs.Laws.Fold.{earlier}
use Rattle.model.proofs.Laws.Down.{Splits, no_one, at_one, split_is}
use Rattle.bank.specs.Bank.{place_code, one_further}
use Rattle.bank.proofs.Laws.Words.{used_of}
use Rattle.step_search.specs.Spots.{Noted, own_rep, not_own, spot_by, TurnsBy, DescendedBy, Descended}
use Rattle.step_search.proofs.Laws.Reps.{own_among}

-- TWO PROPERTIES that agree on the rows below m
module _ (p q : ℕ → Bool) (m : ℕ) (agree : (k : ℕ) → k < m → p k ≡ q k) where
  place_same : {i : ℕ} {ks : List ℕ} → Below i ks → i ≤ m → place_code p ks ≡ place_code q ks
  unfolding place_code
  place_same none_below l = refl
  place_same (one_below {k = k} u b) l = λ t. cond (agree k (omega arith) t) 1 (one_further (place_same b l t))

  split_same : {i : ℕ} {ks : List ℕ} → Below i ks → i ≤ m → split_at p ks ≡ split_at q ks
  unfolding split_at
  split_same none_below l = refl
  split_same (one_below {k = k} {ks = ks} u b) l = λ t. cond (agree k (omega arith) t) (there [] k ks) (push k (split_same b l t))

  down_same : (x : Store) → Good x → used x ≤ m → (n i : ℕ) → i < used x → down_from p n x i ≡ down_from q n x i
  unfolding down_from
  down_same x g l zero i u = refl
  down_same x g l (suc n) i u =
      ap (down_by (down_from p n x) i (symbol_at x i)) (split_same (earlier x g i u) (omega arith)) ∙
      go (λ k b. down_same x g l n k (omega arith)) (kids_at x i) (earlier x g i u) (split_at q (kids_at x i)) (split_is q (kids_at x i))
    where
      go : ((k : ℕ) → k < i → down_from p n x k ≡ down_from q n x k) → (ks : List ℕ) → Below i ks → (s : Split) → Splits q ks s →
          down_by (down_from p n x) i (symbol_at x i) s ≡ down_by (down_from q n x) i (symbol_at x i) s
      go ih ks b nowhere (no_one h) = refl
      go ih ks b (there bs k cs) (at_one h t) = ap (under (frame (symbol_at x i) bs cs)) (ih k (below_split i bs k cs b).1)

  -- occurrences without the property
  abbrev weigh : (ℕ → Bool) → ℕ → ℕ → List ℕ → ℕ
  weigh o j a ns = cond (o j) 0 1 + sum ns

  weight_same : (x : Store) → Good x → used x ≤ m → (n i : ℕ) → i < used x → fold_from (weigh p) 0 n x i ≡ fold_from (weigh q) 0 n x i
  unfolding fold_from
  weight_same x g l zero i u = refl
  weight_same x g l (suc n) i u =
      let e = map_below (fold_from (weigh p) 0 n x) (fold_from (weigh q) 0 n x) i (λ k b. weight_same x g l n k (omega arith)) (earlier x g i u) in
      λ t. cond (agree i (omega arith) t) 0 1 + sum (e t)

-- occurrences of rows that are not their own representatives, counted in the unfolded row
abbrev pub outside_own : (reps : List ℕ) → Store → (row : ℕ) → ℕ
outside_own reps x i = fold (λ (j a : ℕ) (ns : List ℕ). cond (own_rep reps j) 0 1 + sum ns) 0 x i

-- BY S
module _ {x : Store} {w s t cs reps : List ℕ} (f : Noted x w s t cs reps) (l : used x ≤ most_rows) where
  strange : (k : ℕ) → k < most_rows → not_own reps k ≡ not (among k s)
  strange k u = ap not (own_among f k u)

  spot_among : (i : ℕ) → i < used x → spot_by reps x i ≡ spot_of s x i
  spot_among i u = down_same (not_own reps) (λ (k : ℕ). not (among k s)) most_rows strange x f.full.good l (suc i) i u

  pub outside_among : (i : ℕ) → i < used x → outside_own reps x i ≡ outside s x i
  outside_among i u = weight_same (own_rep reps) (λ (k : ℕ). among k s) most_rows (own_among f) x f.full.good l (suc i) i u

  module _ {at ex : List ℕ} {n : ℕ} (v : n ≤ used x) where
    pub turns_among : TurnsBy (not_own reps) reps x at ex n → TurnsBy (λ (k : ℕ). not (among k s)) reps x at ex n
    turns_among d =
        record {
          at_long = d.at_long;
          exchanged_long = d.exchanged_long;
          at_is = λ i u. d.at_is i u ∙ ap (λ (p : Spot). p.row) (spot_among i (omega arith));
          exchanged_is = λ i u. d.exchanged_is i u ∙ ap (λ (p : Spot). filled_row x p.around (get_or reps p.row 0)) (spot_among i (omega arith));
        }

    descended_among : {ds : List ℕ} → DescendedBy (not_own reps) reps x ds at ex n → Descended s reps x ds at ex n
    descended_among d =
        record {
          down_long = d.down_long;
          down_is = λ i u. d.down_is i u ∙ place_same (not_own reps) (λ (k : ℕ). not (among k s)) most_rows strange (earlier x f.full.good i (omega arith)) (omega arith);
          turns = turns_among d.turns;
        }

-- by the words
pub descended_rows : (ws ns : List ℕ) (n : ℕ) {w s t cs reps ds at ex : List ℕ} → n ≤ most_rows → Noted (store_of ws ns n) w s t cs reps →
    DescendedBy (not_own reps) reps (store_of ws ns n) ds at ex n → Descended s reps (store_of ws ns n) ds at ex n
descended_rows ws ns n l f d = let u = used_of ws ns n in descended_among f (omega arith) (omega arith) d

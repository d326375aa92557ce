-- What becomes of a row, from what becomes of an earlier one; and the arrays of all rows, one row further.
-- The spot of a row without a child that has the property is the row itself; any other row's is that of its first such child, under one more frame.
use mathlib.Core.Path.{◌≡◌, refl, sym, ap, subst, ◌∙◌}
use mathlib.Core.Bool.{Bool}
use mathlib.Core.List.{List}
use Prim.Native.Nat.{ℕ, suc, ◌+◌, ◌≤◌, ◌<◌}
use native.Mathlib.Omega.{arith}
use native.Mathlib.Decide.{ℕ_discrete}
use lib.ListN.{length, get_or, set, length-set}
use lib.Seq.{get_or-set_same, get_or-set_other}
use Rattle.model.specs.Base.{Below, none_below, one_below}
use Rattle.model.specs.Store.{Store, Spot, used, kids_at, filled_row, next_row, down}
use Rattle.model.specs.Facts.{Good}
use Rattle.model.specs.Entry.{store_of}
use Rattle.model.proofs.Laws.Fold.{earlier}
use Rattle.bank.specs.Rows.{kid_in}
use Rattle.bank.specs.Bank.{Bank, place_code, frame_at}
use Rattle.bank.proofs.Laws.Words.{used_of}
use Rattle.bank.proofs.Laws.Children.{bank_stored, row_used, row_kid, word_early}
use Rattle.bank.proofs.Laws.Down.{step_none, step_some}
use Rattle.step_search.specs.Spots.{exchanged_by, TurnsBy, DescendedBy}

-- ONE ROW
pub record TurnIs (p : ℕ → Bool) (reps : List ℕ) (x : Store) (i spot row : ℕ) : Type 0 where
  pub spot_is : spot ≡ (down p x i).row
  pub row_is : row ≡ exchanged_by p reps x i

module _ (p : ℕ → Bool) (reps : List ℕ) (x : Store) (g : Good x) (i : ℕ) where
  abbrev became : Spot → ℕ
  became s = filled_row x s.around (get_or reps s.row 0)

  pub turn_itself : place_code p (kids_at x i) ≡ 0 → TurnIs p reps x i i (get_or reps i 0)
  unfolding filled_row
  turn_itself e =
      let d = step_none p x g i e in
      record { spot_is = ap (λ (s : Spot). s.row) (sym d); row_is = ap became (sym d) }

  turn_inner : (k : ℕ) → i < used x → place_code p (kids_at x i) ≡ suc k → (spot row : ℕ) → TurnIs p reps x (get_or (kids_at x i) k 0) spot row → TurnIs p reps x i spot (next_row x (frame_at x i k) row)
  unfolding filled_row
  turn_inner k u e spot row t =
      let d = (step_some p x g i k u e).is_under in
      record { spot_is = t.spot_is ∙ ap (λ (s : Spot). s.row) (sym d); row_is = ap (next_row x (frame_at x i k)) t.row_is ∙ ap became (sym d) }

-- by the words: a code other than 0 names a place that the row has, and the child there has its turn already
module _ {ws ns : List ℕ} {n : ℕ} {ix : List ℕ} (r : Bank ws ns n ix) (p : ℕ → Bool) (i : ℕ) (u : 0 < i) (l : i < n)
    (k : ℕ) (e : k + 1 ≡ place_code p (kids_at (store_of ws ns n) i)) where
  names : place_code p (kids_at (store_of ws ns n) i) ≡ suc k
  names = omega arith

  pub place_has : k < length (kids_at (store_of ws ns n) i)
  place_has = (step_some p (store_of ws ns n) r.good i k (row_used (bank_stored r) i l) names).within

  pub turn_above : {reps at ex : List ℕ} → TurnsBy p reps (store_of ws ns n) at ex i → (kid : ℕ) → kid ≡ kid_in ws i k → (row : ℕ) →
      row ≡ next_row (store_of ws ns n) (frame_at (store_of ws ns n) i k) (get_or ex kid 0) → TurnIs p reps (store_of ws ns n) i (get_or at kid 0) row
  turn_above {reps} {at} {ex} d kid q row v =
      let b = word_early (bank_stored r) i l u k place_has in
      let w : kid ≡ get_or (kids_at (store_of ws ns n) i) k 0 = q ∙ row_kid (bank_stored r) i l u k place_has in
      let t : TurnIs p reps (store_of ws ns n) kid (get_or at kid 0) (get_or ex kid 0) = record { spot_is = d.at_is kid (omega arith); row_is = d.exchanged_is kid (omega arith) } in
      let c = turn_inner p reps (store_of ws ns n) r.good i k (row_used (bank_stored r) i l) names (get_or at kid 0) (get_or ex kid 0)
      (subst (λ (j : ℕ). TurnIs p reps (store_of ws ns n) j (get_or at kid 0) (get_or ex kid 0)) w t) in
      record { spot_is = c.spot_is; row_is = v ∙ c.row_is }

-- ALL ROWS: an entry for each
module _ (ws ns : List ℕ) (n : ℕ) {p : ℕ → Bool} {reps at ex : List ℕ} {i : ℕ} where
  pub at_rows : TurnsBy p reps (store_of ws ns n) at ex i → n ≤ length at
  at_rows d = omega (arith, used_of ws ns n, d.at_long)

  pub exchanged_rows : TurnsBy p reps (store_of ws ns n) at ex i → n ≤ length ex
  exchanged_rows d = omega (arith, used_of ws ns n, d.exchanged_long)

  pub down_rows : {ds : List ℕ} → DescendedBy p reps (store_of ws ns n) ds at ex i → n ≤ length ds
  down_rows d = omega (arith, used_of ws ns n, d.down_long)

-- one further
set_more : {f : ℕ → ℕ} (vs : List ℕ) (n v : ℕ) → n < length vs → v ≡ f n → ((i : ℕ) → i < n → get_or vs i 0 ≡ f i) → (i : ℕ) → i < n + 1 → get_or (set vs n v) i 0 ≡ f i
set_more {f} vs n v l e h i u = go (ℕ_discrete i n)
  where
    go : Dec (i ≡ n) → get_or (set vs n v) i 0 ≡ f i
    go (yes q) = ap (λ (j : ℕ). get_or (set vs n v) j 0) q ∙ get_or-set_same vs n v 0 l ∙ e ∙ ap f (sym q)
    go (no q) = get_or-set_other vs n i v 0 q ∙ h i (omega arith)

no_kids : {ks : List ℕ} → Below 0 ks → (p : ℕ → Bool) → place_code p ks ≡ 0
unfolding place_code
no_kids none_below p = refl
no_kids (one_below l b) p = absurd (omega arith)

module _ {p : ℕ → Bool} {reps : List ℕ} {x : Store} {ds at ex : List ℕ} where
  pub descended_more : {n : ℕ} (code spot row : ℕ) → n < used x → DescendedBy p reps x ds at ex n → code ≡ place_code p (kids_at x n) → TurnIs p reps x n spot row →
      DescendedBy p reps x (set ds n code) (set at n spot) (set ex n row) (n + 1)
  descended_more {n} code spot row l d e t =
      record {
        down_long = rw length-set d.down_long;
        down_is = set_more {f = λ i. place_code p (kids_at x i)} ds n code (omega (arith, d.down_long)) e d.down_is;
        turns =
            record {
              at_long = rw length-set d.turns.at_long;
              exchanged_long = rw length-set d.turns.exchanged_long;
              at_is = set_more {f = λ i. (down p x i).row} at n spot (omega (arith, d.turns.at_long)) t.spot_is d.turns.at_is;
              exchanged_is = set_more {f = exchanged_by p reps x} ex n row (omega (arith, d.turns.exchanged_long)) t.row_is d.turns.exchanged_is;
            };
      }

  pub descended_fewer : {n m : ℕ} → m ≤ n → DescendedBy p reps x ds at ex n → DescendedBy p reps x ds at ex m
  descended_fewer l d =
      record {
        down_long = d.down_long;
        down_is = λ i u. d.down_is i (omega arith);
        turns =
            record {
              at_long = d.turns.at_long;
              exchanged_long = d.turns.exchanged_long;
              at_is = λ i u. d.turns.at_is i (omega arith);
              exchanged_is = λ i u. d.turns.exchanged_is i (omega arith);
            };
      }

-- row 0 has no children and no representative
pub descended_hole : {p : ℕ → Bool} {reps : List ℕ} {x : Store} → Good x → get_or reps 0 0 ≡ 0 → (ds at ex : List ℕ) → used x ≤ length ds → used x ≤ length at → used x ≤ length ex →
    DescendedBy p reps x (set ds 0 0) (set at 0 0) (set ex 0 0) 1
descended_hole {p} {reps} {x} g z ds at ex a b c =
    let e = no_kids (earlier x g 0 g.start) p in
    let v = turn_itself p reps x g 0 e in
    descended_more {ds = ds} {at = at} {ex = ex} {n = 0} 0 0 0 g.start
    (record {
      down_long = a;
      down_is = λ i l. absurd (omega arith);
      turns = record { at_long = b; exchanged_long = c; at_is = λ i l. absurd (omega arith); exchanged_is = λ i l. absurd (omega arith) };
    })
    (sym e) (record { spot_is = v.spot_is; row_is = sym z ∙ v.row_is })

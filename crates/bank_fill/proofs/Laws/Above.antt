-- A row with one child replaced: its places are asked for as `row_for` needs them, and its hole is at that place or nowhere.
-- The frame around the place fits, so the other children have no hole; marks say whether the new child has one.
use mathlib.Core.Path.{◌≡◌, refl, sym, ap, subst, ◌∙◌}
use mathlib.Core.Bool.{Bool, true, false, cond}
use mathlib.Core.List.{List, ◌∷◌, ◌++◌}
use Prim.Native.Nat.{ℕ, suc, ◌-◌, ◌<◌}
use native.Mathlib.Omega.{arith}
use lib.Dec.{ltb}
use borrow.Author.Tests.{ltb-true, ltb-false}
use lib.ListN.{length, get_or, take, drop, set, replicate, length-set}
use lib.Seq.{take_all, take-set-lt, set_split, set-append_left, length-take-le}
use Rattle.model.specs.Limits.{hole_symbol}
use Rattle.model.specs.Store.{Node, Store, padded, used, node_at, symbol_at, count_of, kids_at, has_hole, filled_kids, row_for}
use Rattle.model.specs.Facts.{Good, GoodRow, FrameFits, RowAsked, None, none_nil, none_cons}
use Rattle.model.specs.Entry.{store_of}
use Rattle.model.proofs.Laws.Fill.{frame_asks}
use Rattle.model.proofs.Laws.Down.{clear_none}
use Rattle.model.proofs.Laws.Tests.{by_equal}
use Rattle.bank.specs.Rows.{symbol_in, places_in}
use Rattle.bank.specs.Bank.{place_code, one_further, Bank, frame_at}
use Rattle.bank.proofs.Laws.Words.{used_of, symbol_in_law, places_in_law}
use Rattle.bank_t1.proofs.Laws.T1.{hole_ready}
use Rattle.std.specs.Prelude.{Option}
use Rattle.bank_fill.specs.declared.add.Added.{Added}
use Rattle.bank_fill.specs.Adding.{kids_of, PlacesAsked, hole_above, Put}
use Rattle.bank_fill.proofs.Laws.Coming.{Comes, comes_by}
use Rattle.bank_fill.proofs.Laws.Adding.{put_comes}

-- THE PLACE of the first child with a property
pub place_none : (p : ℕ → Bool) {ks : List ℕ} → None p ks → place_code p ks ≡ 0
unfolding place_code
place_none p none_nil = refl
place_none p (none_cons e n) = rw (e, place_none p n)

pub place_filled : (p : ℕ → Bool) {bs : List ℕ} (j : ℕ) {cs : List ℕ} → None p bs → None p cs → place_code p (bs ++ (j ∷ cs)) ≡ cond (p j) (suc (length bs)) 0
unfolding place_code
place_filled p j none_nil c = rw (place_none p c)
place_filled p j (none_cons {ks = bs} e n) c = rw (e, place_filled p j n c) (go (p j))
  where
    go : (b : Bool) → one_further (cond b (suc (length bs)) 0) ≡ cond b (suc (suc (length bs))) 0
    go true = refl
    go false = refl

-- A FRAME THAT FITS is around a place that the row has
module _ (x : Store) (g : Good x) (i k : ℕ) (u : i < used x) (q : FrameFits x (frame_at x i k)) where
  pub frame_some : 0 < i
  frame_some = by_equal i 0 (λ e. let a : symbol_at x i ≡ hole_symbol = ap (symbol_at x) e ∙ ap (λ (r : Node). r.symbol) g.first in let b = q.known in let c = g.letters in omega arith) (λ e. omega arith)

  row : GoodRow x i
  row = g.row i frame_some u

  pub frame_place : k < length (kids_at x i)
  frame_place = go (ltb k (length (kids_at x i))) refl
    where
      go : (b : Bool) → ltb k (length (kids_at x i)) ≡ b → k < length (kids_at x i)
      go true e = ltb-true k (length (kids_at x i)) e
      go false e =
          let a = ltb-false k (length (kids_at x i)) e in
          let c = ap length (take_all k (kids_at x i) a) in
          let d = q.arity in
          let f = row.arity in
          absurd (omega arith)

  pub frame_four : k < 4
  frame_four = let a = frame_place in let b = row.arity in let c = g.wide (symbol_at x i) in omega arith

  -- the row's children with the one at the place replaced
  pub frame_set : (j : ℕ) → set (kids_at x i) k j ≡ filled_kids (frame_at x i k) j
  frame_set j = set_split (kids_at x i) k j frame_place

  places_set : (j : ℕ) → set (node_at x i).kids k j ≡ padded (set (kids_at x i) k j)
  places_set j =
      ap (λ (l : List ℕ). set l k j) row.places ∙ set-append_left (kids_at x i) (replicate (4 - length (kids_at x i)) 0) k j frame_place ∙
      ap (λ (c : ℕ). set (kids_at x i) k j ++ replicate (4 - c) 0) (sym (length-set (kids_at x i) k j))

  kids_set : (j : ℕ) → take (count_of x (symbol_at x i)) (set (node_at x i).kids k j) ≡ set (kids_at x i) k j
  kids_set j = take-set-lt (count_of x (symbol_at x i)) (node_at x i).kids k j (let a = frame_place in let b = row.arity in omega arith)

  -- its hole
  pub frame_hole : (j : ℕ) → place_code (has_hole x) (filled_kids (frame_at x i k) j) ≡ cond (has_hole x j) (suc k) 0
  frame_hole j =
      place_filled (has_hole x) j (clear_none x (take k (kids_at x i)) q.clear.0) (clear_none x (drop (suc k) (kids_at x i)) q.clear.1) ∙
      ap (λ (l : ℕ). cond (has_hole x j) (suc l) 0) (length-take-le k (kids_at x i) (let a = frame_place in omega arith))

-- THE ROW PUT in its place
module _ {ws ns : List ℕ} {n : ℕ} {xs : List ℕ} (r : Bank ws ns n xs) (i k j : ℕ) (l : i < n) (v : j < n) (q : FrameFits (store_of ws ns n) (frame_at (store_of ws ns n) i k)) where
  abbrev x : Store
  x = store_of ws ns n

  u : i < used (store_of ws ns n)
  u = omega (arith, used_of ws ns n)

  sym_in : symbol_at (store_of ws ns n) i ≡ symbol_in ws i
  sym_in = symbol_in_law ws ns n i l

  pl_in : (node_at (store_of ws ns n) i).kids ≡ places_in ws i
  pl_in = places_in_law ws ns n i l r.finding.room

  pub above_kids : kids_of ns (symbol_in ws i) (set (places_in ws i) k j) ≡ filled_kids (frame_at (store_of ws ns n) i k) j
  above_kids = (λ t. take (get_or ns (sym sym_in t) 0) (set (sym pl_in t) k j)) ∙ kids_set x r.good i k u q j ∙ frame_set x r.good i k u q j

  pub above_asks : PlacesAsked (store_of ws ns n) (symbol_in ws i) (set (places_in ws i) k j) (hole_above xs j k)
  above_asks =
      let f = frame_asks x r.good (frame_at x i k) q j (omega (arith, used_of ws ns n)) in
      record {
        four = length-set (places_in ws i) k j;
        asked = subst (λ (ks : List ℕ). RowAsked x (symbol_in ws i) ks) (sym above_kids) (subst (λ (a : ℕ). RowAsked x a (filled_kids (frame_at x i k) j)) sym_in f);
        unused = ap (λ (l : List ℕ). set l k j) (sym pl_in) ∙ places_set x r.good i k u q j ∙ ap padded (frame_set x r.good i k u q j ∙ sym above_kids);
        hole_place = ap (λ (b : Bool). cond b (suc k) 0) (hole_ready r j v) ∙ sym (frame_hole x r.good i k u q j) ∙ ap (place_code (has_hole x)) (sym above_kids);
      }

  -- and how putting it ends
  pub above_comes : {g : Option Added} {vs xs' : List ℕ} → Put ws n xs (symbol_in ws i) (set (places_in ws i) k j) (hole_above xs j k) g vs xs' →
      Comes ws ns n (row_for (store_of ws ns n) (symbol_at (store_of ws ns n) i) (filled_kids (frame_at (store_of ws ns n) i k) j)) g vs xs'
  above_comes p = comes_by (λ t. row_for (store_of ws ns n) (sym_in t) (sym above_kids t)) (put_comes r above_asks p)

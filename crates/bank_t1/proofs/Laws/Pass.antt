-- The pass over the used rows: before row i the earlier rows have passed, are indexed and marked, and the rows from i on decide.
-- One row more: its tests, its twin, its place in the index and its mark.
use mathlib.Core.Path.{◌≡◌, refl, sym, ap, ◌∙◌}
use mathlib.Core.Bool.{Bool, true, false, ◌&&◌, not}
use mathlib.Core.List.{List, []}
use Prim.Native.Nat.{ℕ, suc, ◌+◌, ◌*◌, ◌-◌, ◌≤◌, ◌<◌}
use native.Mathlib.Omega.{arith}
use lib.Dec.{leb, eqb}
use borrow.Author.Tests.{leb-true, eq-eqb, ne_eqb}
use lib.ListN.{length, get_or, take, drop, get_or-eq_default}
use Rattle.model.specs.Limits.{row_width, most_symbols, most_children, hole_symbol}
use Rattle.model.specs.Base.{none_below, is_in, all}
use Rattle.model.specs.Store.{Node, Store, symbol_at, count_of, node_at, kids_at, has_hole, find_from}
use Rattle.model.specs.Sound.{node_fits, answer_fits, has_twin, rows_fit}
use Rattle.model.specs.Entry.{store_of, answers_in}
use Rattle.model.proofs.Laws.FirstRows.{nodes_first}
use Rattle.model.proofs.Laws.ReflectRows.{counts_at, hole_of_law}
use Rattle.model.proofs.Laws.Tests.{both_true, by_equal}
use Rattle.bank.specs.Rows.{symbol_in, answer_in, places_in, node_in}
use Rattle.bank.specs.Index.{size_in, Roomy, Finding, find_in, Seat, entered}
use Rattle.bank.specs.Bank.{place_code}
use Rattle.bank_t1.specs.Pass.{Cleared, Reached, Begun, row_says, rows_pass, Marked}
use Rattle.std.proofs.Common.{Some, None}
use Rattle.bank.proofs.Laws.Words.{symbol_in_law, places_in_law}
use Rattle.bank.proofs.Laws.Trees.{indexed_none, finding_more, length_entered, holes_kept, hole_entered}
use Rattle.bank_t1.proofs.Laws.Row.{told_broken, told_hole, earlier_more}

-- ROOM goes by the length
pub roomy_same : {ws xs : List ℕ} (ys : List ℕ) → Roomy ws xs → length ys ≡ length xs → Roomy ws ys
roomy_same ys r e = record { some = omega (arith, r.some); few = omega (arith, r.few); long = omega (arith, r.long) }

-- THE INVARIANT before row i
pub record Passing (words counts : List ℕ) (n : ℕ) (index : List ℕ) (i : ℕ) : Type 0 where
  pub reached : Reached words counts n index i
  pub most : i ≤ n
  pub finding : Finding words i index
  pub decides : rows_fit (store_of words counts n) (answers_in n words) i (n - i) ≡ rows_pass words counts n

module _ (ws ns : List ℕ) (n : ℕ) where
  abbrev x : Store
  x = store_of ws ns n

  abbrev w : List ℕ
  w = answers_in n ws

  abbrev rest : ℕ → Bool
  rest i = rows_fit (store_of ws ns n) (answers_in n ws) (i + 1) (n - (i + 1))

  rows_step : (i : ℕ) → i < n → rows_fit (store_of ws ns n) (answers_in n ws) i (n - i) ≡
      (((node_fits (store_of ws ns n) i && answer_fits (store_of ws ns n) (answers_in n ws) i) && not (has_twin (store_of ws ns n) i)) && rows_fit (store_of ws ns n) (answers_in n ws) (i + 1) (n - (i + 1)))
  unfolding rows_fit
  rows_step i u =
      let a : n - i ≡ suc (n - (i + 1)) = omega arith in
      let b : suc i ≡ i + 1 = omega arith in
      ap (rows_fit x w i) a ∙ ap (λ (j : ℕ). ((node_fits x i && answer_fits x w i) && not (has_twin x i)) && rows_fit x w j (n - (i + 1))) b

  twin_is : row_width * n ≤ length ws → (i : ℕ) → i < n → has_twin (store_of ws ns n) i ≡ not (eqb (find_in ws i (symbol_in ws i) (places_in ws i)) 0)
  twin_is l i u =
      let a = symbol_in_law ws ns n i u in
      let b = places_in_law ws ns n i u l in
      let c = nodes_first i n ws (omega arith) in
      λ t. not (eqb (find_from (a t) (b t) 1 (drop 1 (c t))) 0)

  -- AT ROW 1: row 0 has no children, for no alphabet has its symbol
  module _ (b : Begun ws ns n) where
    letters : length ns ≤ most_symbols
    letters =
        let p = both_true (is_in 1 most_symbols (length ns)) (all (λ (m : ℕ). leb m most_children) ns) b.alphabet in
        let q = both_true (leb 1 (length ns)) (leb (length ns) most_symbols) p.0 in
        leb-true (length ns) most_symbols q.1

    few_kids : (a : ℕ) → get_or ns a 0 ≤ most_children
    few_kids = counts_at ns (both_true (is_in 1 most_symbols (length ns)) (all (λ (m : ℕ). leb m most_children) ns) b.alphabet).1

    no_kids : kids_at (store_of ws ns n) 0 ≡ []
    no_kids =
        let z = b.some in
        let h : symbol_in ws 0 ≡ hole_symbol = ap (λ (r : Node). r.symbol) (hole_of_law (node_in ws 0) (answer_in ws 0) b.hole).0 in
        let e : count_of x (symbol_at x 0) ≡ 0 = ap (count_of x) (symbol_in_law ws ns n 0 (omega arith) ∙ h) ∙ get_or-eq_default ns 0 {n = hole_symbol} (omega (arith, letters)) in
        ap (λ (c : ℕ). take c (node_at x 0).kids) e

    pub starts : (xs : List ℕ) → Roomy ws xs → Cleared xs → Passing ws ns n xs 1
    unfolding place_code
    starts xs l c =
        let some = b.some in
        let room = b.room in
        record {
          reached = record {
            some = omega arith;
            few = b.few;
            room = b.room;
            wide = few_kids;
            earlier = λ j u. let e : j ≡ 0 = omega arith in rw (e, no_kids) none_below;
            long = omega (arith, l.long);
            holed = λ j u. let e : j ≡ 0 = omega arith in rw (e, no_kids) c.unmarked;
          };
          most = b.some;
          finding = record {
            some = omega arith;
            few = omega arith;
            room = omega arith;
            roomy = l;
            indexed = indexed_none ws xs c.empty;
            no_twins = λ i j z h k p q. omega arith;
          };
          decides = refl;
        }

  -- AT ROW i
  module _ {xs : List ℕ} {i : ℕ} (s : Passing ws ns n xs i) (u : i < n) where
    abbrev fits : Bool
    fits = node_fits (store_of ws ns n) i && answer_fits (store_of ws ns n) (answers_in n ws) i

    abbrev code : ℕ
    code = place_code (has_hole (store_of ws ns n)) (kids_at (store_of ws ns n) i)

    abbrev twin : ℕ
    twin = find_in ws i (symbol_in ws i) (places_in ws i)

    step : ((fits && not (not (eqb twin 0))) && rest i) ≡ rows_pass ws ns n
    step = sym (ap (λ (b : Bool). (fits && not b) && rest i) (twin_is s.reached.room i u)) ∙ sym (rows_step i u) ∙ s.decides

    pub breaks : None ≡ row_says ws ns n i → rows_pass ws ns n ≡ false
    breaks e = sym step ∙ ap (λ (b : Bool). (b && not (not (eqb twin 0))) && rest i) (told_broken fits code e)

    module _ {h : ℕ} (e : Some h ≡ row_says ws ns n i) where
      fitting : fits ≡ true
      fitting = (told_hole fits code h e).0

      pub doubled : (twin ≡ 0 → ⊥) → rows_pass ws ns n ≡ false
      doubled z = sym step ∙ (λ t. (fitting t && not (not (ne_eqb twin 0 z t))) && rest i)

      pub goes_on : (t : ℕ) → Seat xs (symbol_in ws i) (places_in ws i) t → get_or xs t 0 ≡ twin → twin ≡ 0 → Passing ws ns n (entered xs t i h) (i + 1)
      goes_on t seat holds z =
          let r = s.reached in
          let few = r.few in
          let room = r.room in
          let long = r.long in
          let node = (both_true (node_fits x i) (answer_fits x w i) fitting).0 in
          let f = s.finding in
          record {
            reached = record {
              some = omega arith;
              few = r.few;
              room = r.room;
              wide = r.wide;
              earlier = earlier_more r u node;
              long = omega (arith, length_entered xs t i h);
              holed = λ j l. by_equal j i
                  (λ d. rw d (hole_entered (size_in xs) ws xs i t h f.indexed r.some (omega arith) (omega arith) seat.leads (holds ∙ z) ∙ (told_hole fits code h e).1))
                  (λ d. holes_kept (size_in xs) ws xs i t h f.indexed r.some (omega arith) (omega arith) seat.leads (holds ∙ z) j (omega arith) ∙ r.holed j (omega arith));
            };
            most = omega arith;
            finding = finding_more t h f (omega arith) (omega arith) seat holds z;
            decides = sym (λ t. (fitting t && not (not (eq-eqb twin 0 z t))) && rest i) ∙ step;
          }

  -- PAST THE LAST ROW
  module _ {xs : List ℕ} {i : ℕ} (s : Passing ws ns n xs i) (u : n ≤ i) where
    all_passed : i ≡ n
    all_passed = let m = s.most in omega arith

    pub ends : (rows_pass ws ns n ≡ true) × Marked ws ns n xs
    unfolding rows_fit
    ends =
        let a : n - i ≡ 0 = omega arith in
        (sym s.decides ∙ ap (rows_fit x w i) a, record { finding = rw all_passed at s.finding; holed = rw all_passed at s.reached.holed })

-- A row put: found, written, or without room for it. It is what `row_for` builds, and a written row keeps `Bank`.
-- The old rows keep their words, so their holes and walks stand; the new one is unlike them, and its hole is where its children have theirs.
use mathlib.Core.Path.{◌≡◌, refl, sym, ap, subst, ◌∙◌}
use mathlib.Core.Logic.{◌⊎◌, inl, inr}
use mathlib.Core.Bool.{Bool, true, false, ◌||◌}
use mathlib.Core.List.{List}
use Prim.Native.Nat.{ℕ, ◌+◌, ◌*◌, ◌<◌}
use native.Mathlib.Omega.{arith}
use lib.Dec.{ltb, eqb}
use borrow.Author.Tests.{lt-ltb, le-ltb, eq-eqb, ne_eqb}
use lib.ListN.{length, get_or, drop}
use Rattle.model.specs.Limits.{most_rows, row_width}
use Rattle.model.specs.Base.{Below, any_true}
use Rattle.model.specs.Store.{Node, Store, full, built, Extends, used, kids_at, has_hole, added, find_from, find_row, row_for}
use Rattle.model.specs.Facts.{Good}
use Rattle.model.specs.Entry.{store_of, rows_lent}
use Rattle.model.proofs.Laws.Lent.{good_four}
use Rattle.model.proofs.Laws.Rows.{last_cases, used_added, added_ext, added_good, new_kids, kids_ext, fold_ext}
use Rattle.model.proofs.Laws.Fold.{earlier}
use Rattle.model.proofs.Laws.Lists.{wider}
use Rattle.bank.specs.Rows.{symbol_in, places_in, with_row, Within}
use Rattle.bank.specs.Index.{size_in, hole_of, Finding, find_in, Seat, entered}
use Rattle.bank.specs.Bank.{place_code, Holed, Bank, Lent, with_rows}
use Rattle.bank.proofs.Laws.Words.{used_of, length_with_row, front_with_row, symbol_written, places_written, one_row, store_with_rows, nodes_kept}
use Rattle.bank.proofs.Laws.Trees.{finding_kept, finding_more, holes_kept, hole_entered}
use Rattle.bank_t1.proofs.Laws.Row.{code_below}
use Rattle.std.specs.Prelude.{Option, None}
use Rattle.bank_fill.specs.declared.add.Added.{Added}
use Rattle.bank_fill.specs.Adding.{added_row, kids_of, PlacesAsked, Put, found, no_room, written}
use Rattle.bank_fill.proofs.Laws.Coming.{Comes, comes_by, comes_same, store_room}

-- a row's hole stands where it stood in a store with more rows
pub place_ext : (x y : Store) → Good x → Extends x y → {ks : List ℕ} → Below (used x) ks → place_code (has_hole x) ks ≡ place_code (has_hole y) ks
place_ext x y g e b =
    code_below (has_hole x) (has_hole y) (used x) (λ k l. fold_ext (λ (j a : ℕ) (bs : List Bool). eqb j 0 || any_true bs) false x y g e k l) b

-- what is lent, under any alphabet
pub lent_of : {ws ns : List ℕ} {n : ℕ} {xs : List ℕ} → Bank ws ns n xs → Lent ws n xs
lent_of r = record { lent = r.lent; finding = r.finding }

-- the index over the words with the row written
pub kept : {ws : List ℕ} {n : ℕ} {xs : List ℕ} → Lent ws n xs → (a : ℕ) (ps : List ℕ) → Within ws n → Finding (with_row ws n a ps) n xs
kept {ws} {n} r a ps w = finding_kept (with_row ws n a ps) r.finding (front_with_row ws n a ps w) (length_with_row ws n a ps)

pub fits_one : {ws : List ℕ} {n : ℕ} {xs : List ℕ} → Lent ws n xs → Within ws n → n < most_rows
fits_one r w = let l = r.lent in omega arith

-- A ROW ASKED FOR
module _ {ws ns : List ℕ} {n : ℕ} {xs : List ℕ} (r : Bank ws ns n xs) {a : ℕ} {ps : List ℕ} {hole : ℕ} (q : PlacesAsked (store_of ws ns n) a ps hole) where
  found_same : find_in ws n a ps ≡ find_row (store_of ws ns n) a (kids_of ns a ps)
  found_same = ap (find_in ws n a) q.unused

  -- FOUND
  comes_found : (j : ℕ) → j ≡ find_in ws n a ps → (j ≡ 0 → ⊥) → Comes ws ns n (row_for (store_of ws ns n) a (kids_of ns a ps)) (added_row j n) ws xs
  comes_found j p z =
      let f : j ≡ find_row (store_of ws ns n) a (kids_of ns a ps) = p ∙ found_same in
      let t : eqb (find_row (store_of ws ns n) a (kids_of ns a ps)) 0 ≡ false = ne_eqb (find_row (store_of ws ns n) a (kids_of ns a ps)) 0 (λ s. z (f ∙ s)) in
      comes_by (rw t (ap (λ (k : ℕ). built k (store_of ws ns n)) (sym f))) (comes_same r j)

  -- NO ROOM
  comes_full : find_in ws n a ps ≡ 0 → length ws < row_width * n + row_width → Comes ws ns n (row_for (store_of ws ns n) a (kids_of ns a ps)) None ws xs
  comes_full p l =
      let t : eqb (find_row (store_of ws ns n) a (kids_of ns a ps)) 0 ≡ true = eq-eqb (find_row (store_of ws ns n) a (kids_of ns a ps)) 0 (sym found_same ∙ p) in
      let s : ltb (used (store_of ws ns n)) (rows_lent ws) ≡ false = le-ltb (used (store_of ws ns n)) (rows_lent ws) (omega (arith, used_of ws ns n)) in
      let e : row_for (store_of ws ns n) a (kids_of ns a ps) ≡ full = rw (t, s) in
      comes_by e (record { came = (refl, record { same_size = refl; same_rows = refl }) })

  -- ADDED
  module _ (p : find_in ws n a ps ≡ 0) (w : Within ws n) where
    abbrev x : Store
    x = store_of ws ns n

    abbrev y : Store
    y = added (store_of ws ns n) a (kids_of ns a ps)

    unseen : find_row (store_of ws ns n) a (kids_of ns a ps) ≡ 0
    unseen = sym found_same ∙ p

    room : used (store_of ws ns n) < rows_lent ws
    room = omega (arith, used_of ws ns n)

    good : Good (added (store_of ws ns n) a (kids_of ns a ps))
    good = added_good (store_of ws ns n) r.good a (kids_of ns a ps) q.asked room unseen

    ext : Extends (store_of ws ns n) (added (store_of ws ns n) a (kids_of ns a ps))
    ext = added_ext (store_of ws ns n) r.good a (kids_of ns a ps) q.asked room

    used_more : used (added (store_of ws ns n) a (kids_of ns a ps)) ≡ n + 1
    used_more = used_added (store_of ws ns n) r.good a (kids_of ns a ps) q.asked room ∙ ap (λ (k : ℕ). k + 1) (used_of ws ns n)

    words_are : with_row ws n a ps ≡ with_rows ws n (added (store_of ws ns n) a (kids_of ns a ps))
    words_are = one_row ws n a ps w ns (kids_of ns a ps) q.unused q.four

    store_is : store_of (with_row ws n a ps) ns (n + 1) ≡ added (store_of ws ns n) a (kids_of ns a ps)
    store_is =
        (λ t. store_of (words_are t) ns (sym used_more t)) ∙
        store_with_rows ws ns n (added (store_of ws ns n) a (kids_of ns a ps)) ext (good_four (added (store_of ws ns n) a (kids_of ns a ps)) good)
        (store_room ws ns n (added (store_of ws ns n) a (kids_of ns a ps)) ext good)

    -- the words with the row written have it at n and nowhere before
    alone : find_in (with_row ws n a ps) n (symbol_in (with_row ws n a ps) n) (places_in (with_row ws n a ps) n) ≡ 0
    alone =
        (λ t. find_in (with_row ws n a ps) n (symbol_written ws n a ps w t) (places_written ws n a ps w q.four t)) ∙
        ap (λ (l : List Node). find_from a ps 1 (drop 1 l)) (nodes_kept ws (with_row ws n a ps) n (front_with_row ws n a ps w) (length_with_row ws n a ps) r.finding.room) ∙ p

    -- entered at its slot
    module _ (slot : ℕ) (seat : Seat xs a ps slot) (free : get_or xs slot 0 ≡ 0) where
      own : Seat xs (symbol_in (with_row ws n a ps) n) (places_in (with_row ws n a ps) n) slot
      own =
          subst (λ (l : List ℕ). Seat xs (symbol_in (with_row ws n a ps) n) l slot) (sym (places_written ws n a ps w q.four))
          (subst (λ (b : ℕ). Seat xs b ps slot) (sym (symbol_written ws n a ps w)) seat)

      room_there : n < size_in xs
      room_there = let l = r.finding.roomy.long in omega arith

      hole_old : (i : ℕ) → i < n → get_or (entered xs slot n hole) (hole_of i) 0 ≡ place_code (has_hole y) (kids_at y i)
      hole_old i l =
          let u : i < used x = omega (arith, used_of ws ns n) in
          let f = kept (lent_of r) a ps w in
          holes_kept (size_in xs) (with_row ws n a ps) xs n slot hole f.indexed f.some room_there (omega arith) own.leads free i l ∙ r.holed i l ∙
          place_ext x y r.good ext (wider {n = i} (omega arith) (earlier x r.good i u)) ∙ ap (place_code (has_hole y)) (kids_ext x y ext i u)

      hole_new : get_or (entered xs slot n hole) (hole_of n) 0 ≡ place_code (has_hole y) (kids_at y n)
      hole_new =
          let f = kept (lent_of r) a ps w in
          hole_entered (size_in xs) (with_row ws n a ps) xs n slot hole f.indexed f.some room_there (omega arith) own.leads free ∙ q.hole_place ∙
          place_ext x y r.good ext q.asked.below ∙ ap (place_code (has_hole y)) (sym (new_kids x r.good a (kids_of ns a ps) q.asked room) ∙ ap (kids_at y) (used_of ws ns n))

      ready_more : Bank (with_row ws n a ps) ns (n + 1) (entered xs slot n hole)
      ready_more =
          record {
            good = subst (λ (z : Store). Good z) (sym store_is) good;
            lent = rw length_with_row r.lent;
            finding = finding_more slot hole (kept (lent_of r) a ps w) (fits_one (lent_of r) w) (rw length_with_row w) own (free ∙ sym alone) alone;
            holed = subst (λ (z : Store). Holed z (entered xs slot n hole) (n + 1)) (sym store_is) (λ k l. holed k (last_cases k n l));
          }
        where
          holed : (k : ℕ) → (k < n) ⊎ (k ≡ n) → get_or (entered xs slot n hole) (hole_of k) 0 ≡ place_code (has_hole y) (kids_at y k)
          holed k (inl l) = hole_old k l
          holed k (inr e) = rw e hole_new

      comes_added : Comes ws ns n (row_for (store_of ws ns n) a (kids_of ns a ps)) (added_row n (n + 1)) (with_row ws n a ps) (entered xs slot n hole)
      comes_added =
          let f : eqb (find_row (store_of ws ns n) a (kids_of ns a ps)) 0 ≡ true = eq-eqb (find_row (store_of ws ns n) a (kids_of ns a ps)) 0 unseen in
          let l : ltb (used (store_of ws ns n)) (rows_lent ws) ≡ true = lt-ltb (used (store_of ws ns n)) (rows_lent ws) room in
          let e : row_for (store_of ws ns n) a (kids_of ns a ps) ≡ built (used x) y = rw (f, l) in
          comes_by e
          (record {
            came = (
              (λ k. added_row (sym (used_of ws ns n) k) (sym used_more k)),
              words_are,
              subst (λ (k : ℕ). Bank (with_row ws n a ps) ns k (entered xs slot n hole)) (sym used_more) ready_more,
            );
          })

  -- ONE OF THESE
  pub put_comes : {g : Option Added} {vs xs' : List ℕ} → Put ws n xs a ps hole g vs xs' → Comes ws ns n (row_for (store_of ws ns n) a (kids_of ns a ps)) g vs xs'
  put_comes (found {j = j} e z) = comes_found j e z
  put_comes (no_room e l) = comes_full e l
  put_comes (written {index' = us} {slot = t} e w seat free v i) =
      subst (λ (zs : List ℕ). Comes ws ns n (row_for (store_of ws ns n) a (kids_of ns a ps)) (added_row n (n + 1)) zs us) (sym v)
      (subst (λ (zs : List ℕ). Comes ws ns n (row_for (store_of ws ns n) a (kids_of ns a ps)) (added_row n (n + 1)) (with_row ws n a ps) zs) (sym i) (comes_added e w t seat free))

-- A row's size from its children's: what is left of them decides, whether they are cut before they are added or after.
-- Children are earlier rows, so their cut sizes are known when the row is reached.
use mathlib.Core.Path.{◌≡◌, sym, ap, ◌∙◌}
use mathlib.Core.List.{List, map}
use Prim.Native.Nat.{ℕ, suc, ◌+◌, ◌*◌, ◌≤◌, ◌<◌}
use native.Mathlib.Numerals.{add-one}
use native.Mathlib.Omega.{arith}
use lib.ListN.{length, get_or, drop, drop_of_length-le}
use lib.Seq.{drop-cons}
use Rattle.model.specs.Base.{sum}
use Rattle.model.specs.Store.{Store, used, kids_at}
use Rattle.model.specs.Facts.{Good}
use Rattle.model.specs.Entry.{store_of}
use Rattle.model.specs.Terms.{size_of, most_counted, cut}
use Rattle.model.proofs.Laws.Fold.{fold_eq, earlier}
use Rattle.bank.specs.Rows.{symbol_in, kid_in}
use Rattle.bank.proofs.Laws.Children.{row_used, count_kids, row_kid, word_early}
use Rattle.bank_listed.specs.Sizes.{Sizing}
use Rattle.bank_listed.proofs.Laws.Cut.{cut_most, cut_part}

-- THE CHILDREN from place k on, after `size` for the root and those before
abbrev total : Store → (kids : List ℕ) → ℕ
total x ks = sum (map (size_of x) ks)

pub record Summed (x : Store) (i k size : ℕ) : Type 0 where
  pub most : size ≤ 1 + most_counted * k
  pub decides : cut (size + sum (map (size_of x) (drop k (kids_at x i)))) ≡ cut (size_of x i)

pub summed_start : (x : Store) → Good x → (i : ℕ) → i < used x → Summed x i 0 1
summed_start x g i u =
    let e = fold_eq (λ (j a : ℕ) (ns : List ℕ). suc (sum ns)) 0 x (earlier x g) i u in
    let f : 1 + total x (kids_at x i) ≡ suc (total x (kids_at x i)) = omega arith in
    record { most = omega arith; decides = ap cut (f ∙ sym e) }

module _ {x : Store} {i k size : ℕ} (s : Summed x i k size) where
  pub summed_more : (v : ℕ) → k < length (kids_at x i) → v ≡ cut (size_of x (get_or (kids_at x i) k 0)) → Summed x i (k + 1) (size + v)
  unfolding sum
  summed_more v l e =
      let rest : ℕ = total x (drop (suc k) (kids_at x i)) in
      let d = ap (λ (ks : List ℕ). cut (size + total x ks)) (drop-cons (kids_at x i) k 0 l) in
      let p = cut_part size (size_of x (get_or (kids_at x i) k 0)) rest in
      let q = ap (λ (w : ℕ). cut (size + (w + rest))) e in
      let a : size + (v + rest) ≡ size + v + rest = omega arith in
      let b = ap (λ (m : ℕ). cut (size + v + total x (drop m (kids_at x i)))) (add-one k) in
      record {
        most = omega (arith, s.most, e, cut_most (size_of x (get_or (kids_at x i) k 0)));
        decides = b ∙ sym (ap cut a) ∙ q ∙ sym p ∙ sym d ∙ s.decides;
      }

  pub summed_end : length (kids_at x i) ≤ k → cut size ≡ cut (size_of x i)
  unfolding sum
  summed_end l =
      let d = ap (λ (ks : List ℕ). cut (size + total x ks)) (drop_of_length-le (kids_at x i) {i = k} l) in
      let z : size ≡ size + 0 = omega arith in
      ap cut z ∙ sym d ∙ s.decides

-- A ROW AMONG THE WORDS, past row 0
module _ {ws ns : List ℕ} {n : ℕ} {ss : List ℕ} {i : ℕ} (z : Sizing ws ns n ss i) (p : 0 < i) (l : i < n) where
  count_is : get_or ns (symbol_in ws i) 0 ≡ length (kids_at (store_of ws ns n) i)
  count_is = count_kids z.rows i l

  pub starts : Summed (store_of ws ns n) i 0 1
  starts = summed_start (store_of ws ns n) z.rows.good i (row_used z.rows i l)

  -- the child at place k
  module _ (k : ℕ) (h : k < get_or ns (symbol_in ws i) 0) (kid : ℕ) (e : kid ≡ kid_in ws i k) where
    has : k < length (kids_at (store_of ws ns n) i)
    has = omega (arith, count_is)

    pub kid_early : kid < i
    kid_early = omega (arith, word_early z.rows i l p k has)

    pub entry_most : get_or ss kid 0 ≤ most_counted
    entry_most = omega (arith, z.sized kid kid_early, cut_most (size_of (store_of ws ns n) kid))

    pub adds : {size : ℕ} → Summed (store_of ws ns n) i k size → Summed (store_of ws ns n) i (k + 1) (size + get_or ss kid 0)
    adds s = summed_more s (get_or ss kid 0) has (z.sized kid kid_early ∙ ap (λ (j : ℕ). cut (size_of (store_of ws ns n) j)) (e ∙ row_kid z.rows i l p k has))

  pub ends : {k size : ℕ} → get_or ns (symbol_in ws i) 0 ≤ k → Summed (store_of ws ns n) i k size → cut size ≡ cut (size_of (store_of ws ns n) i)
  ends e s = summed_end s (omega (arith, count_is))

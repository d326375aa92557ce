-- Rows added after rows added are rows added at once: the first rows kept, the same words behind them.
-- The words of the first store are the old ones with its rows behind, so the rows of the second are written behind those.
use mathlib.Core.Path.{◌≡◌, refl, sym, ap, subst, ◌∙◌}
use mathlib.Core.List.{List, [], ◌++◌, append-nil}
use Prim.Native.Nat.{ℕ, ◌*◌, ◌≤◌}
use native.Mathlib.Omega.{arith}
use lib.ListN.{length, take, drop, take-append-drop}
use lib.Seq.{take-take, drop-length}
use Rattle.model.specs.Limits.{row_width}
use Rattle.model.specs.Store.{Store, Built, full, built, Extends, used, row_for}
use Rattle.model.specs.Facts.{Good, RowAsked}
use Rattle.model.specs.Entry.{store_of, nodes_in, row_words}
use Rattle.model.proofs.Laws.Lent.{good_four, rows_within}
use Rattle.model.proofs.Laws.Fill.{row_is}
use Rattle.bank.specs.Bank.{Bank, Kept, with_rows}
use Rattle.bank.proofs.Laws.Words.{used_of, length_with_rows, store_with_rows, front_with_rows, with_rows_twice}
use Rattle.std.specs.Prelude.{Option, Some, None}
use Rattle.bank_fill.specs.declared.add.Added.{Added}
use Rattle.bank_fill.specs.Adding.{Came, added_row}

-- how adding ended, as a record: its parts are known from it
pub record Comes (ws ns : List ℕ) (n : ℕ) (b : Built) (r : Option Added) (ws' xs : List ℕ) : Type 0 where
  pub came : Came ws ns n b r ws' xs

pub comes_by : {ws ns : List ℕ} {n : ℕ} {b c : Built} {r : Option Added} {ws' xs : List ℕ} → b ≡ c → Comes ws ns n c r ws' xs → Comes ws ns n b r ws' xs
comes_by {ws} {ns} {n} {b} {c} {r} {ws'} {xs} e t = subst (λ (d : Built). Comes ws ns n d r ws' xs) (sym e) t

pub comes_as : {ws ns : List ℕ} {n : ℕ} {b : Built} {r s : Option Added} {ws' xs : List ℕ} → r ≡ s → Comes ws ns n b r ws' xs → Comes ws ns n b s ws' xs
comes_as {ws} {ns} {n} {b} {r} {s} {ws'} {xs} e t = subst (λ (g : Option Added). Comes ws ns n b g ws' xs) e t

-- the row and the rows used, of an answer
abbrev row_in : Option Added → ℕ
row_in None = 0
row_in (Some a) = a.row.0

abbrev used_in : Option Added → ℕ
used_in None = 0
used_in (Some a) = a.used

-- no rows behind the first n
pub with_rows_none : (ws ns : List ℕ) (n : ℕ) → with_rows ws n (store_of ws ns n) ≡ ws
unfolding row_words
with_rows_none ws ns n =
    let d : drop n (nodes_in n ws) ≡ [] = ap (λ (k : ℕ). drop k (nodes_in n ws)) (sym (used_of ws ns n)) ∙ drop-length (nodes_in n ws) in
    (λ t. take (row_width * n) ws ++ row_words (d t) [] ++ drop (row_width * used_of ws ns n t) ws) ∙
    ap (λ (l : List ℕ). l ++ drop (row_width * n) ws) (append-nil (take (row_width * n) ws)) ∙ take-append-drop (row_width * n) ws

-- nothing added
pub comes_same : {ws ns : List ℕ} {n : ℕ} {xs : List ℕ} → Bank ws ns n xs → (j : ℕ) → Comes ws ns n (built j (store_of ws ns n)) (added_row j n) ws xs
comes_same {ws} {ns} {n} {xs} r j =
    let u = used_of ws ns n in
    record { came = (ap (added_row j) (sym u), sym (with_rows_none ws ns n), subst (λ (k : ℕ). Bank ws ns k xs) (sym u) r) }

-- a store over the lent words has room in them
pub store_room : (ws ns : List ℕ) (n : ℕ) (y : Store) → Extends (store_of ws ns n) y → Good y → row_width * used y ≤ length ws
store_room ws ns n y e g = rows_within ws (used y) (let f = g.fits in let r = e.room in omega arith)

-- A STORE BUILT over the first n rows, and the words that hold it
pub record Stage (ws ns : List ℕ) (n j : ℕ) (y : Store) (u : ℕ) (ws' xs : List ℕ) : Type 0 where
  pub count : u ≡ used y
  pub words : ws' ≡ with_rows ws n y
  pub store : store_of ws' ns u ≡ y
  pub bank : Bank ws' ns u xs

module _ (ws ns : List ℕ) (n : ℕ) (y : Store) (e : Extends (store_of ws ns n) y) (g : Good y) where
  fit : row_width * used y ≤ length ws
  fit = store_room ws ns n y e g

  low : row_width * n ≤ row_width * used y
  low = let a = e.more in let b = used_of ws ns n in omega arith

  kept_again : (vs : List ℕ) → Kept (with_rows ws n y) (used y) vs → Kept ws n vs
  kept_again vs k =
      record {
        same_size = k.same_size ∙ length_with_rows ws ns n y e (good_four y g) fit;
        same_rows =
            sym (take-take (row_width * n) (row_width * used y) vs low) ∙ ap (take (row_width * n)) k.same_rows ∙
            take-take (row_width * n) (row_width * used y) (with_rows ws n y) low ∙ front_with_rows ws ns n y e (good_four y g) fit;
      }

  -- more rows behind these
  again : (r : Option Added) (vs xs : List ℕ) (b : Built) → ((k : ℕ) (z : Store) → b ≡ built k z → Extends y z) →
      Came (with_rows ws n y) ns (used y) b r vs xs → Came ws ns n b r vs xs
  again r vs xs full x c = (c.0, kept_again vs c.1)
  again r vs xs (built k z) x c = (c.0, c.1 ∙ with_rows_twice ws ns n y e (good_four y g) fit z (x k z refl), c.2)

  pub comes_again : {j u : ℕ} {ws' xs : List ℕ} → Stage ws ns n j y u ws' xs → {b : Built} {r : Option Added} {vs xs' : List ℕ} →
      ((k : ℕ) (z : Store) → b ≡ built k z → Extends y z) → Comes ws' ns u b r vs xs' → Comes ws ns n b r vs xs'
  comes_again {j} {u} {ws'} {xs} s {b} {r} {vs} {xs'} x c =
      let d : Comes (with_rows ws n y) ns (used y) b r vs xs' = subst (λ (k : ℕ). Comes (with_rows ws n y) ns k b r vs xs') s.count
      (subst (λ (l : List ℕ). Comes l ns u b r vs xs') s.words c) in
      record { came = again r vs xs' b x d.came }

  -- the row for a symbol and children in that store, found or added
  pub comes_row : {j u : ℕ} {ws' xs : List ℕ} → Stage ws ns n j y u ws' xs → (a : ℕ) (ks : List ℕ) → RowAsked y a ks →
      {r : Option Added} {vs xs' : List ℕ} → Comes ws' ns u (row_for (store_of ws' ns u) a ks) r vs xs' → Comes ws ns n (row_for y a ks) r vs xs'
  comes_row {ws' = ws'} s a ks q c =
      comes_again s (λ k z p. (row_is y g a ks q k z p).ext) (comes_by (ap (λ (x : Store). row_for x a ks) (sym s.store)) c)

  -- how adding ended, taken apart
  pub stage : {j u k : ℕ} {ws' xs : List ℕ} → Comes ws ns n (built k y) (added_row j u) ws' xs → (j ≡ k) × Stage ws ns n j y u ws' xs
  stage {j} {u} {k} {ws'} {xs} c =
      let a : j ≡ k = ap row_in c.came.0 in
      let b : u ≡ used y = ap used_in c.came.0 in
      let w : ws' ≡ with_rows ws n y = c.came.1 in (
        a,
        record {
          count = b;
          words = w;
          store = (λ t. store_of (w t) ns (b t)) ∙ store_with_rows ws ns n y e (good_four y g) fit;
          bank = subst (λ (v : ℕ). Bank ws' ns v xs) (sym b) c.came.2;
        },
      )

-- where rows ran out before, the answer is no row
pub not_full : {ws ns : List ℕ} {n j u : ℕ} {ws' xs : List ℕ} → Comes ws ns n full (added_row j u) ws' xs → ⊥
not_full c = let p = c.came.0 in let z : ◌≡◌ {A = ℕ} 0 1 = cc in omega arith

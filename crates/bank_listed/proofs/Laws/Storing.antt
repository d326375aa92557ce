-- A listed record stored symbol by symbol: the words are the old ones with the rows so far behind, and what is left stores what the whole would.
-- Rows are added behind rows added (Laws.Coming), and each symbol's row is asked for by the rows on the stack (Laws.Reading).
use mathlib.Core.Path.{◌≡◌, refl, sym, ap, subst, ◌∙◌}
use mathlib.Core.List.{List, [], ◌∷◌}
use Prim.Native.Nat.{ℕ, ◌+◌, ◌≤◌, ◌<◌}
use native.Mathlib.Omega.{arith}
use lib.ListN.{length, drop}
use Rattle.model.specs.Limits.{most_listed}
use Rattle.model.specs.Store.{Built, full, built, Extends, padded, row_for, used}
use Rattle.model.specs.Terms.{store_from}
use Rattle.model.specs.Facts.{Parses}
use Rattle.model.specs.Entry.{store_of}
use Rattle.model.proofs.Laws.Fill.{ext_refl, ext_trans}
use Rattle.bank.specs.Bank.{Bank, with_rows}
use Rattle.bank.proofs.Laws.Words.{used_of}
use Rattle.std.specs.Prelude.{Option, None}
use Rattle.bank_fill.specs.declared.add.Added.{Added}
use Rattle.bank_fill.specs.Adding.{kids_of, added_row, PlacesAsked}
use Rattle.bank_fill.proofs.Laws.Coming.{Comes, Stage, with_rows_none, comes_by, comes_row, stage, not_full}
use Rattle.bank_listed.proofs.Laws.Reading as R
use Rattle.bank_listed.proofs.Laws.Reading.{Reading, symbol_next, kids_next, stack_next}

pub record Storing (ws ns : List ℕ) (u : ℕ) (xs ws' ix is : List ℕ) (n at : ℕ) : Type 0 where
  pub stage : Stage ws ns u 0 (store_of ws' ns n) n ws' ix
  pub ext : Extends (store_of ws ns u) (store_of ws' ns n)
  pub reading : Reading (store_of ws' ns n) xs is at
  pub same : store_from (store_of ws' ns n) (drop at xs) is ≡ store_from (store_of ws ns u) xs []

pub storing_start : {ws ns : List ℕ} {u : ℕ} {ix : List ℕ} (xs : List ℕ) → Bank ws ns u ix → Parses ns 0 xs → length xs ≤ most_listed →
    Storing ws ns u xs ws ix [] u 0
storing_start {ws} {ns} {u} xs r p f =
    record {
      stage = record { count = sym (used_of ws ns u); words = sym (with_rows_none ws ns u); store = refl; bank = r };
      ext = ext_refl (store_of ws ns u);
      reading = R.reading_start (store_of ws ns u) xs r.good p f;
      same = refl;
    }

module _ {ws ns : List ℕ} {u : ℕ} {xs ws' ix is : List ℕ} {n at : ℕ} (s : Storing ws ns u xs ws' ix is n at) where
  -- THE NEXT SYMBOL, with its children on the stack as places
  module _ (more : at < length xs) {ps : List ℕ} (places : ps ≡ padded (kids_next (store_of ws' ns n) xs is at)) where
    pub row_asked : PlacesAsked (store_of ws' ns n) (symbol_next xs at) ps 0
    row_asked = rw places (R.places_asked s.reading more)

    -- its row, over the old words
    over : {r : Option Added} {vs ix' : List ℕ} → Comes ws' ns n (row_for (store_of ws' ns n) (symbol_next xs at) (kids_of ns (symbol_next xs at) ps)) r vs ix' →
        Comes ws ns u (row_for (store_of ws' ns n) (symbol_next xs at) (kids_next (store_of ws' ns n) xs is at)) r vs ix'
    over c =
        let e = ap (kids_of ns (symbol_next xs at)) places ∙ R.kids_back s.reading more in
        comes_row ws ns u (store_of ws' ns n) s.ext s.reading.good s.stage (symbol_next xs at) (kids_next (store_of ws' ns n) xs is at) (R.asked s.reading more)
        (comes_by (ap (row_for (store_of ws' ns n) (symbol_next xs at)) (sym e)) c)

    -- rows ran out
    pub ran_out : {vs ix' : List ℕ} → Comes ws' ns n (row_for (store_of ws' ns n) (symbol_next xs at) (kids_of ns (symbol_next xs at) ps)) None vs ix' →
        Comes ws ns u (store_from (store_of ws ns u) xs []) None vs ix'
    ran_out {vs} {ix'} c = go (row_for (store_of ws' ns n) (symbol_next xs at) (kids_next (store_of ws' ns n) xs is at)) refl (over c)
      where
        go : (b : Built) → row_for (store_of ws' ns n) (symbol_next xs at) (kids_next (store_of ws' ns n) xs is at) ≡ b → Comes ws ns u b None vs ix' →
            Comes ws ns u (store_from (store_of ws ns u) xs []) None vs ix'
        go full e d = comes_by (sym s.same ∙ R.store_full s.reading more e) d
        go (built j z) e d = let p = d.came.0 in let q : ◌≡◌ {A = ℕ} 0 1 = cc in absurd (omega arith)

    -- its row is on the stack
    pub storing_more : {j v : ℕ} {vs ix' : List ℕ} →
        Comes ws' ns n (row_for (store_of ws' ns n) (symbol_next xs at) (kids_of ns (symbol_next xs at) ps)) (added_row j v) vs ix' →
        Storing ws ns u xs vs ix' (stack_next (store_of ws' ns n) xs is at j) v (at + 1)
    storing_more {j} {v} {vs} {ix'} c = go (row_for (store_of ws' ns n) (symbol_next xs at) (kids_next (store_of ws' ns n) xs is at)) refl (over c)
      where
        go : (b : Built) → row_for (store_of ws' ns n) (symbol_next xs at) (kids_next (store_of ws' ns n) xs is at) ≡ b → Comes ws ns u b (added_row j v) vs ix' →
            Storing ws ns u xs vs ix' (stack_next (store_of ws' ns n) xs is at j) v (at + 1)
        go full e d = absurd (not_full d)
        go (built k z) e d =
            let p = R.pushed s.reading more k z e in
            let x = ext_trans (store_of ws ns u) (store_of ws' ns n) z s.ext p.0 in
            let t = stage ws ns u z x p.1.good d in
            let o : z ≡ store_of vs ns v = sym t.1.store in
            let f : row_for (store_of ws' ns n) (symbol_next xs at) (kids_next (store_of ws' ns n) xs is at) ≡ built j (store_of vs ns v) = e ∙ (λ i. built (sym t.0 i) (o i)) in
            record {
              stage = record { count = t.1.count ∙ ap used o; words = t.1.words ∙ ap (with_rows ws u) o; store = refl; bank = t.1.bank };
              ext = subst (Extends (store_of ws ns u)) o x;
              reading = (R.pushed s.reading more j (store_of vs ns v) f).1;
              same = sym (R.store_built s.reading more j (store_of vs ns v) f) ∙ s.same;
            }

  -- ALL READ
  pub stored : length xs ≤ at → {i : ℕ} → is ≡ i ∷ [] → Comes ws ns u (store_from (store_of ws ns u) xs []) (added_row i n) ws' ix
  stored done {i} last =
      let e = used_of ws' ns n in
      comes_by (sym s.same ∙ R.store_end s.reading done last)
      (record { came = (ap (added_row i) (sym e), s.stage.words, subst (λ (k : ℕ). Bank ws' ns k ix) (sym e) s.stage.bank) })

-- A row's text and a list's written byte by byte and child by child: the parts one behind the other are the whole, and each part has room.
-- By the parts of the texts.
use mathlib.Core.Path.{◌≡◌, refl, sym, ap, subst, ◌∙◌}
use mathlib.Core.List.{List, [], ◌∷◌, ◌++◌}
use Prim.Native.Nat.{ℕ, ◌+◌, ◌≤◌, ◌<◌}
use native.Mathlib.Omega.{arith}
use lib.ListN.{length, get_or, set, drop, length-set}
use Rattle.model.specs.Entry.{store_of}
use Rattle.bank.specs.Rows.{symbol_in, kid_in}
use Rattle.bank.specs.Bank.{Stored}
use Rattle.list.specs.Put.{put_at}
use Rattle.text.specs.Bytes.{comma, opening, closing}
use Rattle.text.specs.Written.{letter_of, others, row_text}
use Rattle.text_print.specs.Writing.{Run}
use Rattle.text_print.proofs.Laws.Runs.{run_as, run_of, run_one, run_then, run_byte, run_long}
use Rattle.text_print.proofs.Laws.Printing.{texts, text_leaf, text_node, list_end, list_more, more_long, node_long}

module _ {ws ns : List ℕ} {n : ℕ} (s : Stored ws ns n) (i : ℕ) (l : i < n) (ls : List ℕ) where
  -- A LIST from place k on: its end, or a child and the rest
  pub prints_end : (k at : ℕ) (o : List ℕ) → k ≡ get_or ns (symbol_in ws i) 0 → at < length o → Run at (others (drop k (texts ls (store_of ws ns n) i))) o (at + 1) (set o at closing)
  prints_end k at o e h = run_as (sym (list_end s i l ls k e)) (run_one at closing o h)

  pub prints_more : (k : ℕ) → k < get_or ns (symbol_in ws i) 0 → (kid : ℕ) → kid ≡ kid_in ws i k → {at next end : ℕ} {o o₁ o₂ : List ℕ} → at < length o →
      Run (at + 1) (row_text ls (store_of ws ns n) kid) (set o at comma) next o₁ → Run next (others (drop (k + 1) (texts ls (store_of ws ns n) i))) o₁ end o₂ →
      Run at (others (drop k (texts ls (store_of ws ns n) i))) o end o₂
  prints_more k h kid e {at} {next} {end} {o} f x y = run_as (sym (list_more s i l k h kid e ls)) (run_then (run_then (run_one at comma o f) x) y)

  -- A RECORD: its letter v alone, or with its children
  module _ (v : ℕ) (is : v ≡ letter_of ls (symbol_in ws i)) where
    pub prints_leaf : (at : ℕ) (o : List ℕ) → get_or ns (symbol_in ws i) 0 ≡ 0 → at < length o → Run at (row_text ls (store_of ws ns n) i) o (at + 1) (set o at v)
    prints_leaf at o e h = run_as (ap (λ (b : ℕ). b ∷ []) is ∙ sym (text_leaf s i l ls e)) (run_one at v o h)

    pub prints_node : 0 < get_or ns (symbol_in ws i) 0 → (kid : ℕ) → kid ≡ kid_in ws i 0 → {at next end : ℕ} {o o₁ o₂ : List ℕ} → at + 1 < length o →
        Run (at + 2) (row_text ls (store_of ws ns n) kid) (set (set o at v) (at + 1) opening) next o₁ → Run next (others (drop 1 (texts ls (store_of ws ns n) i))) o₁ end o₂ →
        Run at (row_text ls (store_of ws ns n) i) o end o₂
    prints_node h kid e {at} {next} {end} {o} f x y =
        let b = run_byte (run_one at v o (omega arith)) opening f in
        let two : at + 1 + 1 ≡ at + 2 = omega arith in
        let c = subst (λ (q : ℕ). Run at (v ∷ opening ∷ []) o q (set (set o at v) (at + 1) opening)) two b in
        let t = ap (λ (w : ℕ). w ∷ opening ∷ (row_text ls (store_of ws ns n) kid ++ others (drop 1 (texts ls (store_of ws ns n) i)))) is in
        run_as (t ∙ sym (text_node s i l h kid e ls)) (run_then (run_then c x) y)

-- WITH ROOM for the text
module _ {ws ns : List ℕ} {n : ℕ} (s : Stored ws ns n) (i : ℕ) (l : i < n) (ls : List ℕ) where
  pub count_read : {b c : ℕ} → b ≡ symbol_in ws i → c ≡ get_or ns b 0 → c ≡ get_or ns (symbol_in ws i) 0
  count_read e f = f ∙ ap (λ (a : ℕ). get_or ns a 0) e

  -- a list from place k on, where a child is left
  module _ (k : ℕ) (h : k < get_or ns (symbol_in ws i) 0) (at : ℕ) (o : List ℕ) (room : at + length (others (drop k (texts ls (store_of ws ns n) i))) ≤ length o) where
    pub comma_fits : at < length o
    comma_fits = omega (arith, room, more_long s i l k h (kid_in ws i k) refl ls)

    module _ (kid : ℕ) (e : kid ≡ kid_in ws i k) where
      pub child_fits : at + 1 + length (row_text ls (store_of ws ns n) kid) ≤ length (set o at comma)
      child_fits = omega (arith, room, more_long s i l k h kid e ls, length-set o at comma)

      module _ {next : ℕ} {o₁ : List ℕ} (v : next ≡ at + 1 + length (row_text ls (store_of ws ns n) kid)) (w : o₁ ≡ put_at (at + 1) (row_text ls (store_of ws ns n) kid) (set o at comma)) where
        child_run : Run (at + 1) (row_text ls (store_of ws ns n) kid) (set o at comma) next o₁
        child_run = run_of v (omega (arith, v, child_fits)) w

        pub others_fit : next + length (others (drop (k + 1) (texts ls (store_of ws ns n) i))) ≤ length o₁
        others_fit = omega (arith, v, room, more_long s i l k h kid e ls, length-set o at comma, run_long child_run)

        pub list_run : {end : ℕ} {o₂ : List ℕ} → end ≡ next + length (others (drop (k + 1) (texts ls (store_of ws ns n) i))) →
            o₂ ≡ put_at next (others (drop (k + 1) (texts ls (store_of ws ns n) i))) o₁ → Run at (others (drop k (texts ls (store_of ws ns n) i))) o end o₂
        list_run a b = prints_more s i l ls k h kid e comma_fits child_run (run_of a (omega (arith, a, others_fit)) b)

  -- a record with children
  module _ (v : ℕ) (h : 0 < get_or ns (symbol_in ws i) 0) (at : ℕ) (o : List ℕ) (room : at + length (row_text ls (store_of ws ns n) i) ≤ length o) where
    pub bracket_fits : at + 1 < length o
    bracket_fits = omega (arith, room, node_long s i l h (kid_in ws i 0) refl ls)

    module _ (kid : ℕ) (e : kid ≡ kid_in ws i 0) where
      opened_long : length (set (set o at v) (at + 1) opening) ≡ length o
      opened_long = length-set (set o at v) (at + 1) opening ∙ length-set o at v

      pub first_fits : at + 2 + length (row_text ls (store_of ws ns n) kid) ≤ length (set (set o at v) (at + 1) opening)
      first_fits = omega (arith, room, node_long s i l h kid e ls, opened_long)

      module _ {next : ℕ} {o₁ : List ℕ} (a : next ≡ at + 2 + length (row_text ls (store_of ws ns n) kid)) (w : o₁ ≡ put_at (at + 2) (row_text ls (store_of ws ns n) kid) (set (set o at v) (at + 1) opening)) where
        first_run : Run (at + 2) (row_text ls (store_of ws ns n) kid) (set (set o at v) (at + 1) opening) next o₁
        first_run = run_of a (omega (arith, a, first_fits)) w

        pub rest_fits : next + length (others (drop 1 (texts ls (store_of ws ns n) i))) ≤ length o₁
        rest_fits = omega (arith, a, room, node_long s i l h kid e ls, opened_long, run_long first_run)

        pub record_run : v ≡ letter_of ls (symbol_in ws i) → {end : ℕ} {o₂ : List ℕ} → end ≡ next + length (others (drop 1 (texts ls (store_of ws ns n) i))) →
            o₂ ≡ put_at next (others (drop 1 (texts ls (store_of ws ns n) i))) o₁ → Run at (row_text ls (store_of ws ns n) i) o end o₂
        record_run is b c = prints_node s i l ls v is h kid e bracket_fits first_run (run_of b (omega (arith, b, rest_fits)) c)

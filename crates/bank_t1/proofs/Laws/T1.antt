-- T1 of the lent words, clause by clause: what the alphabet, the sizes, row 0 and the other rows say.
-- The store of n rows has n nodes and n answers, so only the lent rows bound n.
use mathlib.Core.Path.{◌≡◌, sym, ap, ◌∙◌}
use mathlib.Core.Bool.{Bool, true, false, ◌&&◌}
use mathlib.Core.List.{List, []}
use Prim.Native.Nat.{ℕ, ◌*◌, ◌-◌, ◌≤◌, ◌<◌}
use native.Mathlib.Omega.{arith}
use lib.Dec.{leb, eqb}
use borrow.Author.Tests.{le-leb, lt-leb, eq-eqb}
use lib.ListN.{length}
use Rattle.model.specs.Limits.{row_width}
use Rattle.model.specs.Base.{is_in}
use Rattle.model.specs.Store.{used, node_at, has_hole}
use Rattle.model.specs.Table.{Tables, tables, answer_at}
use Rattle.model.specs.Sound.{alphabet_fits, is_hole, rows_fit, is_t1}
use Rattle.model.specs.Entry.{rows_lent, size_fits, store_of, answers_in}
use Rattle.model.proofs.Laws.Lent.{length_answers_in, size_fits_facts}
use Rattle.model.proofs.Laws.Fold.{earlier}
use Rattle.model.proofs.Laws.ReflectRows.{rows_of}
use Rattle.bank.specs.Rows.{answer_in, node_in}
use Rattle.bank.specs.Bank.{Bank}
use Rattle.bank_t1.specs.Pass.{hole_by, rows_pass, Marked}
use Rattle.bank.proofs.Laws.Words.{used_of, node_in_law, answer_in_law}
use Rattle.bank_t1.proofs.Laws.Row.{mark_is}

-- the tables of a store alone, with its answers
abbrev pub stored : (words counts : List ℕ) → (n : ℕ) → Tables
stored ws ns n = tables (store_of ws ns n) (answers_in n ws) [] [] [] 0 0 false

module _ (ws ns : List ℕ) (n : ℕ) where
  abbrev sized : Bool
  sized = is_in 1 (rows_lent ws) (used (store_of ws ns n))

  abbrev answered : Bool
  answered = eqb (length (answers_in n ws)) (used (store_of ws ns n))

  abbrev holed : Bool
  holed = is_hole (node_at (store_of ws ns n) 0) (answer_at (answers_in n ws) 0)

  abbrev filled : Bool
  filled = rows_fit (store_of ws ns n) (answers_in n ws) 1 (used (store_of ws ns n) - 1)

  abbrev test : (alphabet sized answered hole rows : Bool) → Bool
  test a s c h r = (((a && s) && c) && h) && r

  pub no_alphabet_law : alphabet_fits ns ≡ false → false ≡ is_t1 (stored ws ns n)
  no_alphabet_law e = sym (ap (λ (b : Bool). test b sized answered holed filled) e)

  module _ (a : alphabet_fits ns ≡ true) where
    pub no_rows : n ≡ 0 → false ≡ is_t1 (stored ws ns n)
    no_rows e =
        let u = used_of ws ns n in
        let s : leb 1 (used (store_of ws ns n)) ≡ false = lt-leb 1 (used (store_of ws ns n)) (omega arith) in
        sym (λ t. test (a t) (s t && leb (used (store_of ws ns n)) (rows_lent ws)) answered holed filled)

    module _ (some : 1 ≤ n) where
      low : leb 1 (used (store_of ws ns n)) ≡ true
      low = let u = used_of ws ns n in le-leb 1 (used (store_of ws ns n)) (omega arith)

      pub few_rows : length ws < row_width * n → false ≡ is_t1 (stored ws ns n)
      few_rows l =
          let u = used_of ws ns n in
          let s : leb (used (store_of ws ns n)) (rows_lent ws) ≡ false = lt-leb (used (store_of ws ns n)) (rows_lent ws) (omega arith) in
          sym (λ t. test (a t) (low t && s t) answered holed filled)

      module _ (room : row_width * n ≤ length ws) where
        -- what is left: row 0 and the others
        left : is_t1 (stored ws ns n) ≡ (is_hole (node_in ws 0) (answer_in ws 0) && rows_pass ws ns n)
        left =
            let u = used_of ws ns n in
            let s : leb (used (store_of ws ns n)) (rows_lent ws) ≡ true = le-leb (used (store_of ws ns n)) (rows_lent ws) (omega arith) in
            let c : answered ≡ true = eq-eqb (length (answers_in n ws)) (used (store_of ws ns n)) (length_answers_in n ws ∙ sym u) in
            let h = node_in_law ws ns n 0 some room in
            let v = answer_in_law n 0 ws some in
            λ t. test (a t) (low t && s t) (c t) (is_hole (h t) (v t)) (rows_fit (store_of ws ns n) (answers_in n ws) 1 (u t - 1))

        pub no_hole : is_hole (node_in ws 0) (answer_in ws 0) ≡ false → false ≡ is_t1 (stored ws ns n)
        no_hole e = sym (left ∙ ap (λ (b : Bool). b && rows_pass ws ns n) e)

        pub rows_decide : is_hole (node_in ws 0) (answer_in ws 0) ≡ true → rows_pass ws ns n ≡ is_t1 (stored ws ns n)
        rows_decide e = sym (left ∙ ap (λ (b : Bool). b && rows_pass ws ns n) e)

-- READY, where T1 holds and all rows are marked
pub bank : (ws ns : List ℕ) (n : ℕ) {xs : List ℕ} → size_fits ws ≡ true → is_t1 (stored ws ns n) ≡ true → Marked ws ns n xs → Bank ws ns n xs
bank ws ns n z e m =
    record {
      good = (rows_of (stored ws ns n) e).good;
      lent = (size_fits_facts ws z).most;
      finding = m.finding;
      holed = m.holed;
    }

-- and then a mark says whether a row has a hole
pub hole_ready : {ws ns : List ℕ} {n : ℕ} {xs : List ℕ} → Bank ws ns n xs → (i : ℕ) → i < n → hole_by xs i ≡ has_hole (store_of ws ns n) i
hole_ready {ws} {ns} {n} {xs} r i l = mark_is (store_of ws ns n) xs n (λ j u. earlier (store_of ws ns n) r.good j (rw (used_of ws ns n) u)) r.holed i l

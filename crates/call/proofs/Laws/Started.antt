-- A start that 18 and 17 do not refuse: row 0 is written, and the lists are those of a run that has learnt nothing.
-- The alphabet is spread by one number after the other; the row written is the hole's.
use mathlib.Core.Path.{◌≡◌, refl, sym, ap, ◌∙◌}
use mathlib.Core.Bool.{Bool, true, cond}
use mathlib.Core.List.{List, [], ◌∷◌}
use Prim.Native.Nat.{ℕ, ◌≤◌}
use native.Mathlib.Omega.{arith}
use borrow.Author.Tests.{leb-true}
use lib.Dec.{leb, eqb}
use lib.ListN.{length}
use lib.Seq.{sets-eq}
use Rattle.std.specs.Prelude.{Ok}
use Rattle.model.specs.Limits.{hole_symbol, most_symbols, most_children}
use Rattle.model.specs.Base.{all}
use Rattle.model.specs.Terms.{unless}
use Rattle.model.specs.Sound.{alphabet_fits}
use Rattle.model.specs.Calls.{Outcome, refuses, leaves, look, started}
use Rattle.model.specs.Entry.{rows_lent, size_fits, lists_fit, row_words, words_of, lists_of, zero_lists, seen_of, seen_by, words_by, zeroed_by, start_by}
use Rattle.model.specs.declared.Lists.{Lists}
use Rattle.model.proofs.Laws.Lent.{lists_fit_true}
use Rattle.model.proofs.Laws.Tests.{and_left, and_right}
use Rattle.bank.specs.Rows.{with_row, Within}
use Rattle.call.specs.Calls.{StartAs, look_told}

pub alphabet_short : (ns : List ℕ) → alphabet_fits ns ≡ true → length ns ≤ most_symbols
alphabet_short ns e = leb-true (length ns) most_symbols (and_right (leb 1 (length ns)) _ (and_left _ (all (λ (n : ℕ). leb n most_children) ns) e))

-- the lists of a run that has learnt nothing are within their arrays, and looking at them tells so
pub started_fit : (n : ℕ) (ns : List ℕ) → alphabet_fits ns ≡ true → lists_fit (lists_of zero_lists (started n ns)) ≡ true
started_fit n ns e =
    lists_fit_true (lists_of zero_lists (started n ns)) (record {
      letters = alphabet_short ns e;
      states = omega arith;
      rules = omega arith;
      contexts = omega arith;
      accepted = omega arith;
    })

pub started_told : (n : ℕ) (ns : List ℕ) → look_told (lists_of zero_lists (started n ns)) ≡ seen_of (look (started n ns))
started_told n ns = refl

-- ROW 0 written is the hole's row
pub hole_written : (ws ns : List ℕ) → Within ws 0 → with_row ws 0 hole_symbol (0 ∷ 0 ∷ 0 ∷ 0 ∷ []) ≡ words_of ws (started (rows_lent ws) ns)
unfolding row_words
hole_written ws ns h = sets-eq (hole_symbol ∷ 0 ∷ 0 ∷ 0 ∷ 0 ∷ 0 ∷ []) ws 0 h

-- TAKEN
module _ (ws ns : List ℕ) (l : Lists) where
  abbrev lines : (size alphabet : Bool) → Outcome
  lines a b = cond (eqb (cond a (unless b 17) 18) 0) (leaves (started (rows_lent ws) ns)) (refuses (cond a (unless b 17) 18))

  module _ (a : size_fits ws ≡ true) where
    pub start_taken : alphabet_fits ns ≡ true → (m : Lists) → lists_fit m ≡ true → look_told m ≡ seen_of (look (started (rows_lent ws) ns)) →
        m ≡ lists_of zero_lists (started (rows_lent ws) ns) → (us : List ℕ) → us ≡ words_of ws (started (rows_lent ws) ns) → StartAs ws ns l (Ok m) us
    start_taken b m t p q us w =
        let o : start_by ws ns ≡ leaves (started (rows_lent ws) ns) = λ i. lines (a i) (b i) in
        record { seen = p ∙ sym (ap seen_by o); lists = q ∙ sym (ap (zeroed_by l) o); words = w ∙ sym (ap (words_by ws) o); fit = t }

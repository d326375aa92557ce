-- What the line for a question and the line for a call are, case by case: a record of at most 1,024 symbols is written out, a larger one is told by its row;
-- a call is told by its number, or where that is 0 by its phase. Each test picks its line, and a cut size tells what the size itself would.
use mathlib.Core.Path.{◌≡◌}
use mathlib.Core.List.{List}
use Prim.Native.Nat.{ℕ, ◌≤◌, ◌<◌}
use native.Mathlib.Omega.{arith}
use lib.ListN.{length}
use borrow.Author.Tests.{lt-leb, eq-eqb, ne_eqb}
use Rattle.model.specs.Limits.{most_listed}
use Rattle.model.specs.Store.{Store}
use Rattle.model.specs.Entry.{store_of}
use Rattle.model.specs.declared.Seen.{Seen}
use Rattle.model.specs.Terms.{size_of, cut}
use Rattle.bank.specs.Bank.{Stored}
use Rattle.bank.proofs.Laws.Children.{row_used}
use Rattle.bank_listed.proofs.Laws.Cut.{cut_most, cut_tells, larger_cut}
use Rattle.text.specs.Bytes.{row_word, record_room}
use Rattle.text.specs.Written.{row_text}
use Rattle.text.specs.Lines.{numbered, refused_text, accepted_text, ask_text, propose_text, question_text, seen_text}
use Rattle.text_print.proofs.Laws.Printing.{text_short}

-- A QUESTION, by the cut size of its row
module _ {ws ns : List ℕ} {n : ℕ} (s : Stored ws ns n) (i : ℕ) (l : i < n) (ls : List ℕ) (r : ℕ) (e : r ≡ cut (size_of (store_of ws ns n) i)) where
  module _ (h : r ≤ most_listed) where
    small : size_of (store_of ws ns n) i ≤ most_listed
    small = omega (arith, cut_tells (size_of (store_of ws ns n) i) (omega arith))

    pub question_short : length (row_text ls (store_of ws ns n) i) ≤ record_room
    question_short = omega (arith, small, text_short ls (store_of ws ns n) s.good i (row_used s i l))

  pub question_row : most_listed < r → numbered row_word i ≡ question_text ls (store_of ws ns n) i
  question_row h =
      let m = cut_most (size_of (store_of ws ns n) i) in
      let g = larger_cut (size_of (store_of ws ns n) i) (omega arith) in
      rw (lt-leb (size_of (store_of ws ns n) i) most_listed g)

-- A CALL, by what was seen of it
module _ (ls : List ℕ) (x : Store) (v : Seen) where
  pub seen_refused : (v.number ≡ 0 → ⊥) → refused_text v.number ≡ seen_text ls x v
  seen_refused n = rw (ne_eqb v.number 0 n)

  module _ (none : v.number ≡ 0) where
    pub seen_accepted : v.phase ≡ 2 → accepted_text ≡ seen_text ls x v
    seen_accepted p = rw (eq-eqb v.number 0 none, eq-eqb v.phase 2 p)

    pub seen_question : v.phase ≡ 1 → ask_text ls x v.row ≡ seen_text ls x v
    seen_question p = let q : v.phase ≡ 2 → ⊥ = λ h. omega arith in rw (eq-eqb v.number 0 none, ne_eqb v.phase 2 q, eq-eqb v.phase 1 p)

    pub seen_proposal : (v.phase ≡ 2 → ⊥) → (v.phase ≡ 1 → ⊥) → propose_text v.states v.rules v.contexts ≡ seen_text ls x v
    seen_proposal q p = rw (eq-eqb v.number 0 none, ne_eqb v.phase 2 q, ne_eqb v.phase 1 p)

-- An offer's own lines (§5.3), each by the tests made before it; and what the proposed automaton gives to its tests.
-- Each line that does not apply leaves the rest to decide; a run by the representatives is a run of the automaton.
use mathlib.Core.Path.{◌≡◌, refl, sym, ap, ◌∙◌}
use mathlib.Core.Bool.{Bool, true, false, ◌&&◌, not, cond, beq}
use mathlib.Core.List.{List, [], ◌∷◌}
use Prim.Native.Nat.{ℕ, zero, suc, ◌+◌, ◌≤◌, ◌<◌}
use native.Mathlib.Omega.{arith}
use borrow.Author.Tests.{eq-eqb, ne_eqb, le-leb, lt-leb}
use lib.Dec.{eqb}
use lib.ListN.{get_or, drop, length-drop}
use Rattle.model.specs.Store.{Store, used, count_of, padded, find_row}
use Rattle.model.specs.Base.{top}
use Rattle.model.specs.Terms.{or_else, unless, record_fault, known_from, known_row}
use Rattle.model.specs.Automata.{verdict_on, is_yes}
use Rattle.model.specs.Table.{Tables, answer_at, automaton_of}
use Rattle.model.specs.Calls.{mark_fits, contradicts, verdict_is, offer_fault}
use Rattle.model.specs.Entry.{store_of, answers_in, tables_of}
use Rattle.model.specs.declared.Lists.{Lists}
use Rattle.model.proofs.Laws.Rows.{found}
use Rattle.model.proofs.Laws.Tests.{by_equal}
use Rattle.bank.specs.Rows.{answer_in}
use Rattle.bank.specs.Bank.{Bank}
use Rattle.bank.proofs.Laws.Words.{answer_in_law, used_of}
use Rattle.run_lists.specs.Members.{counts_in}
use Rattle.call_faults.specs.Lines.{Tested}

-- THE LINES
module _ (ws : List ℕ) (l : Lists) (xs : List ℕ) (m : ℕ) where
  abbrev X : Tables
  X = tables_of ws l

  abbrev lines : (asks_none accepted : Bool) → (fault : ℕ) → (fits against same : Bool) → ℕ
  lines a z f b g s = or_else (unless (not (not a) && not z) 31) (or_else f (or_else (unless b 16) (or_else (unless (not g) 33) (unless (not s) 32))))

  abbrev fault : ℕ
  fault = record_fault (counts_in l) xs

  abbrev stored : ℕ
  stored = answer_at (answers_in l.used ws) (known_row (store_of ws (counts_in l) l.used) xs)

  pub line_asking : (l.asked ≡ 0 → ⊥) → 31 ≡ offer_fault (tables_of ws l) xs m
  line_asking n = sym (ap (λ (a : Bool). lines a (eqb l.accepted 1) fault (mark_fits m) (contradicts stored m) (verdict_is X xs m)) (ne_eqb l.asked 0 n))

  module _ (a : l.asked ≡ 0) where
    pub line_accepted : l.accepted ≡ 1 → 31 ≡ offer_fault (tables_of ws l) xs m
    line_accepted e = sym (λ i. lines (eq-eqb l.asked 0 a i) (eq-eqb l.accepted 1 e i) fault (mark_fits m) (contradicts stored m) (verdict_is X xs m))

    module _ (z : l.accepted ≡ 1 → ⊥) where
      proposing : (f : ℕ) (b g s : Bool) → lines (eqb l.asked 0) (eqb l.accepted 1) f b g s ≡ lines true false f b g s
      proposing f b g s = λ i. lines (eq-eqb l.asked 0 a i) (ne_eqb l.accepted 1 z i) f b g s

      pub line_record : (n : ℕ) → n ≡ record_fault (counts_in l) xs → (n ≡ 0 → ⊥) → n ≡ offer_fault (tables_of ws l) xs m
      line_record n e d =
          let rest : ℕ = or_else (unless (mark_fits m) 16) (or_else (unless (not (contradicts stored m)) 33) (unless (not (verdict_is X xs m)) 32)) in
          sym (proposing fault (mark_fits m) (contradicts stored m) (verdict_is X xs m) ∙ (λ i. or_else (sym e i) rest) ∙ ap (λ (b : Bool). cond b rest n) (ne_eqb n 0 d))

      module _ (f : record_fault (counts_in l) xs ≡ 0) where
        pub line_mark : 1 < m → 16 ≡ offer_fault (tables_of ws l) xs m
        line_mark h = sym (proposing fault (mark_fits m) (contradicts stored m) (verdict_is X xs m) ∙ (λ i. lines true false (f i) (lt-leb m 1 h i) (contradicts stored m) (verdict_is X xs m)))

  -- past the mark: what is stored, then the verdict
  module _ (q : Tested l xs m) (v : ℕ) (h : v ≡ answer_at (answers_in l.used ws) (known_row (store_of ws (counts_in l) l.used) xs)) where
    fitting : offer_fault (tables_of ws l) xs m ≡ or_else (unless (not (contradicts v m)) 33) (unless (not (verdict_is X xs m)) 32)
    fitting =
        proposing q.idle q.running fault (mark_fits m) (contradicts stored m) (verdict_is X xs m) ∙
        (λ i. lines true false (q.faultless i) (le-leb m 1 q.mark i) (contradicts (sym h i) m) (verdict_is X xs m))

    pub line_against : contradicts v m ≡ true → 33 ≡ offer_fault (tables_of ws l) xs m
    line_against e = sym (fitting ∙ ap (λ (g : Bool). or_else (unless (not g) 33) (unless (not (verdict_is X xs m)) 32)) e)

    pub line_last : contradicts v m ≡ false → (b : Bool) → b ≡ verdict_is (tables_of ws l) xs m → unless (not b) 32 ≡ offer_fault (tables_of ws l) xs m
    line_last e b p = sym (fitting ∙ λ i. or_else (unless (not (e i)) 33) (unless (not (sym p i)) 32))

-- THE VERDICT against the mark, as truth values and as numbers
mark_is : (b : Bool) (m : ℕ) → m ≤ 1 → beq b (eqb m 1) ≡ eqb (cond b 1 0) m
mark_is true zero h = refl
mark_is false zero h = refl
mark_is true (suc zero) h = refl
mark_is false (suc zero) h = refl
mark_is b (suc (suc m)) h = absurd (omega arith)

-- THE ROW OF A LISTED RECORD is a used one or row 0
find_within : (x : Store) → 1 ≤ used x → (a : ℕ) (ks : List ℕ) → find_row x a ks < used x
find_within x s a ks =
    by_equal (find_row x a ks) 0 (λ e. omega (arith, e))
    (λ n. let f = found a (padded ks) 1 (drop 1 x.nodes) n in let j : find_row x a ks ≡ 1 + f.0 = f.2 in omega (arith, f.1, j, length-drop 1 x.nodes))

either_within : (b : Bool) (i j n : ℕ) → i < n → j < n → cond b i j < n
either_within true i j n p q = p
either_within false i j n p q = q

known_within : (x : Store) → 1 ≤ used x → (xs is : List ℕ) → get_or is 0 0 < used x → known_from x xs is < used x
unfolding known_from
known_within x s [] [] h = h
known_within x s [] (i ∷ is) h = h
known_within x s (a ∷ xs) is h =
    let ks : List ℕ = top (count_of x a) is in
    either_within (eqb (find_row x a ks) 0) 0 (known_from x xs (find_row x a ks ∷ drop (count_of x a) is)) (used x) s
    (known_within x s xs (find_row x a ks ∷ drop (count_of x a) is) (find_within x s a ks))

pub known_row_within : (ws ns : List ℕ) (n : ℕ) {ix : List ℕ} → Bank ws ns n ix → (xs : List ℕ) → known_row (store_of ws ns n) xs < n
known_row_within ws ns n r xs = omega (arith, known_within (store_of ws ns n) r.good.start xs [] r.good.start, used_of ws ns n)

-- and what is stored there is the record's answer
pub stored_answer : (ws ns : List ℕ) (n : ℕ) {ix : List ℕ} → Bank ws ns n ix → (xs : List ℕ) → (i v : ℕ) → i ≡ known_row (store_of ws ns n) xs → v ≡ answer_in ws i →
    v ≡ answer_at (answers_in n ws) (known_row (store_of ws ns n) xs)
stored_answer ws ns n r xs i v e p =
    p ∙ ap (answer_in ws) e ∙ sym (answer_in_law n (known_row (store_of ws ns n) xs) ws (known_row_within ws ns n r xs))

-- 32 asks whether the verdict is the mark
pub verdict_marked : (x : Tables) (xs : List ℕ) (m : ℕ) (y : Bool) → m ≤ 1 → y ≡ is_yes (verdict_on (automaton_of x) xs) → beq y (eqb m 1) ≡ verdict_is x xs m
verdict_marked x xs m y h p = mark_is y m h ∙ ap (λ (b : Bool). eqb (cond b 1 0) m) p

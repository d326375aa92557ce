-- The verdict read off the lent words: a representative is a used row, so its answer stands there.
-- A row that is found is a used one or row 0, and so is its representative.
use mathlib.Core.Path.{◌≡◌, sym, ap, subst, ◌∙◌}
use mathlib.Core.Bool.{Bool, true, false, ◌&&◌, ◌||◌, not, cond}
use mathlib.Core.List.{List, [], ◌∷◌, map}
use Prim.Native.Nat.{ℕ, suc, ◌<◌}
use native.Mathlib.Omega.{arith}
use lib.Dec.{eqb}
use lib.ListN.{get_or, drop}
use borrow.Author.Tests.{eq-eqb, ne_eqb}
use Rattle.model.specs.Base.{Each, each_nil, each_cons, among, top}
use Rattle.model.specs.Store.{Store, symbol_at, count_of, kids_at, fold_from, padded, find_row}
use Rattle.model.specs.Table.{answer_at}
use Rattle.model.specs.Entry.{store_of, answers_in}
use Rattle.model.specs.declared.Row.{Row}
use Rattle.model.specs.declared.Verdict.{Verdict}
use Rattle.model.proofs.Laws.Stack.{each_drop}
use Rattle.bank.specs.Rows.{answer_in}
use Rattle.bank.specs.Index.{Finding}
use Rattle.bank.proofs.Laws.Words.{answer_in_law}
use Rattle.bank.proofs.Laws.Children.{find_used}
use Rattle.table_verdict.specs.Rules.{RepsIn, rep_over, rep_row, run_by, led_list, accepts_by, led_verdict, verdict_list_by}
use Rattle.std.specs.Prelude.{Result, Ok, Err}

-- where a run ends
abbrev EndsIn : (n : ℕ) → Result Row ℕ → Type 0
EndsIn n (Ok k) = k.0 < n
EndsIn n (Err p) = Unit {0}

module _ {ws : List ℕ} (ns : List ℕ) {n : ℕ} {ix reps : List ℕ} (f : Finding ws n ix) (r : RepsIn n reps) where
  abbrev x : Store
  x = store_of ws ns n

  abbrev w : List ℕ
  w = answers_in n ws

  found_in : (a : ℕ) (ks : List ℕ) → get_or reps (find_row x a ks) 0 < n
  found_in a ks = r.within (find_row x a ks) (find_used f a (padded ks))

  -- OF A STORED RECORD
  module _ (i : ℕ) where
    row_in : rep_row (store_of ws ns n) reps i < n
    unfolding fold_from
    row_in = let ks : List ℕ = map (fold_from (rep_over x reps) 0 i x) (kids_at x i) in go (eqb i 0 || among 0 ks) (found_in (symbol_at x i) ks)
      where
        go : (b : Bool) → {j : ℕ} → j < n → cond b 0 j < n
        go true l = omega (arith, f.some)
        go false l = l

    pub row_low : {k : ℕ} → k ≡ rep_row (store_of ws ns n) reps i → k < n
    row_low e = omega (arith, e, row_in)

    abbrev says : (rep : ℕ) → Bool
    says k = not (eqb k 0) && eqb (answer_at w k) 2

    pub row_no : {k : ℕ} → k ≡ rep_row (store_of ws ns n) reps i → k ≡ 0 → false ≡ accepts_by (store_of ws ns n) (answers_in n ws) reps i
    row_no {k} e z = sym (ap says (sym e) ∙ ap (λ (b : Bool). not b && eqb (answer_at w k) 2) (eq-eqb k 0 z))

    pub row_says_law : {k : ℕ} {b : Bool} → k ≡ rep_row (store_of ws ns n) reps i → (k ≡ 0 → ⊥) → b ≡ eqb (answer_in ws k) 2 → b ≡ accepts_by (store_of ws ns n) (answers_in n ws) reps i
    row_says_law {k} e z p =
        p ∙ ap (λ (v : ℕ). eqb v 2) (sym (answer_in_law n k ws (omega (arith, e, row_in)))) ∙
        sym (ap says (sym e) ∙ ap (λ (b : Bool). not b && eqb (answer_at w k) 2) (ne_eqb k 0 z))

  -- OF A LISTED RECORD
  run_in : (p : ℕ) (xs ks : List ℕ) → Each (λ (k : ℕ). k < n) ks → EndsIn n (run_by (store_of ws ns n) reps p xs ks)
  unfolding run_by
  run_in p [] [] a = tt
  run_in p [] (k ∷ ks) (each_cons l a) = l
  run_in p (a ∷ xs) ks b =
      let k : ℕ = get_or reps (find_row x a (top (count_of x a) ks)) 0 in
      go (eqb k 0) (run_by x reps (suc p) xs (k ∷ drop (count_of x a) ks))
      (run_in (suc p) xs (k ∷ drop (count_of x a) ks) (each_cons (found_in a (top (count_of x a) ks)) (each_drop (count_of x a) ks b)))
    where
      go : (b : Bool) → (next : Result Row ℕ) → EndsIn n next → EndsIn n (cond b (Err p) next)
      go true next e = tt
      go false next e = e

  module _ (xs : List ℕ) where
    pub list_in : (k : Row) → Ok k ≡ led_list (store_of ws ns n) reps xs → k.0 < n
    list_in k e = subst (EndsIn n) (sym e) (run_in 0 xs [] each_nil)

    pub list_says : (k : Row) {v : Verdict} → Ok k ≡ led_list (store_of ws ns n) reps xs → v ≡ cond (eqb (answer_in ws k.0) 2) Verdict.Accepted Verdict.NotFinal →
        v ≡ verdict_list_by (store_of ws ns n) (answers_in n ws) reps xs
    list_says k e p = p ∙ ap (λ (v : ℕ). cond (eqb v 2) Verdict.Accepted Verdict.NotFinal) (sym (answer_in_law n k.0 ws (list_in k e))) ∙ ap (led_verdict w) e

    pub list_stuck : (p : ℕ) → Err p ≡ led_list (store_of ws ns n) reps xs → Verdict.NoRule p ≡ verdict_list_by (store_of ws ns n) (answers_in n ws) reps xs
    list_stuck p e = ap (led_verdict w) e

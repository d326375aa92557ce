-- How a step ended, by its number: a shortage, with the first rows as they were; or 0, with the tables left.
-- No shortage has the number 0.
use mathlib.Core.Path.{◌≡◌, refl, sym, ap, subst, ◌∙◌}
use mathlib.Core.Logic.{◌⊎◌, inl, inr}
use mathlib.Core.List.{List}
use Prim.Native.Nat.{ℕ, ◌+◌, ◌*◌, ◌≤◌, ◌<◌}
use native.Mathlib.Omega.{arith}
use lib.ListN.{length, get_or, take, length-set}
use lib.Seq.{get_or-take, get_or-set_same, get_or-set_other, ext_get_or, length-take-le}
use Rattle.model.specs.Limits.{row_width}
use Rattle.model.specs.Table.{Tables}
use Rattle.model.specs.Steps.{Shortage, of_rows, of_states, of_transitions, of_turns, shortage_number, Ended, short, asks, proposes}
use Rattle.model.specs.Calls.{refuses, leaves, end_of}
use Rattle.model.specs.Entry.{lists_of}
use Rattle.model.specs.declared.Lists.{Lists}
use Rattle.model.proofs.Laws.Tests.{by_equal}
use Rattle.model.proofs.Laws.Step as step
use Rattle.model.proofs.Laws.Step.{StepOk, step_left}
use Rattle.bank.specs.Rows.{answer_in, with_answer}
use Rattle.bank.specs.Bank.{Kept}
use Rattle.bank.proofs.Laws.Words.{word_kept}
use Rattle.run_lists.specs.Members.{counts_in}
use Rattle.bank_fill.specs.Left.{Left}
use Rattle.std.specs.Prelude.{Result, Ok, Err}
use Rattle.model.specs.declared.refusal.Refusal.{Refusal}
use Rattle.model.specs.Refusals.{reason_number, refused_by}
use Rattle.step_settle.proofs.Laws.Ends.{Ends}

number_some : (k : Shortage) → shortage_number k ≡ 0 → ⊥
number_some of_rows e = omega arith
number_some of_states e = omega arith
number_some of_transitions e = omega arith
number_some of_turns e = omega arith

module _ {ws : List ℕ} {l : Lists} {r : Result Lists Refusal} {ws' : List ℕ} {why : Refusal} where
  pub ends_short : (e : Ended) → Ends ws l e r ws' → r ≡ Err why → (end_of e ≡ refuses (reason_number why)) × Kept ws l.used ws'
  ends_short (short k) t n = (ap refuses (sym t.ended.0 ∙ ap refused_by n), t.ended.1)
  ends_short (asks y) t n = absurd (let e = t.ended.0 in let z : ◌≡◌ {A = ℕ} 0 1 = cc in omega arith)
  ends_short (proposes y) t n = absurd (let e = t.ended.0 in let z : ◌≡◌ {A = ℕ} 0 1 = cc in omega arith)

-- the tables left
pub record EndsLeft (ws : List ℕ) (l : Lists) (e : Ended) (m : Lists) (ws' : List ℕ) : Type 0 where
  pub left_tables : Tables
  pub end : (e ≡ asks left_tables) ⊎ (e ≡ proposes left_tables)
  pub lists : m ≡ lists_of l left_tables
  pub left : Left ws (counts_in l) ws' left_tables.store left_tables.answers

module _ {ws : List ℕ} {l m : Lists} {ws' : List ℕ} where
  pub ends_left : {r : Result Lists Refusal} (e : Ended) → Ends ws l e r ws' → r ≡ Ok m → EndsLeft ws l e m ws'
  ends_left (short k) t n = absurd (number_some k (sym t.ended.0 ∙ ap refused_by n))
  ends_left (asks y) t n = let p = t.ended.0 in record { left_tables = y; end = inl refl; lists = cc; left = t.ended.1 }
  ends_left (proposes y) t n = let p = t.ended.0 in record { left_tables = y; end = inr refl; lists = cc; left = t.ended.1 }

  -- what the definitions say of them
  module _ {e : Ended} (q : EndsLeft ws l e m ws') where
    pub ends_leaves : end_of e ≡ leaves q.left_tables
    ends_leaves = go q.end
      where
        go : (e ≡ asks q.left_tables) ⊎ (e ≡ proposes q.left_tables) → end_of e ≡ leaves q.left_tables
        go (inl p) = ap end_of p
        go (inr p) = ap end_of p

    pub ends_ok : {x : Tables} → StepOk x e → step.Left x q.left_tables
    ends_ok {x} k = step_left x q.left_tables (go q.end)
      where
        go : (e ≡ asks q.left_tables) ⊎ (e ≡ proposes q.left_tables) → StepOk x (asks q.left_tables) ⊎ StepOk x (proposes q.left_tables)
        go (inl p) = inl (subst (StepOk x) p k)
        go (inr p) = inr (subst (StepOk x) p k)

-- AN ANSWER SET BACK: the first n rows are as they were before it was set
pub kept_back : (ws us vs : List ℕ) (n v j a old : ℕ) → Kept ws n us → n ≤ v → j < v → row_width * v ≤ length us → Kept (with_answer us j a) v vs → old ≡ answer_in us j → Kept ws n (with_answer vs j old)
kept_back ws us vs n v j a old k h b room t e =
    record {
      same_size = length-set vs (row_width * j + 1) old ∙ long ∙ k.same_size;
      same_rows =
          ext_get_or 0 (take (row_width * n) (with_answer vs j old)) (take (row_width * n) ws)
          (length-take-le (row_width * n) (with_answer vs j old) (omega (arith, long, length-set vs (row_width * j + 1) old)) ∙ sym (length-take-le (row_width * n) ws (omega (arith, k.same_size))))
          (λ i p. let q : i < row_width * n = omega (arith, length-take-le (row_width * n) (with_answer vs j old) (omega (arith, long, length-set vs (row_width * j + 1) old))) in
          get_or-take (row_width * n) (with_answer vs j old) i 0 q ∙ at i q ∙ sym (get_or-take (row_width * n) ws i 0 q));
    }
  where
    long : length vs ≡ length us
    long = t.same_size ∙ length-set us (row_width * j + 1) a

    at : (i : ℕ) → i < row_width * n → get_or (with_answer vs j old) i 0 ≡ get_or ws i 0
    at i q =
        by_equal i (row_width * j + 1)
        (λ p. ap (λ (c : ℕ). get_or (with_answer vs j old) c 0) p ∙ get_or-set_same vs (row_width * j + 1) old 0 (omega (arith, long)) ∙ e ∙
        ap (λ (c : ℕ). get_or us c 0) (sym p) ∙ word_kept ws us n k.same_rows i q)
        (λ d. get_or-set_other vs (row_width * j + 1) i old 0 d ∙ word_kept (with_answer us j a) vs v t.same_rows i (omega arith) ∙
        get_or-set_other us (row_width * j + 1) i a 0 d ∙ word_kept ws us n k.same_rows i q)

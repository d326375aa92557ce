-- What T1, T2, T3 and T4's first clauses give to what comes after them: answers that fit, used rows, contexts, S in T, T without repeats.
-- By model's laws of the tests as facts, at tables of the members of S, T and C.
use mathlib.Core.Path.{◌≡◌, refl, sym, subst}
use mathlib.Core.Bool.{Bool, true, false, ◌&&◌, true≢false}
use mathlib.Core.List.{List}
use Prim.Native.Nat.{ℕ, ◌+◌, ◌≤◌}
use native.Mathlib.Omega.{arith}
use lib.Dec.{ltb, leb, eqb}
use lib.ListN.{length, get_or}
use Rattle.model.specs.Limits.{most_rules, most_states}
use Rattle.model.specs.Base.{all, all_among, no_repeats}
use Rattle.model.specs.Store.{kids_at, is_record, is_context}
use Rattle.model.specs.Table.{Tables, tables, size}
use Rattle.model.specs.Sound.{is_t1, is_t2, is_t3, contexts_fit}
use Rattle.model.specs.Entry.{store_of, answers_in}
use Rattle.model.proofs.Laws.Tests.{and_left, and_right, all_get_d}
use Rattle.model.proofs.Laws.ReflectRows.{rows_of}
use Rattle.model.proofs.Laws.ReflectLists.{record_of}
use Rattle.bank.proofs.Laws.Words.{used_of, answer_in_law}
use Rattle.table_columns.specs.Columns.{Answered, Contexts, Used}
use Rattle.sound.specs.Given.{roles_fit}

-- the second and the third of four or of five tests
middle : (a b c d : Bool) → ((a && b) && c) && d ≡ true → (b ≡ true) × (c ≡ true)
middle true true true true e = (refl, refl)
middle true true true false e = absurd (true≢false (sym e))
middle true true false d e = absurd (true≢false (sym e))
middle true false c d e = absurd (true≢false (sym e))
middle false b c d e = absurd (true≢false (sym e))

module _ (ws ns : List ℕ) (u : ℕ) (s t c : List ℕ) where
  -- the tables with nothing in hand and no question
  abbrev X : Tables
  X = tables (store_of ws ns u) (answers_in u ws) s t c 0 0 false

  pub t1_answered : is_t1 (tables (store_of ws ns u) (answers_in u ws) s t c 0 0 false) ≡ true → Answered ws u
  t1_answered e i l = subst (λ (v : ℕ). v ≤ 2) (answer_in_law u i ws l) ((rows_of X e).bound i)

  module _ (e : roles_fit (tables (store_of ws ns u) (answers_in u ws) s t c 0 0 false) ≡ true) where
    pub two : is_t2 (tables (store_of ws ns u) (answers_in u ws) s t c 0 0 false) ≡ true
    two = and_left (is_t2 X) (is_t3 X && contexts_fit X) e

    pub three : is_t3 (tables (store_of ws ns u) (answers_in u ws) s t c 0 0 false) ≡ true
    three = and_left (is_t3 X) (contexts_fit X) (and_right (is_t2 X) (is_t3 X && contexts_fit X) e)

    pub four : contexts_fit (tables (store_of ws ns u) (answers_in u ws) s t c 0 0 false) ≡ true
    four = and_right (is_t3 X) (contexts_fit X) (and_right (is_t2 X) (is_t3 X && contexts_fit X) e)

    of_t : (no_repeats t ≡ true) × (all (is_record (store_of ws ns u)) t ≡ true)
    of_t = middle (leb (length t) most_rules) (no_repeats t) (all (is_record (store_of ws ns u)) t) (all (λ (i : ℕ). all_among (kids_at (store_of ws ns u) i) s) t) two

    pub t_one : no_repeats t ≡ true
    t_one = of_t.0

    pub s_in_t : all_among s t ≡ true
    s_in_t = and_right (leb (length s) most_states && no_repeats s) (all_among s t) three

    pub t_used : Used u t (length t)
    t_used k l =
        let r = record_of (store_of ws ns u) (get_or t k 0) (all_get_d (is_record (store_of ws ns u)) t k 0 of_t.1 l) in
        omega (arith, r.within, used_of ws ns u)

    all_contexts : all (is_context (store_of ws ns u)) c ≡ true
    all_contexts = (middle (ltb 0 (length c) && eqb (get_or c 0 1) 0) (all (is_context (store_of ws ns u)) c) (no_repeats c) (leb (length c) (1 + size X)) four).0

    pub c_contexts : Contexts (store_of ws ns u) c (length c)
    c_contexts j l = all_get_d (is_context (store_of ws ns u)) c j 0 all_contexts l

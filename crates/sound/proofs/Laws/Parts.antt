-- T2, T3 and T4's first clauses of tables with nothing in hand, as the parts of the test have them; and laws of two tests and of three.
use mathlib.Core.Path.{◌≡◌, refl}
use mathlib.Core.Bool.{Bool, true, false, ◌&&◌}
use mathlib.Core.List.{List}
use Prim.Native.Nat.{ℕ, ◌+◌, ◌≤◌}
use borrow.Author.Tests.{le-leb}
use lib.ListN.{length}
use Rattle.model.specs.Limits.{most_rules, most_states}
use Rattle.model.specs.Base.{all, all_among, no_repeats}
use Rattle.model.specs.Store.{is_record, kids_at}
use Rattle.model.specs.Sound.{is_t2, is_t3, contexts_fit}
use Rattle.model.specs.Table.{Tables, tables}
use Rattle.model.specs.Entry.{store_of, answers_in}
use Rattle.bank.specs.Bank.{Bank}
use Rattle.sound_roles.specs.Marked.{contexts_fit_by}
use Rattle.sound_roles.proofs.Laws.Marked.{contexts_fit_ready}

pub and_assoc : (a b c : Bool) → a && (b && c) ≡ (a && b) && c
and_assoc true b c = refl
and_assoc false b c = refl

pub and_false : (a : Bool) → a && false ≡ false
and_false true = refl
and_false false = refl

-- T2, T3 AND T4's FIRST CLAUSES of tables with nothing in hand and no question
abbrev idle : (words counts : List ℕ) → (used : ℕ) → (s t c : List ℕ) → Tables
idle ws ns u s t c = tables (store_of ws ns u) (answers_in u ws) s t c 0 0 false

module _ {ws ns : List ℕ} {u : ℕ} {ix : List ℕ} (r : Bank ws ns u ix) (s t c : List ℕ) (a : length s ≤ most_states) (b : length t ≤ most_rules) where
  pub t2_given : no_repeats t && (all (is_record (store_of ws ns u)) t && all (λ (i : ℕ). all_among (kids_at (store_of ws ns u) i) s) t) ≡ is_t2 (idle ws ns u s t c)
  t2_given =
      rw (le-leb (length t) most_rules b)
      (and_assoc (no_repeats t) (all (is_record (store_of ws ns u)) t) (all (λ (i : ℕ). all_among (kids_at (store_of ws ns u) i) s) t))

  pub t3_given : no_repeats s && all_among s t ≡ is_t3 (idle ws ns u s t c)
  t3_given = rw (le-leb (length s) most_states a)

  pub t4_given : contexts_fit_by ix u (length s + length t) c ≡ contexts_fit (idle ws ns u s t c)
  t4_given = contexts_fit_ready r (idle ws ns u s t c) refl

-- The pass over the rows begins: the hole has size 1.
use mathlib.Core.Path.{◌≡◌, refl, sym, ap, ◌∙◌}
use mathlib.Core.List.{List, [], map}
use Prim.Native.Nat.{ℕ, zero, suc, ◌≤◌, ◌<◌}
use native.Mathlib.Omega.{arith}
use lib.ListN.{length, get_or, set, length-set}
use lib.Seq.{get_or-set_same}
use Rattle.model.specs.Limits.{most_rows}
use Rattle.model.specs.Base.{Below, none_below, one_below, sum}
use Rattle.model.specs.Store.{Store}
use Rattle.model.specs.Facts.{Good}
use Rattle.model.specs.Entry.{store_of}
use Rattle.model.specs.Terms.{size_of, cut}
use Rattle.model.proofs.Laws.Fold.{fold_eq, earlier}
use Rattle.bank.specs.Bank.{Stored}
use Rattle.bank_listed.specs.Sizes.{Sizing}

below_none : {ks : List ℕ} → Below 0 ks → ks ≡ []
below_none none_below = refl
below_none (one_below l b) = absurd (omega arith)

pub hole_size : (x : Store) → Good x → size_of x 0 ≡ 1
unfolding sum
hole_size x g =
    fold_eq (λ (j a : ℕ) (ns : List ℕ). suc (sum ns)) 0 x (earlier x g) 0 g.start ∙
    ap (λ (ks : List ℕ). suc (sum (map (size_of x) ks))) (below_none (earlier x g 0 g.start))

-- AT ROW 1
pub sizing_start : {ws ns : List ℕ} {n : ℕ} → Stored ws ns n → n ≤ most_rows → (ss : List ℕ) → length ss ≡ most_rows → Sizing ws ns n (set ss 0 1) 1
sizing_start {ws} {ns} {n} r f ss l =
    record {
      rows = r;
      few = f;
      long = length-set ss 0 1 ∙ l;
      sized = hole;
    }
  where
    hole : (j : ℕ) → j < 1 → get_or (set ss 0 1) j 0 ≡ cut (size_of (store_of ws ns n) j)
    hole zero h = get_or-set_same ss 0 1 0 (omega arith) ∙ sym (ap cut (hole_size (store_of ws ns n) r.good))
    hole (suc j) h = absurd (omega arith)

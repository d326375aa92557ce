-- Rules one behind the other, six bytes each: the first rules with one more.
-- A rule is decided by its own six bytes, which later ones leave.
use mathlib.Core.Path.{◌≡◌, sym, ap, ◌∙◌}
use mathlib.Core.List.{List}
use Prim.Native.Nat.{ℕ, ◌+◌, ◌*◌, ◌≤◌, ◌<◌}
use native.Mathlib.Omega.{arith}
use lib.ListN.{length, get_or, drop, length-drop}
use lib.Seq.{get_or-drop}
use Rattle.model.specs.Limits.{most_rules}
use Rattle.model.specs.Store.{Store}
use Rattle.model.proofs.Laws.Tests.{by_equal}
use Rattle.table_verdict.specs.Rules.{rule_by}
use Rattle.list.specs.Flat.{flat_rule, rule_width}
use Rattle.call_emit.specs.Proposal.{Flat, SixAt}
use Rattle.call_emit.proofs.Laws.Rule.{same_rule}

module _ (x : Store) (s t reps : List ℕ) where
  pub flat_none : (us : List ℕ) → length us ≡ rule_width * most_rules → Flat x s t reps 0 us
  flat_none us l = record { long = l; rule = λ k h. absurd (omega arith) }

  pub flat_rule_law : {us vs : List ℕ} {n : ℕ} (bs : List ℕ) → Flat x s t reps n us → n < most_rules → length bs ≡ rule_width → flat_rule x.counts bs ≡ rule_by x s reps (get_or t n 0) → SixAt us (rule_width * n) bs vs →
      Flat x s t reps (n + 1) vs
  flat_rule_law {us} {vs} {n} bs f few six is put = record { long = put.long ∙ f.long; rule = each }
    where
      long : (k : ℕ) → k ≤ n → rule_width ≤ length (drop (rule_width * k) vs)
      long k l = let d = length-drop (rule_width * k) vs in omega (arith, d, put.long, f.long, l, few)

      long_before : (k : ℕ) → k ≤ n → rule_width ≤ length (drop (rule_width * k) us)
      long_before k l = let d = length-drop (rule_width * k) us in omega (arith, d, f.long, l, few)

      each : (k : ℕ) → k < n + 1 → flat_rule x.counts (drop (rule_width * k) vs) ≡ rule_by x s reps (get_or t k 0)
      each k l =
          by_equal k n
          (λ z. ap (λ (j : ℕ). flat_rule x.counts (drop (rule_width * j) vs)) z ∙
          same_rule x.counts (drop (rule_width * n) vs) bs (long n (omega arith)) (omega (arith, six)) (λ j h. get_or-drop (rule_width * n) vs j 0 ∙ put.here j h) ∙ is ∙
          ap (λ (j : ℕ). rule_by x s reps (get_or t j 0)) (sym z))
          (λ z. let g : k < n = let y : k ≡ n → ⊥ = z in omega (arith, y, l) in
          same_rule x.counts (drop (rule_width * k) vs) (drop (rule_width * k) us) (long k (omega (arith, g))) (long_before k (omega (arith, g)))
          (λ j h. get_or-drop (rule_width * k) vs j 0 ∙ put.before (rule_width * k + j) (omega (arith, g, h)) ∙ sym (get_or-drop (rule_width * k) us j 0)) ∙ f.rule k g)

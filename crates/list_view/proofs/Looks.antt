-- A turn of each lookup of the view (§6.3), and what load says of the bytes that it shows.
-- By the first of the blocks, and by cases on what the bytes read as.
use mathlib.Core.Path.{◌≡◌, refl, ap, ◌∙◌}
use mathlib.Core.Bool.{true, false, cond}
use mathlib.Core.List.{List, [], ◌∷◌}
use mathlib.Core.Option.{none, some}
use Prim.Native.Nat.{ℕ, zero, suc, ◌-◌, ◌<◌}
use native.Mathlib.Omega.{arith}
use lib.ListN.{get_or}
use Rattle.model.specs.Automata.{has_left_side, target_in}
use Rattle.model.specs.Listing.{body_at, behind, rule_in, Read, broken, loaded, read_list}
use Rattle.model.specs.Entry.{loaded_by, load_seen}
use Rattle.model.specs.declared.Emitted.{Emitted}
use Rattle.list.specs.Loaded.{counted}
use Rattle.std.specs.Prelude.{Some, None}
use Rattle.list.specs.Blocks.{rules_in, after}
use Rattle.list_view.specs.declared.ShownRule.{ShownRule}
use Rattle.list_view.specs.Shown.{state, rule_shown, shown_by, shown_bytes}
use Rattle.list.proofs.Walk.{rules_in_head}

-- BLOCK BY BLOCK
pub after_head : (n : ℕ) (bs : List ℕ) → 0 < n → after n bs ≡ after (n - 1) (behind bs)
unfolding after
after_head zero bs l = absurd (omega arith)
after_head (suc n) bs l = let e : suc n - 1 ≡ n = omega arith in rw e

pub after_none : (n : ℕ) (bs : List ℕ) → n ≡ 0 → after n bs ≡ bs
unfolding after
after_none n bs e = rw e

module _ (a : ℕ) (qs : List ℕ) (n : ℕ) (bs : List ℕ) where
  at_head : 0 < n → target_in a qs (rules_in n bs) ≡ cond (has_left_side a qs (rule_in (body_at bs))) (some (rule_in (body_at bs)).target) (target_in a qs (rules_in (n - 1) (behind bs)))
  unfolding target_in
  at_head l = ap (target_in a qs) (rules_in_head n bs l)

  pub target_found_law : 0 < n → has_left_side a qs (rule_in (body_at bs)) ≡ true → target_in a qs (rules_in n bs) ≡ some (rule_in (body_at bs)).target
  target_found_law l e = at_head l ∙ rw e

  pub target_passed : 0 < n → has_left_side a qs (rule_in (body_at bs)) ≡ false → target_in a qs (rules_in n bs) ≡ target_in a qs (rules_in (n - 1) (behind bs))
  target_passed l e = at_head l ∙ rw e

  pub target_none : n ≡ 0 → target_in a qs (rules_in n bs) ≡ none
  unfolding target_in rules_in
  target_none e = rw e

-- ONE RULE from its bytes
pub rule_shown_law : (b us qs : List ℕ) {v₀ v₁ v₂ v₃ v₄ t : ℕ} → us ≡ b → qs ≡ (rule_in us).states → v₀ ≡ get_or us 0 0 → v₁ ≡ get_or qs 0 0 → v₂ ≡ get_or qs 1 0 → v₃ ≡ get_or qs 2 0 →
    v₄ ≡ get_or qs 3 0 → t ≡ (rule_in us).target → ◌≡◌ {A = ShownRule} (record { symbol = v₀; states = v₁ ∷ v₂ ∷ v₃ ∷ v₄ ∷ []; target = state t }) (rule_shown (rule_in b))
rule_shown_law b us qs body states e₀ e₁ e₂ e₃ e₄ e₅ =
    let f₁ = e₁ ∙ ap (λ (r : List ℕ). get_or r 0 0) states in
    let f₂ = e₂ ∙ ap (λ (r : List ℕ). get_or r 1 0) states in
    let f₃ = e₃ ∙ ap (λ (r : List ℕ). get_or r 2 0) states in
    let f₄ = e₄ ∙ ap (λ (r : List ℕ). get_or r 3 0) states in
    rw (e₀, f₁, f₂, f₃, f₄, e₅) (ap (λ (r : List ℕ). rule_shown (rule_in r)) body)

-- WHAT LOAD SAYS
pub all_shown : (bs : List ℕ) (n : ℕ) → counted (Some n) ≡ load_seen bs → bs ≡ shown_bytes bs
all_shown bs n l = go (read_list bs) l
  where
    go : (r : Read) → counted (Some n) ≡ loaded_by r → bs ≡ shown_by bs r
    go broken l = let e = ap (λ (e : Emitted). e.number) l in absurd (omega arith)
    go (loaded a) l = refl

pub none_shown : (bs : List ℕ) → counted None ≡ load_seen bs → [] ≡ shown_bytes bs
none_shown bs l = go (read_list bs) l
  where
    go : (r : Read) → counted None ≡ loaded_by r → [] ≡ shown_by bs r
    go broken l = refl
    go (loaded a) l = let e = ap (λ (e : Emitted). e.number) l in absurd (omega arith)

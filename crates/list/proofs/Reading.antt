-- The loop over rules (§6.2): after some blocks, what is to be read is what is left to be read behind the rules that these blocks hold.
-- A rule more is one step of rules_from; fuel is refilled, since more than the bytes is enough.
use mathlib.Core.Path.{◌≡◌, refl, sym, ap, ◌∙◌}
use mathlib.Core.Bool.{Bool, true, false}
use mathlib.Core.List.{List, [], ◌∷◌, ◌++◌}
use Prim.Native.Nat.{ℕ, ◌+◌, ◌≤◌, ◌<◌}
use native.Mathlib.Numerals.{add-one}
use native.Mathlib.Omega.{arith}
use lib.ListN.{length, length-append, length-drop}
use borrow.Author.Tests.{ne_eqb}
use Rattle.model.specs.Limits.{most_rules}
use Rattle.model.specs.Automata.{Rule}
use Rattle.model.specs.Listing.{size_at, body_at, behind, is_block, rule_in, broken, behind_rules, rules_from, finals_fit, read_finals}
use Rattle.model.proofs.Laws.RulesRead.{behind_less, rules_end, rules_next, rules_stop, rules_fuel, rules_many}
use Rattle.list.specs.Blocks.{rules_in, after, is_rule, read_rules}
use Rattle.list.proofs.Walk.{length_rules_in, after_next, rules_in_next}

pub record Reading (counts finals bytes at : List ℕ) (count : ℕ) : Type 0 where
  pub few : count ≤ most_rules
  pub place : at ≡ after count bytes
  pub left : read_rules counts finals bytes ≡ rules_from (length at + 1) counts finals (rules_in count bytes) at

pub reading_first : (ns fs bs : List ℕ) → Reading ns fs bs bs 0
unfolding rules_in after
reading_first ns fs bs = record { few = omega arith; place = refl; left = refl }

module _ {ns fs bs at : List ℕ} {n : ℕ} (r : Reading ns fs bs at n) where
  pub reading_end : is_block 3 at ≡ false → read_rules ns fs bs ≡ behind_rules ns fs (rules_in n bs) at
  reading_end e = r.left ∙ rules_end (length at + 1) ns fs (rules_in n bs) at e (omega arith)

  module _ (block : is_block 3 at ≡ true) where
    pub reading_stop : is_rule ns (length fs) (rules_in n bs) at ≡ false → read_rules ns fs bs ≡ broken
    reading_stop e = r.left ∙ rules_stop (length at + 1) ns fs (rules_in n bs) at block e

    one_more : is_rule ns (length fs) (rules_in n bs) at ≡ true →
        read_rules ns fs bs ≡ rules_from (length at) ns fs (rules_in n bs ++ (rule_in (body_at at) ∷ [])) (behind at)
    one_more e = r.left ∙ ap (λ (k : ℕ). rules_from k ns fs (rules_in n bs) at) (add-one (length at)) ∙ rules_next (length at) ns fs (rules_in n bs) at block e

    pub reading_many : most_rules ≤ n → read_rules ns fs bs ≡ broken
    reading_many l = go (is_rule ns (length fs) (rules_in n bs) at) refl
      where
        go : (t : Bool) → is_rule ns (length fs) (rules_in n bs) at ≡ t → read_rules ns fs bs ≡ broken
        go false e = reading_stop e
        go true e =
            let k = length_rules_in n bs in
            let m = length-append (rules_in n bs) (rule_in (body_at at) ∷ []) in
            one_more e ∙ rules_many (length at) ns fs (rules_in n bs ++ (rule_in (body_at at) ∷ [])) (behind at) (omega arith)

    pub reading_next : n < most_rules → is_rule ns (length fs) (rules_in n bs) at ≡ true → (us : List ℕ) → us ≡ behind at → Reading ns fs bs us (n + 1)
    reading_next l e us is =
        let b = behind_less 3 at block in
        let rules : rules_in n bs ++ (rule_in (body_at at) ∷ []) ≡ rules_in (n + 1) bs =
        ap (λ (c : List ℕ). rules_in n bs ++ (rule_in (body_at c) ∷ [])) r.place ∙ sym (rules_in_next n bs) in
        record {
          few = omega arith;
          place = is ∙ ap behind r.place ∙ sym (after_next n bs);
          left = one_more e ∙ rules_fuel (length at) (length (behind at) + 1) ns fs (rules_in n bs ++ (rule_in (body_at at) ∷ [])) (behind at) b (omega arith) ∙
              ap (λ (rs : List Rule). rules_from (length (behind at) + 1) ns fs rs (behind at)) rules ∙
              ap (λ (c : List ℕ). rules_from (length c + 1) ns fs (rules_in (n + 1) bs) c) (sym is);
        }

-- WHAT IS BEHIND the rules
pub behind_some : (ns fs : List ℕ) (rs : List Rule) (bs : List ℕ) → 0 < length bs → behind_rules ns fs rs bs ≡ broken
behind_some ns fs rs bs l = rw (ne_eqb (length bs) 0 (λ e. omega arith))

-- after as many rules as a list may have: nothing, or what was to be read is no list
pub reading_full : {ns fs bs at : List ℕ} {n : ℕ} → Reading ns fs bs at n → most_rules ≤ n → read_rules ns fs bs ≡ behind_rules ns fs (rules_in n bs) at
reading_full {ns} {fs} {bs} {at} {n} r l = go (is_block 3 at) refl
  where
    go : (t : Bool) → is_block 3 at ≡ t → read_rules ns fs bs ≡ behind_rules ns fs (rules_in n bs) at
    go false e = reading_end r e
    go true e = let b = behind_less 3 at e in reading_many r e l ∙ sym (behind_some ns fs (rules_in n bs) at (omega arith))

-- THE STATES, then the rules
pub finals_read : (ns us : List ℕ) → is_block 2 us ≡ true → finals_fit (body_at us) ≡ true → read_finals ns us ≡ read_rules ns (body_at us) (behind us)
finals_read ns us e f =
    let l = length-drop (6 + size_at us) us in
    rw (e, f) (rules_fuel (length us + 1) (length (behind us) + 1) ns (body_at us) [] (behind us) (omega arith) (omega arith))

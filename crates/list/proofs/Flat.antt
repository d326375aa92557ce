-- Flat rules (six numbers a rule): the block of one from its parts, one by one to the end, and how many bytes their blocks are.
-- By the seams of take and drop, and by induction on the count of rules.
use mathlib.Core.Path.{◌≡◌, refl, sym, ap, ◌∙◌}
use mathlib.Core.List.{List, [], ◌∷◌, ◌++◌, map, append_assoc}
use Prim.Native.Nat.{ℕ, zero, suc, ◌+◌, ◌*◌, ◌/◌, ◌%◌, ◌≤◌, ◌<◌}
use native.Mathlib.Omega.{arith}
use lib.ListN.{length, get_or, take, drop, length-append, length-drop, take-append-drop, get_or-append}
use lib.Seq.{length-take-le, drop-cons, take-append-le, drop-append-le, drop-drop, drop_at}
use Rattle.std.specs.Int.{w16, w32, to_le_bytes}
use Rattle.model.specs.Automata.{Rule}
use Rattle.model.specs.Listing.{little, block_of, rule_body, rule_blocks}
use Rattle.model.proofs.Laws.Blocks.{length_block}
use Rattle.model.proofs.Laws.RuleBodies.{length_rule_body}
use Rattle.list.specs.Put.{put_at}
use Rattle.list.specs.Flat.{rule_width, flat_width, flat_rule, flat_rules_in, flat_rules}
use Rattle.list.proofs.Put.{put_three}

-- THE BYTES of a number, lowest first, as a block has them
pub four_bytes : (n : ℕ) → to_le_bytes w32 n ≡ little 4 n
unfolding little
four_bytes n =
    let a : n / 65536 % 256 ≡ n / 256 / 256 % 256 = omega arith in
    let b : n / 16777216 % 256 ≡ n / 256 / 256 / 256 % 256 = omega arith in
    cc

pub two_bytes : (n : ℕ) → to_le_bytes w16 n ≡ little 2 n
unfolding little
two_bytes n = refl

pub length_four : (n : ℕ) → length (little 4 n) ≡ 4
unfolding little
length_four n = refl

pub length_head : (n k : ℕ) → length (little 4 n ++ little 2 k) ≡ 6
unfolding little
length_head n k = refl

-- ONE RULE
module _ (ns us : List ℕ) (whole : rule_width ≤ length us) where
  pub flat_states : length (flat_rule ns us).states ≡ flat_width ns (get_or us 0 0)
  flat_states = let d = length-drop 1 us in length-take-le (flat_width ns (get_or us 0 0)) (drop 1 us) (omega arith)

  front : (n : ℕ) → take (suc n) us ≡ get_or us 0 0 ∷ take n (drop 1 us)
  front n = ap (take (suc n)) (drop-cons us 0 0 (omega arith))

  last : take 1 (drop 5 us) ≡ get_or us 5 0 ∷ []
  last = ap (take 1) (drop-cons us 5 0 (omega arith))

  pub flat_body : take (suc (flat_width ns (get_or us 0 0))) us ++ take 1 (drop 5 us) ≡ rule_body (flat_rule ns us)
  flat_body = let f = front (flat_width ns (get_or us 0 0)) in let l = last in cc

  pub flat_block : (little 4 (flat_width ns (get_or us 0 0) + 2) ++ little 2 3) ++ take (suc (flat_width ns (get_or us 0 0))) us ++ take 1 (drop 5 us) ≡
      block_of 3 (rule_body (flat_rule ns us))
  flat_block =
      let s = flat_states in
      let b = length_rule_body (flat_rule ns us) in
      let n : flat_width ns (get_or us 0 0) + 2 ≡ length (rule_body (flat_rule ns us)) = omega arith in
      append_assoc (little 4 (flat_width ns (get_or us 0 0) + 2) ++ little 2 3) (take (suc (flat_width ns (get_or us 0 0))) us) (take 1 (drop 5 us)) ∙
      ap (λ (b : List ℕ). (little 4 (flat_width ns (get_or us 0 0) + 2) ++ little 2 3) ++ b) flat_body ∙
      ap (λ (k : ℕ). little 4 k ++ little 2 3 ++ rule_body (flat_rule ns us)) n

  -- a rule's block, written in three runs: n is its count of child states
  module _ (n : ℕ) (is : n ≡ flat_width ns (get_or us 0 0)) where
    pub part_long : length (take (n + 1) us) ≡ n + 1
    part_long = length-take-le (n + 1) us (omega arith)

    pub rule_put : (p q r : ℕ) (o : List ℕ) {o₁ o₂ o₃ : List ℕ} → p + (8 + n) ≤ length o → q ≡ p + 6 → r ≡ q + length (take (n + 1) us) →
        o₁ ≡ put_at p (little 4 (n + 2) ++ little 2 3) o → o₂ ≡ put_at q (take (n + 1) us) o₁ → o₃ ≡ put_at r (take 1 (drop 5 us)) o₂ →
        o₃ ≡ put_at p (block_of 3 (rule_body (flat_rule ns us))) o
    rule_put p q r o fits after end e f g =
        let k : n + 1 ≡ suc (flat_width ns (get_or us 0 0)) = omega arith in
        let l = length_head (n + 2) 3 in
        let m = part_long in
        put_three p q r (little 4 (n + 2) ++ little 2 3) (take (n + 1) us) (take 1 (drop 5 us)) o (omega arith) (omega arith) end e f g ∙
        ap (λ (j : ℕ). put_at p ((little 4 (n + 2) ++ little 2 3) ++ take j us ++ take 1 (drop 5 us)) o) k ∙
        ap (λ (j : ℕ). put_at p ((little 4 (j + 2) ++ little 2 3) ++ take (suc (flat_width ns (get_or us 0 0))) us ++ take 1 (drop 5 us)) o) is ∙
        ap (λ (b : List ℕ). put_at p b o) flat_block

-- ALL RULES, the first and then the others
rule_front : (ns xs ys : List ℕ) → rule_width ≤ length xs → flat_rule ns (xs ++ ys) ≡ flat_rule ns xs
rule_front ns xs ys l =
    let d = length-drop 1 xs in
    let symbol = get_or-append xs ys 0 0 (omega arith) in
    let target = get_or-append xs ys 0 5 (omega arith) in
    let rest = drop-append-le 1 xs ys (omega arith) in
    let states = take-append-le (flat_width ns (get_or xs 0 0)) (drop 1 xs) ys (omega arith) in
    cc

module _ (ns us : List ℕ) where
  -- THEIR BLOCKS
  pub blocks_none : length us < rule_width → rule_blocks (flat_rules ns us) ≡ []
  unfolding flat_rules_in rule_blocks
  blocks_none l = let e : length us / rule_width ≡ 0 = omega arith in ap (λ (n : ℕ). rule_blocks (flat_rules_in n ns us)) e

  pub flat_more : rule_width ≤ length us → flat_rules ns us ≡ flat_rule ns us ∷ flat_rules ns (drop rule_width us)
  unfolding flat_rules_in
  flat_more l =
      let d = length-drop rule_width us in
      let e : length us / rule_width ≡ suc (length (drop rule_width us) / rule_width) = omega arith in
      ap (λ (n : ℕ). flat_rules_in n ns us) e

  pub length_rule : length (block_of 3 (rule_body (flat_rule ns us))) ≡ 8 + length (flat_rule ns us).states
  length_rule = let b = length_block 3 (rule_body (flat_rule ns us)) in let m = length_rule_body (flat_rule ns us) in omega arith

  -- the first rule's numbers are x, the others' are rest
  module _ (x rest : List ℕ) (is : us ≡ x ++ rest) (six : length x ≡ rule_width) where
    flat_first : flat_rules ns us ≡ flat_rule ns x ∷ flat_rules ns rest
    flat_first =
        let l = length-append x rest in
        let long : rule_width ≤ length us = omega (arith, ap length is) in
        let first : flat_rule ns us ≡ flat_rule ns x = ap (flat_rule ns) is ∙ rule_front ns x rest (omega arith) in
        let others : drop rule_width us ≡ rest = ap (drop rule_width) is ∙ drop_at x rest rule_width six in
        flat_more long ∙ ap (λ (r : Rule). r ∷ flat_rules ns (drop rule_width us)) first ∙ ap (λ (vs : List ℕ). flat_rule ns x ∷ flat_rules ns vs) others

    pub blocks_first : rule_blocks (flat_rules ns us) ≡ block_of 3 (rule_body (flat_rule ns x)) ++ rule_blocks (flat_rules ns rest)
    unfolding rule_blocks
    blocks_first = ap rule_blocks flat_first

pub length_first : (ns us x rest : List ℕ) → us ≡ x ++ rest → length x ≡ rule_width →
    length (rule_blocks (flat_rules ns us)) ≡ 8 + flat_width ns (get_or x 0 0) + length (rule_blocks (flat_rules ns rest))
length_first ns us x rest is six =
    let b = length_rule ns x in
    let s = flat_states ns x (omega arith) in
    ap length (blocks_first ns us x rest is six) ∙ length-append (block_of 3 (rule_body (flat_rule ns x))) (rule_blocks (flat_rules ns rest)) ∙ omega arith

-- at most twelve bytes a rule
few_blocks : (n : ℕ) (ns us : List ℕ) → rule_width * n ≤ length us → length (rule_blocks (flat_rules_in n ns us)) ≤ 12 * n
unfolding flat_rules_in rule_blocks
few_blocks zero ns us l = omega arith
few_blocks (suc n) ns us l =
    let d = length-drop rule_width us in
    let i = few_blocks n ns (drop rule_width us) (omega arith) in
    let b = length_rule ns us in
    let s = flat_states ns us (omega arith) in
    let a = length-append (block_of 3 (rule_body (flat_rule ns us))) (rule_blocks (flat_rules_in n ns (drop rule_width us))) in
    omega arith

pub blocks_few : (ns us : List ℕ) → length (rule_blocks (flat_rules ns us)) ≤ 2 * length us
blocks_few ns us = let i = few_blocks (length us / rule_width) ns us (omega arith) in omega arith

-- FOR A CALLER: a part of longer numbers, and rules that are made one for each member of a list
rules_front : (n : ℕ) (ns xs ys : List ℕ) → rule_width * n ≤ length xs → flat_rules_in n ns (xs ++ ys) ≡ flat_rules_in n ns xs
unfolding flat_rules_in
rules_front zero ns xs ys l = refl
rules_front (suc n) ns xs ys l =
    let d = length-drop rule_width xs in
    let first = rule_front ns xs ys (omega arith) in
    let rest = ap (flat_rules_in n ns) (drop-append-le rule_width xs ys (omega arith)) ∙ rules_front n ns (drop rule_width xs) ys (omega arith) in
    cc

pub flat_part : (n : ℕ) (ns us : List ℕ) → rule_width * n ≤ length us → flat_rules ns (take (rule_width * n) us) ≡ flat_rules_in n ns us
flat_part n ns us l =
    let t = length-take-le (rule_width * n) us l in
    let e : length (take (rule_width * n) us) / rule_width ≡ n = omega arith in
    ap (λ (k : ℕ). flat_rules_in k ns (take (rule_width * n) us)) e ∙ sym (rules_front n ns (take (rule_width * n) us) (drop (rule_width * n) us) (omega arith)) ∙
    ap (flat_rules_in n ns) (take-append-drop (rule_width * n) us)

pub flat_each : (f : ℕ → Rule) (ns ts us : List ℕ) → ((k : ℕ) → k < length ts → flat_rule ns (drop (rule_width * k) us) ≡ f (get_or ts k 0)) → flat_rules_in (length ts) ns us ≡ map f ts
unfolding flat_rules_in
flat_each f ns [] us each = refl
flat_each f ns (t ∷ ts) us each =
    let first : flat_rule ns us ≡ f t = each 0 (omega arith) in
    let rest = flat_each f ns ts (drop rule_width us) (λ k l.
    let e : rule_width + rule_width * k ≡ rule_width * suc k = omega arith in
    ap (flat_rule ns) (drop-drop (rule_width * k) rule_width us ∙ ap (λ (n : ℕ). drop n us) e) ∙ each (suc k) (omega arith)) in
    cc

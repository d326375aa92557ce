-- The loop that writes rules (§6.1): what is still to be put behind the place is what was to be put at the start.
-- A rule more is one run put in front of the others.
use mathlib.Core.Path.{◌≡◌, sym, ap, ◌∙◌}
use mathlib.Core.List.{List, [], ◌++◌}
use Prim.Native.Nat.{ℕ, ◌+◌, ◌≤◌, ◌<◌}
use native.Mathlib.Omega.{arith}
use lib.ListN.{length}
use lib.Seq.{paste-zero}
use Rattle.model.specs.Base.{over}
use Rattle.model.specs.Listing.{block_of, rule_body, rule_blocks, emitted}
use Rattle.model.proofs.Laws.Blocks.{length_block}
use Rattle.model.proofs.Laws.Listing.{length_emitted}
use Rattle.list.specs.Flat.{flat_rule, flat_rules, flat_sheet}
use Rattle.list.specs.Put.{put_at}
use Rattle.list.proofs.Put.{put_put, put_length, put_three, put_over}
use Rattle.list.proofs.Flat.{flat_states, blocks_none, blocks_first, length_rule, length_first}

abbrev pub blocks : (counts flat : List ℕ) → List ℕ
blocks ns us = rule_blocks (flat_rules ns us)

pub record Writing (counts flat out : List ℕ) (start : ℕ) (now left : List ℕ) (at : ℕ) : Type 0 where
  pub long : length now ≡ length out
  pub ends : at + length (blocks counts left) ≡ start + length (blocks counts flat)
  pub bytes : put_at at (blocks counts left) now ≡ put_at start (blocks counts flat) out

module _ {ns us o : List ℕ} {start : ℕ} {now left : List ℕ} {at : ℕ} (w : Writing ns us o start now left at) (fits : start + length (blocks ns us) ≤ length o) where
  -- x is the first rule of what is left, later the others
  module _ (x later : List ℕ) (is : left ≡ x ++ later) (six : length x ≡ 6) where
    pub room : at + (8 + length (flat_rule ns x).states) ≤ length now
    room =
        let l = length_first ns left x later is six in
        let s = flat_states ns x (omega arith) in
        omega (arith, w.ends, w.long)

    pub writing_next : (new : List ℕ) (next : ℕ) → next ≡ at + (8 + length (flat_rule ns x).states) → new ≡ put_at at (block_of 3 (rule_body (flat_rule ns x))) now →
        Writing ns us o start new later next
    writing_next new next place put =
        let l = length_first ns left x later is six in
        let s = flat_states ns x (omega arith) in
        let r = length_rule ns x in
        let in_room : at + length (block_of 3 (rule_body (flat_rule ns x))) ≤ length now = omega (arith, room) in
        record {
          long = ap length put ∙ put_length at (block_of 3 (rule_body (flat_rule ns x))) now in_room ∙ w.long;
          ends = omega (arith, w.ends);
          bytes = ap (put_at next (blocks ns later)) put ∙ put_put at (block_of 3 (rule_body (flat_rule ns x))) now in_room (blocks ns later) next (omega arith) ∙
              ap (λ (c : List ℕ). put_at at c now) (sym (blocks_first ns left x later is six)) ∙ w.bytes;
        }

  pub writing_end : length left < 6 → (at ≡ start + length (blocks ns us)) × (now ≡ put_at start (blocks ns us) o)
  writing_end none =
      let b : blocks ns left ≡ [] = blocks_none ns left none in
      let l = ap length b in
      (omega (arith, w.ends), paste-zero now at [] ∙ ap (λ (c : List ℕ). put_at at c now) (sym b) ∙ w.bytes)

-- THE WHOLE LIST in three runs
module _ (ns fs us : List ℕ) where
  pub length_list : length (emitted (flat_sheet ns fs us)) ≡ 12 + length ns + length fs + length (blocks ns us)
  length_list = let l = length_emitted (flat_sheet ns fs us) in omega arith

  pub list_put : (q r : ℕ) (o : List ℕ) {o₁ o₂ o₃ : List ℕ} → length (emitted (flat_sheet ns fs us)) ≤ length o → q ≡ 0 + (6 + length ns) → r ≡ q + (6 + length fs) →
      o₁ ≡ put_at 0 (block_of 1 ns) o → o₂ ≡ put_at q (block_of 2 fs) o₁ → o₃ ≡ put_at r (blocks ns us) o₂ → o₃ ≡ over (emitted (flat_sheet ns fs us)) o
  list_put q r o fits is is' e f g =
      let l = length_list in
      let c = length_block 1 ns in
      let d = length_block 2 fs in
      put_three 0 q r (block_of 1 ns) (block_of 2 fs) (blocks ns us) o (omega arith) (omega arith) (omega arith) e f g ∙ put_over (emitted (flat_sheet ns fs us)) o

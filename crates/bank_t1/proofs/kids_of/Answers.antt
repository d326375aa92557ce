-- `bank_t1::kids_of` meets its contract: each child read is a step of the walk along them.
use Rattle.std.proofs.Common.{◌≡◌, ◌∙◌, sym, ap, arith, ℕ, ◌+◌, ◌<◌, Bool, List}
use Rattle.bank.specs.Rows.{kid_in}
use Rattle.bank_t1.specs.Pass.{hole_by}
use Rattle.bank_t1.proofs.Laws.Kids.{late, second, hole_here, none_here, said}
use Rattle.bank_t1.proofs.kids_of.Invariants.{left_say}
use Rattle.bank_t1.proofs.kids_of.Goals.{then-has_hole+else-hole-ne0, else-has_hole}
use Rattle.bank_t1.proofs.kids_of.Goals as goal

pub returns-then-row-kid : goal.returns-then-row-kid
returns-then-row-kid c =
    let a = c.args in
    let l = c.loop-k in
    let b = c.kid_of-kid.ensures in
    sym (late (hole_by a.index.now) a.words.now a.row.0 a.count c.requires.2 l.k l.hole c.loop-k-test.true (omega arith)) ∙ l.invariant

-- the child that was read: an earlier row, and whether it has a hole
read : (xs : List ℕ) (j k : ℕ) (r b : Bool) → j ≡ k → r ≡ hole_by xs j → r ≡ b → hole_by xs k ≡ b
read xs j k r b e f g = ap (hole_by xs) (sym e) ∙ sym f ∙ g

pub returns-then-hole-ne0 : goal.returns-then-hole-ne0
returns-then-hole-ne0 c =
    let a = c.args in
    let l = c.loop-k in
    let b = c.kid_of-kid.ensures in
    let p = read a.index.now _ (kid_in a.words.now a.row.0 l.k) _ _ b c.has_hole.ensures c.if-has_hole.true in
    sym (second (hole_by a.index.now) a.words.now a.row.0 a.count c.requires.2 l.k l.hole c.loop-k-test.true (omega arith) p c.if-hole-ne0.true) ∙ l.invariant

pub loop-k-preserved : goal.loop-k-preserved
loop-k-preserved c =
    let a = c.args in
    let l = c.loop-k in
    let b = c.kid_of-kid.ensures in
    let early : kid_in a.words.now a.row.0 l.k < a.row.0 = omega arith in
    let next = left_say a.words.now a.index.now a.row.0 a.count (l.k + 1) in
    elim c.if-has_hole.branch [
      | then-has_hole+else-hole-ne0 w ↦
          let p = read a.index.now _ (kid_in a.words.now a.row.0 l.k) _ _ b c.has_hole.ensures w.if-has_hole.true in
          ap next w.hole-is ∙ sym (hole_here (hole_by a.index.now) a.words.now a.row.0 a.count c.requires.2 l.k l.hole c.loop-k-test.true early p w.if-hole-ne0.false) ∙ l.invariant
      | else-has_hole w ↦
          let p = read a.index.now _ (kid_in a.words.now a.row.0 l.k) _ _ b c.has_hole.ensures w.if-has_hole.false in
          ap next w.hole-is ∙ sym (none_here (hole_by a.index.now) a.words.now a.row.0 a.count c.requires.2 l.k l.hole c.loop-k-test.true early p) ∙ l.invariant
    ]

pub returns : goal.returns
returns c =
    let a = c.args in
    let l = c.loop-k in
    sym (said (hole_by a.index.now) a.words.now a.row.0 a.count c.requires.2 l.k l.hole c.loop-k-test.false) ∙ l.invariant

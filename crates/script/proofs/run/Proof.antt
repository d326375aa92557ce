-- `script::run` meets its contract: what was read is answered, all of it unless a write failed.
-- The invariant: the place is behind the last newline read, and turns over the bytes before it have led there. A read changes none of these bytes,
-- so the turns stay; over whole lines they stop behind the last newline. The measure is the room that is left.
use mathlib.Core.Path.{◌≡◌, refl, sym, subst, ◌∙◌}
use mathlib.Core.Logic.{⊎_elim}
use mathlib.Core.Bool.{true≢false}
use mathlib.Core.List.{List, []}
use Prim.Native.Nat.{ℕ, ◌+◌, ◌-◌, ◌≤◌}
use native.Mathlib.Omega.{arith}
use borrow.Author.Rules.{rules}
use borrow.Author.Tests.{not-true, not-false}
use lib.ListN.{length, take, length-take}
use lib.Seq.{length-take-le}
use Rattle.script.specs.LineEnd.{whole_from}
use Rattle.script.specs.Turns.{Reached, AllSaid}
use Rattle.script.proofs.Turns.{all_said, reached_none}
use Rattle.script.proofs.Lines.{whole_empty}
use Rattle.script.proofs.Rounds.{Round, round_all, round_lines, round_far, round_reached, round_stop}
use Rattle.script.proofs.run.Statement.{statement}
use Rattle.script.proofs.run.Tie as tie

abbrev invariant-loop : tie.invariant-loop-rt
invariant-loop rt words₀ input₀ out₀ script₀ at₀ read₀ words input out script at read =
    (read ≤ length input) × (length input ≡ length input₀) × (length words ≡ length words₀) × (length out ≡ length out₀) × (at ≡ whole_from 0 0 (take read input)) ×
    Reached (take at input) words script at

abbrev decreases-loop : tie.decreases-loop-rt
decreases-loop rt words₀ input₀ out₀ script₀ at₀ read₀ words input out script at read = length input₀ - read

fresh-requires : tie.Need-fresh-script-requires invariant-loop decreases-loop
fresh-requires c κs = search rules

loop-holds : tie.Need-loop-rt-init invariant-loop decreases-loop
loop-holds c =
    let s = c in
    (omega arith, refl, refl, refl, whole_empty, reached_none [] s.args.words.now c.fresh-script.result s.requires.0 c.fresh-script.ensures)

read-more-requires : tie.Need-read_more-got-requires invariant-loop decreases-loop
read-more-requires c κs = search rules

add-size : tie.Need-overflow_add-size invariant-loop decreases-loop
add-size c = search rules

slice-reshare-prefix-whole : tie.Need-slice_bounds-whole-end invariant-loop decreases-loop
slice-reshare-prefix-whole c = search rules

slice-aggregate-whole : tie.Need-slice_bounds-whole-end-in-loop-rt invariant-loop decreases-loop
slice-aggregate-whole c =
    let r = c.read_more-got in
    sym (length-take-le (c.loop-rt.read + r.result) r.new.input (omega (arith, r.ensures.within, r.ensures.room)))

whole-requires : tie.Need-whole-end-requires invariant-loop decreases-loop
whole-requires c κs =
    let r = c.read_more-got in
    let k = length-take-le (c.loop-rt.read + r.result) r.new.input (omega (arith, r.ensures.within, r.ensures.room)) in
    omega (arith, k)

-- the input after the read
abbrev input' : tie.After-whole-end invariant-loop decreases-loop → List ℕ
input' c = c.read_more-got.new.input

round : (c : tie.After-whole-end invariant-loop decreases-loop) →
    Round c.loop-rt.input (input' c) c.loop-rt.read c.read_more-got.result c.loop-rt.at c.whole-end.result
round c =
    let i = c.loop-rt.invariant in
    record { came = c.read_more-got.ensures; read_within = i.0; known = i.4; bank = c.whole-end.ensures }

end_within : (c : tie.After-whole-end invariant-loop decreases-loop) → c.whole-end.result ≤ length (input' c)
end_within c = let r = round c in omega (arith, (round_far r).1, r.came.within, r.came.room)

slice-reshare-prefix-answer : tie.Need-slice_bounds-answer-end invariant-loop decreases-loop
slice-reshare-prefix-answer c = end_within c.before

slice-aggregate-answer : tie.Need-slice_bounds-answer-end-in-loop-rt invariant-loop decreases-loop
slice-aggregate-answer c =
    let w = c.before in
    sym (length-take-le w.whole-end.result (input' w) (end_within w))

answer-requires : tie.Need-answer-left-requires invariant-loop decreases-loop
answer-requires c κs =
    let w = c.before.before in
    let i = w.loop-rt.invariant in
    (round_reached (round w) i.5, omega (arith, i.3, w.requires.2))

same_length : tie.Need-shape_of-words-then-got-eq0 invariant-loop decreases-loop
same_length c = search rules

same-length-2 : tie.Need-shape_of-input-then-got-eq0 invariant-loop decreases-loop
same-length-2 c = search rules

same-length-3 : tie.Need-shape_of-out-then-got-eq0 invariant-loop decreases-loop
same-length-3 c = search rules

returns : tie.Need-returns-then-got-eq0 invariant-loop decreases-loop
returns c =
    let a = c.before.before.before.before.before.before in
    let w = a.before.before.before in
    let r = round w in
    let n = length-take w.whole-end.result (input' w) in
    record {
      within = omega (arith, r.came.within, w.loop-rt.invariant.1, w.requires.1);
      all =
          λ e.
          let g = ⊎_elim (λ v. v.if-got-eq0.true) (λ v. absurd (true≢false (sym e ∙ not-true _ v.if-not-written.true-raw))) c.then-got-eq0.branch-raw in
          subst (λ (k : ℕ). AllSaid (take k (input' w)) a.answer-left.new.words) (round_all r g)
          (all_said (omega (arith, n, r.came.room, w.loop-rt.invariant.1, w.requires.1)) a.answer-left.ensures.reached.turns (a.answer-left.ensures.passed e));
    }

loop-less : tie.Need-loop-rt-smaller invariant-loop decreases-loop
loop-less c =
    let w = c.before.before.before.before.before.before.before.before.before.before in
    let r = round w in
    omega (arith, c.before.if-got-eq0.false, r.came.within, w.loop-rt.invariant.1)

loop-again : tie.Need-loop-rt-preserved invariant-loop decreases-loop
loop-again c =
    let a = c.before.before.before.before.before.before.before in
    let w = a.before.before.before in
    let r = round w in
    let h = a.answer-left.ensures in
    let e = round_stop r c.before.if-got-eq0.false h.reached (h.passed (not-false _ c.if-not-written.false-raw)) in (
      omega (arith, r.came.within, r.came.room),
      r.came.room ∙ w.loop-rt.invariant.1,
      search rules,
      search rules,
      e ∙ round_lines r c.before.if-got-eq0.false,
      subst (λ (k : ℕ). Reached (take k (input' w)) a.answer-left.new.words a.answer-left.result.script a.answer-left.result.at) (sym e)
          h.reached,
    )

pub run_spec : {M : Type 1} → statement M
run_spec =
    tie.close
    (tie.spec
    invariant-loop
    decreases-loop
    fresh-requires
    loop-holds
    read-more-requires
    add-size
    slice-reshare-prefix-whole
    slice-aggregate-whole
    whole-requires
    slice-reshare-prefix-answer
    slice-aggregate-answer
    answer-requires
    same_length
    same-length-2
    same-length-3
    returns
    loop-less
    loop-again)

-- `script::answer` meets its contract: turns lead from the place where it begins to the place where it stops.
-- The invariant: turns have led to the words, the script and the place; each turn leads on. The measure is what is left of the input.
use mathlib.Core.Path.{◌≡◌, refl, sym}
use mathlib.Core.Bool.{true≢false}
use Prim.Native.Nat.{◌-◌}
use native.Mathlib.Omega.{arith}
use borrow.Author.Rules.{rules}
use lib.ListN.{length}
use lib.Seq.{length-take-le}
use Rattle.script.specs.Turns.{Reached}
use Rattle.script.proofs.Laws.{turn_within}
use Rattle.script.proofs.Turns.{turn_reached}
use Rattle.script.proofs.answer.Statement.{statement}
use Rattle.script.proofs.answer.Tie as tie

abbrev invariant-loop : tie.invariant-loop-at
invariant-loop words₀ input at out₀ rt script₀ at₀ words out script at' = Reached input words script at' × (length words ≡ length words₀) × (length out ≡ length out₀)

abbrev decreases-loop : tie.decreases-loop-at
decreases-loop words₀ input at out₀ rt script₀ at₀ words out script at' = length input - at'

loop-holds : tie.Need-loop-at-init invariant-loop decreases-loop
loop-holds c = (c.requires.0, refl, refl)

turn-requires : tie.Need-turn-turned-requires invariant-loop decreases-loop
turn-requires c κs = search rules

slice-reshare-prefix-write-all : tie.Need-slice_bounds-write_all-end invariant-loop decreases-loop
slice-reshare-prefix-write-all c = turn_within c.turn-turned.ensures

slice-aggregate-write-all : tie.Need-slice_bounds-write_all-end-in-loop-at invariant-loop decreases-loop
slice-aggregate-write-all c =
    let r = c.turn-turned in
    sym (length-take-le r.result.size r.new.out (turn_within r.ensures))

write-all-requires : tie.Need-write_all-requires invariant-loop decreases-loop
write-all-requires c κs = search rules

is-err-requires : tie.Need-is_err-requires invariant-loop decreases-loop
is-err-requires c κs = search rules

same_length : tie.Need-shape_of-words-then-is_err invariant-loop decreases-loop
same_length c = search rules

same-length-2 : tie.Need-shape_of-out-then-is_err invariant-loop decreases-loop
same-length-2 c = search rules

returns : tie.Need-returns-then-is_err invariant-loop decreases-loop
returns c = record { reached = turn_reached c.loop-at.invariant.0 c.loop-at-test.true c.turn-turned.ensures; passed = λ e. absurd (true≢false (sym e)) }

loop-less : tie.Need-loop-at-smaller invariant-loop decreases-loop
loop-less c = omega (arith, c.turn-turned.ensures.next, c.loop-at-test.true)

loop-again : tie.Need-loop-at-preserved invariant-loop decreases-loop
loop-again c = (turn_reached c.loop-at.invariant.0 c.loop-at-test.true c.turn-turned.ensures, search rules, search rules)

same-length-3 : tie.Need-shape_of-words invariant-loop decreases-loop
same-length-3 c = search rules

same-length-4 : tie.Need-shape_of-out invariant-loop decreases-loop
same-length-4 c = search rules

returns-2 : tie.Need-returns invariant-loop decreases-loop
returns-2 c = record { reached = c.loop-at.invariant.0; passed = λ e. omega arith }

pub answer_spec : {M : Type 1} → statement M
answer_spec =
    tie.close
    (tie.spec
    invariant-loop
    decreases-loop
    loop-holds
    turn-requires
    slice-reshare-prefix-write-all
    slice-aggregate-write-all
    write-all-requires
    is-err-requires
    same_length
    same-length-2
    returns
    loop-less
    loop-again
    same-length-3
    same-length-4
    returns-2)

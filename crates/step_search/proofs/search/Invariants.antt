-- The search from the record in hand is the search from the first one, by any tables that the representatives are of.
-- A turn leaves fewer occurrences of rows that are not their own representatives.
use Rattle.model.specs.TableFacts.{HandFits}
use Rattle.model.specs.Entry.{store_of, answers_in}
use Rattle.step_search.specs.Spots.{Noted}
use Rattle.step_search.proofs.Laws.Among.{outside_own}
use Rattle.step_search.proofs.Laws.Turns.{InHand}
use Rattle.std.proofs.Common.{List, ℕ}
use Rattle.step_search.proofs.search.Given as goal

abbrev pub invariant-loop-h : goal.invariant-loop-h
invariant-loop-h l =
    let x = store_of l.bank.words l.bank.counts l.bank.used in
    let w = answers_in l.bank.used l.bank.words in
    (s t cs : List ℕ) → Noted x w s t cs l.reps → HandFits x w s t cs l.fn.hand.0 → InHand x w s t cs l.fn.hand.0 l.h

abbrev pub decreases-loop-h : goal.decreases-loop-h
decreases-loop-h l = outside_own l.reps (store_of l.bank.words l.bank.counts l.bank.used) l.h

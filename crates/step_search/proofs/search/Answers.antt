-- `step_search::search` meets its contract, by the laws of Walk: a turn to an equal answer goes on, and each other way out of a turn is one of the definition's.
use Rattle.std.proofs.Common.{List, ℕ}
use Rattle.model.specs.TableFacts.{HandFits}
use Rattle.model.specs.Entry.{store_of, answers_in}
use Rattle.bank.specs.Bank.{Bank}
use Rattle.step_search.specs.Spots.{Noted, TurnsBy, Handed, not_own}
use Rattle.step_search.proofs.Laws.Turns.{InHand, starts}
use Rattle.step_search.proofs.Laws.Walk.{Walking, in_hand, within_at, within_exchanged, within_reps, stops_new, next_used, stops_unknown, stops_different, steps, steps_less}
use Rattle.step_search.proofs.search.Goals as goal

module _ {ws ns ix reps at ex : List ℕ} {n first h : ℕ} (r : Bank ws ns n ix) (d : TurnsBy (not_own reps) reps (store_of ws ns n) at ex n)
    (v : (s t cs : List ℕ) → Noted (store_of ws ns n) (answers_in n ws) s t cs reps → HandFits (store_of ws ns n) (answers_in n ws) s t cs first →
    InHand (store_of ws ns n) (answers_in n ws) s t cs first h) where
  -- by any tables that the representatives are of
  walking : (s t cs : List ℕ) → Noted (store_of ws ns n) (answers_in n ws) s t cs reps → HandFits (store_of ws ns n) (answers_in n ws) s t cs first →
      Walking ws ns n s t cs reps at ex first h
  walking s t cs f q = record { few = r.finding.few; turns = d; noted = f; hand = v s t cs f q }

  -- there are some
  some : (e : Handed (store_of ws ns n) (answers_in n ws) reps first) → Walking ws ns n e.s e.t e.cs reps at ex first h
  some e = walking e.s e.t e.cs e.noted e.fits

pub loop-h-init : goal.loop-h-init
loop-h-init c = λ s t cs f q. starts q

pub bounds-at-h : goal.bounds-at-h
bounds-at-h c = within_at (some c.used.ensures.ready c.requires.0 c.loop-h.invariant c.requires.1)

pub bounds-reps-spot : goal.bounds-reps-spot
bounds-reps-spot c = within_reps (some c.used.ensures.ready c.requires.0 c.loop-h.invariant c.requires.1)

pub returns-then-reps-spot-eq0 : goal.returns-then-reps-spot-eq0
returns-then-reps-spot-eq0 c = λ s t cs f q. stops_new (walking c.used.ensures.ready c.requires.0 c.loop-h.invariant s t cs f q) c.if-reps-spot-eq0.true

pub bounds-exchanged-h : goal.bounds-exchanged-h
bounds-exchanged-h c = within_exchanged (some c.used.ensures.ready c.requires.0 c.loop-h.invariant c.requires.1)

pub answer_of-answer-requires : goal.answer_of-answer-requires
answer_of-answer-requires c = next_used (some c.used.ensures.ready c.requires.0 c.loop-h.invariant c.requires.1) c.if-reps-spot-eq0.false

pub returns-then-answer-eq0 : goal.returns-then-answer-eq0
returns-then-answer-eq0 c =
    let a = c.answer_of-answer in
    λ s t cs f q. stops_unknown (walking c.used.ensures.ready c.requires.0 c.loop-h.invariant s t cs f q) c.if-reps-spot-eq0.false a.result a.ensures c.if-answer-eq0.true

pub answer_of-requires : goal.answer_of-requires
answer_of-requires c = in_hand (some c.used.ensures.ready c.requires.0 c.loop-h.invariant c.requires.1)

pub returns-then-answer-answer_of : goal.returns-then-answer-answer_of
returns-then-answer-answer_of c =
    let a = c.answer_of-answer in
    let b = c.answer_of in
    λ s t cs f q. stops_different (walking c.used.ensures.ready c.requires.0 c.loop-h.invariant s t cs f q)
    c.if-reps-spot-eq0.false a.result a.ensures c.if-answer-eq0.false b.result b.ensures c.if-answer-answer_of.true

pub loop-h-smaller : goal.loop-h-smaller
loop-h-smaller c =
    let a = c.answer_of-answer in
    let b = c.answer_of in
    steps_less (some c.used.ensures.ready c.requires.0 c.loop-h.invariant c.requires.1)
    c.if-reps-spot-eq0.false a.result a.ensures c.if-answer-eq0.false b.result b.ensures c.if-answer-answer_of.false

pub loop-h-preserved : goal.loop-h-preserved
loop-h-preserved c =
    let a = c.answer_of-answer in
    let b = c.answer_of in
    λ s t cs f q. steps (walking c.used.ensures.ready c.requires.0 c.loop-h.invariant s t cs f q)
    c.if-reps-spot-eq0.false a.result a.ensures c.if-answer-eq0.false b.result b.ensures c.if-answer-answer_of.false

-- The members of a run's lists in their arrays, in lists that fit: no more than an array holds, and as many as are told.
-- The limits of lists that fit are the lengths of the arrays.
use mathlib.Core.Path.{◌≡◌, sym}
use mathlib.Core.Bool.{true}
use Prim.Native.Nat.{◌≤◌}
use native.Mathlib.Omega.{arith}
use lib.ListN.{length}
use lib.Seq.{length-take-le}
use Rattle.model.specs.Entry.{Arrays, lists_fit}
use Rattle.model.specs.declared.Lists.{Lists}
use Rattle.model.proofs.Laws.Lent.{lists_fit_facts}
use Rattle.run_lists.specs.Members.{counts_in, states_in, rules_in, contexts_in}

module _ {l : Lists} (fit : lists_fit l ≡ true) (a : Arrays l) where
  pub few_letters : l.letters ≤ length l.counts
  few_letters = omega (arith, a.counts, (lists_fit_facts l fit).letters)

  pub few_states : l.states ≤ length l.s
  few_states = omega (arith, a.s, (lists_fit_facts l fit).states)

  pub few_rules : l.rules ≤ length l.t
  few_rules = omega (arith, a.t, (lists_fit_facts l fit).rules)

  pub few_contexts : l.contexts ≤ length l.c
  few_contexts = omega (arith, a.c, (lists_fit_facts l fit).contexts)

  pub letters_told : l.letters ≡ length (counts_in l)
  letters_told = sym (length-take-le l.letters l.counts few_letters)

  pub states_told : l.states ≡ length (states_in l)
  states_told = sym (length-take-le l.states l.s few_states)

  pub rules_told : l.rules ≡ length (rules_in l)
  rules_told = sym (length-take-le l.rules l.t few_rules)

  pub contexts_told : l.contexts ≡ length (contexts_in l)
  contexts_told = sym (length-take-le l.contexts l.c few_contexts)

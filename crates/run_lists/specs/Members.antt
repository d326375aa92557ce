-- The members of the run's lists (§2.2): the alphabet, S, T and C, each as a list of its own.
use Rattle.std.specs.Prelude.{List, ℕ, take}
use Rattle.model.specs.declared.Lists.{Lists}

abbrev pub counts_in : Lists → List ℕ
counts_in l = take l.letters l.counts

abbrev pub states_in : Lists → List ℕ
states_in l = take l.states l.s

abbrev pub rules_in : Lists → List ℕ
rules_in l = take l.rules l.t

abbrev pub contexts_in : Lists → List ℕ
contexts_in l = take l.contexts l.c

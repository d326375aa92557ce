-- WITH A RECORD IN HAND (§4.1): no answer missing, room for a context, and what the notes have of the transitions.
use Rattle.std.specs.Prelude.{List, ℕ, ◌<◌}
use Rattle.model.specs.Limits.{most_contexts}
use Rattle.model.specs.TableFacts.{Whole, HandFits}
use Rattle.model.specs.Entry.{tables_of}
use Rattle.model.specs.declared.Lists.{Lists}
use Rattle.step_search.specs.Spots.{Noted}

pub record InHand (words : List ℕ) (l : Lists) (reps : List ℕ) : Type 0 where
  pub whole : Whole (tables_of words l)
  pub fits : HandFits (tables_of words l).store (tables_of words l).answers (tables_of words l).s (tables_of words l).t (tables_of words l).c l.hand
  pub room : l.contexts < most_contexts
  pub noted : Noted (tables_of words l).store (tables_of words l).answers (tables_of words l).s (tables_of words l).t (tables_of words l).c reps

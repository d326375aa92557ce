-- Every promise of the view at once (§6.3): one record, of which proofs/Promises.antt has the one value.
use Rattle.std.specs.Prelude.{List, ℕ}
use Rattle.list_view.specs.Shown.{Shows}
use Rattle.list_view.specs.Whole.{SeenWhole}

pub record Promised : Type 0 where
  -- a view of any bytes shows the automaton that they are
  pub shows : (bytes : List ℕ) → Shows bytes
  -- what the calls of a host return is all of it
  pub seen_whole : SeenWhole

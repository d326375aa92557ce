-- THE RUN in lent words and lists (§2.2, §2.3): lists that fit, and what they name is in the record table.
use Rattle.std.specs.Prelude.{◌≡◌, true, List, ℕ, ◌≤◌}
use Rattle.model.specs.Base.{In}
use Rattle.model.specs.Table.{Tables, answer_at}
use Rattle.model.specs.Facts.{Good, IsRecord, IsContext}
use Rattle.model.specs.Entry.{lists_fit, tables_of}
use Rattle.model.specs.declared.Lists.{Lists}

-- transitions are records, contexts contexts, representatives transitions
pub record Orderly (x : Tables) : Type 0 where
  pub good : Good x.store
  pub bound : (i : ℕ) → answer_at x.answers i ≤ 2
  pub row : (i : ℕ) → In i x.t → IsRecord x.store i
  pub context : (c : ℕ) → In c x.c → IsContext x.store c
  pub among : (i : ℕ) → In i x.s → In i x.t

pub record Run (words : List ℕ) (l : Lists) : Type 0 where
  pub fit : lists_fit l ≡ true
  pub orderly : Orderly (tables_of words l)

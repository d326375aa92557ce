-- What telling needs: a question that is told has its row in a good store.
use Rattle.std.specs.Prelude.{◌≡◌, List, ℕ, ◌≤◌, ◌<◌}
use Rattle.model.specs.Limits.{most_rows}
use Rattle.model.specs.declared.Seen.{Seen}
use Rattle.bank.specs.Bank.{Stored}

pub record Tellable (words counts : List ℕ) (used : ℕ) (seen : Seen) : Type 0 where
  pub stored : seen.number ≡ 0 → seen.phase ≡ 1 → Stored words counts used
  pub few : seen.number ≡ 0 → seen.phase ≡ 1 → used ≤ most_rows
  pub within : seen.number ≡ 0 → seen.phase ≡ 1 → seen.row < used

-- What load answers, as its call tells it (§3.9): 21 for bytes that are no list, or the count of their rules.
use Rattle.std.specs.Prelude.{ℕ, Option, Some, None}
use Rattle.model.specs.declared.Emitted.{Emitted}

abbrev pub counted : Option ℕ → Emitted
counted None = record { number = 21; size = 0 }
counted (Some n) = record { number = 0; size = n }

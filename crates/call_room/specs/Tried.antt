-- What a call tried with part of the rows returns and leaves.
use Rattle.std.specs.Prelude.{◌≡◌, List, ℕ, ◌<◌, ◌≤◌, length, Option, Some, None, Result}
use Rattle.model.specs.Calls.{Call}
use Rattle.model.specs.Refusals.{refused_by}
use Rattle.model.specs.declared.Lists.{Lists}
use Rattle.model.specs.declared.refusal.Refusal.{Refusal}
use Rattle.call.specs.Calls.{CallAs}

-- rows past the used ones that a call is first tried with
abbrev pub spare_rows : ℕ
spare_rows = 64

-- and then, where these are too few
abbrev pub more_spare_rows : ℕ
more_spare_rows = 256

-- a call tried on the first n words: short of rows, with the words as they were; or as the call on all of them, and so where no more are lent
pub record FirstAs (ws : List ℕ) (n : ℕ) (l : Lists) (k : Call) (r : Result Lists Refusal) (after : List ℕ) : Type 0 where
  pub short : refused_by r ≡ 34 → after ≡ ws
  pub done : (refused_by r ≡ 34 → ⊥) → CallAs ws l k r after
  pub all : length ws ≤ n → CallAs ws l k r after

-- a call tried on the first n words: nothing, with the words as they were, only where more are lent; or the call on all of them
abbrev pub TriedAs : (ws : List ℕ) → (n : ℕ) → Lists → Call → Option (Result Lists Refusal) → (after : List ℕ) → Type 0
TriedAs ws n l k None after = (after ≡ ws) × (n < length ws)
TriedAs ws n l k (Some r) after = CallAs ws l k r after

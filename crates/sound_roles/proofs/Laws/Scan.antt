-- Two tests in their order: where the first fails both do, where it holds the second decides.
use mathlib.Core.Path.{◌≡◌}
use mathlib.Core.Bool.{Bool, true, false, ◌&&◌}

-- two tests in their order: a first that fails settles both, one that passes leaves it to the second
pub stops : (a b : Bool) → a ≡ false → false ≡ a && b
stops a b e = rw e

pub goes_on : (a b : Bool) → a ≡ true → b ≡ a && b
goes_on a b e = rw e

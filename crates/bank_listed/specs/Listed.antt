-- A stack of rows in an array, as the definitions have it: newest first.
use Rattle.std.specs.Prelude.{List, [], ℕ, take}
use Rattle.model.specs.Base.{backwards}

abbrev pub stack_of : (stack : List ℕ) → (height : ℕ) → List ℕ
stack_of st h = backwards (take h st) []

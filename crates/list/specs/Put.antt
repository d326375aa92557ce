-- Bytes over those that stand at a place: the ones before stay, and the ones behind.
use Rattle.std.specs.Prelude.{List, ◌++◌, ℕ, ◌+◌, length, take, drop}

abbrev pub put_at : (at : ℕ) → (new old : List ℕ) → List ℕ
put_at p new old = take p old ++ new ++ drop (p + length new) old

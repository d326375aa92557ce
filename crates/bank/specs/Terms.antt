-- A record table with its index, as contracts see it.
use Rattle.std.specs.Prelude.{ℕ, List}

pub record Parts : Type 0 where
  pub words : List ℕ
  pub counts : List ℕ
  pub used : ℕ
  pub index : List ℕ

abbrev pub terms : (words counts : List ℕ) → (used : ℕ) → (index : List ℕ) → Parts
terms ws ns n xs = record { words = ws; counts = ns; used = n; index = xs }

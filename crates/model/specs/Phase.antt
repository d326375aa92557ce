-- Sound tables as facts: T1 to T5, and one of three phases; nearly sound ones, which a step leaves, may fail T4's last clause alone.
use Rattle.std.specs.Prelude.{◌≡◌, ◌⊎◌, false}
use Rattle.model.specs.Table.{Tables}
use Rattle.model.specs.TableFacts.{Core, Tidy, Missing, Whole, Few, Open, HandFits}

-- no question open; one open with a record in hand; one open with none, where an answer may be missing
pub data Phase (x : Tables) : Type 0 where
  idle : x.asked ≡ 0 → x.hand ≡ 0 → Whole x → Phase x
  holding : Open x → x.accepted ≡ false → Whole x → HandFits x.store x.answers x.s x.t x.c x.hand → Phase x
  filling : Open x → x.accepted ≡ false → x.hand ≡ 0 → Missing x ⊎ Whole x → Phase x

-- T1 to T8 but for T4's last clause
pub record Nearly (x : Tables) : Type 0 where
  pub core : Core x
  pub tidy : Tidy x
  pub phase : Phase x

-- T1 to T8
pub record Sounds (x : Tables) : Type 0 where
  pub nearly : Nearly x
  pub few : Missing x ⊎ Few x

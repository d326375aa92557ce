-- The numbers of refusals (§5.3).
use Rattle.std.specs.Prelude.{ℕ, Result, Ok, Err}
use Rattle.model.specs.Entry.{judged, judged_as}
use Rattle.model.specs.declared.Emitted.{Emitted}
use Rattle.model.specs.declared.Judged.{Judged}
use Rattle.model.specs.declared.Verdict.{Verdict}
use Rattle.model.specs.declared.refusal.Refusal.{Refusal}
use Rattle.model.specs.declared.refusal.Refusal.TheVariants.{NoSymbols, TooManySymbols, UnknownSymbol, ChildrenMissing, NotOneTree, Mark, Alphabet, Size, ListRoom, NoList, Unsound, Phase, Agrees, Contradicts, RowsShort, StatesShort, RulesShort}

-- the number of a reason
abbrev pub reason_number : Refusal → ℕ
reason_number NoSymbols = 11
reason_number TooManySymbols = 12
reason_number UnknownSymbol = 13
reason_number ChildrenMissing = 14
reason_number NotOneTree = 15
reason_number Mark = 16
reason_number Alphabet = 17
reason_number Size = 18
reason_number ListRoom = 20
reason_number NoList = 21
reason_number Unsound = 30
reason_number Phase = 31
reason_number Agrees = 32
reason_number Contradicts = 33
reason_number RowsShort = 34
reason_number StatesShort = 35
reason_number RulesShort = 36

-- the number of what refused, and 0 where nothing did
abbrev pub refused_by : {A : Type 0} → Result A Refusal → ℕ
refused_by (Ok x) = 0
refused_by (Err r) = reason_number r

-- WHAT IS TOLD of a list: its bytes, or the number of what refused it
abbrev pub unlisted : (number : ℕ) → Emitted
unlisted n = record { number = n; size = 0 }

abbrev pub emitted_as : Result ℕ Refusal → Emitted
emitted_as (Ok n) = record { number = 0; size = n }
emitted_as (Err r) = unlisted (reason_number r)

-- and of a verdict
abbrev pub verdict_as : Result Verdict Refusal → Judged
verdict_as (Ok v) = judged_as v
verdict_as (Err r) = judged (reason_number r) 0 0

-- What the archive said, as a call of model (§3.4, §3.5).
use Rattle.std.specs.Prelude.{List, ℕ}
use Rattle.model.specs.Calls.{Call, answers, offers}
use Rattle.call.specs.declared.Said.{Said}

-- the call that the archive's word makes, with the symbols given beside it
abbrev pub call_of : Said → (symbols : List ℕ) → Call
call_of (Said.Answer m) xs = answers m
call_of (Said.Offer m) xs = offers xs m

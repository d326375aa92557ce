-- Refusals by their numbers (§5.3): none is 0, so 0 is told only where nothing refused; and what `?` hands on.
use Rattle.std.proofs.Common.{◌≡◌, ◌≢◌, false, refl, ap, arith}
use Rattle.std.specs.Prelude.{Result, Ok, Err, is_err}
use Rattle.std.specs.Result.{IsErrAnd}
use Rattle.model.specs.Refusals.{reason_number, refused_by}
use Rattle.model.specs.declared.refusal.Refusal.{Refusal}
use Rattle.model.specs.declared.refusal.Refusal.TheVariants.{NoSymbols}

pub number_some : (r : Refusal) → reason_number r ≢ 0
number_some NoSymbols e = omega arith
number_some r e = omega arith

-- nothing refused, by the test
pub unrefused : {A : Type 0} (r : Result A Refusal) → is_err r ≡ false → refused_by r ≡ 0
unrefused (Ok x) e = refl
unrefused (Err r) e = cc

-- a refusal handed on is the same
pub handed_on : {A : Type 0} (q : Result A Refusal) (r : Refusal) → IsErrAnd q (λ e. e ≡ r) → q ≡ Err r
handed_on (Ok x) r e = absurd e
handed_on (Err s) r e = ap Err e

-- `call_faults::contradicts` meets its contract: each arm is the case that the definition has for it, and both are false at any other pair.
use mathlib.Core.Path.{◌≡◌, sym}
use mathlib.Core.Logic.{◌≢◌}
use mathlib.Core.Bool.{false}
use Prim.Native.Nat.{ℕ, zero, suc}
use native.Mathlib.Omega.{arith}
use borrow.Author.Tests.{ne_eqb}
use Rattle.model.specs.Calls.{contradicts}
use Rattle.call_faults.proofs.contradicts.Statement.{statement}
use Rattle.call_faults.proofs.contradicts.Tie as tie

-- no other pair contradicts: another answer, or another mark
other_answer : (v m : ℕ) → v ≢ 0 → v ≢ 1 → v ≢ 2 → false ≡ contradicts v m
other_answer v m a b c = rw (ne_eqb v 0 a, ne_eqb v 1 b, ne_eqb v 2 c)

other_mark : (v m : ℕ) → m ≢ 0 → m ≢ 1 → false ≡ contradicts v m
other_mark zero m a b = rw (ne_eqb m 0 a, ne_eqb m 1 b)
other_mark (suc zero) m a b = rw (ne_eqb m 0 a, ne_eqb m 1 b)
other_mark (suc (suc zero)) m a b = rw (ne_eqb m 0 a, ne_eqb m 1 b)
other_mark (suc (suc (suc v))) m a b = other_answer (suc (suc (suc v))) m (λ e. omega arith) (λ e. omega arith) (λ e. omega arith)

returns : tie.Need-returns-in-0-mark
returns c = λ i. contradicts (sym c.before.in-0.is i) (sym c.in-0-mark.is i)

returns-2 : tie.Need-returns-in-1-mark
returns-2 c = λ i. contradicts (sym c.before.in-0.is i) (sym c.in-1-mark.is i)

returns-3 : tie.Need-returns-in_default-mark
returns-3 c = other_mark c.before.before.args.stored c.before.before.args.mark c.in_default-mark.in_default-mark-own.rest.0.1 c.in_default-mark.in_default-mark-own.rest.1

returns-4 : tie.Need-returns-in-0-mark-2
returns-4 c = λ i. contradicts (sym c.before.in-1.is i) (sym c.in-0-mark-2.is i)

returns-5 : tie.Need-returns-in-1-mark-2
returns-5 c = λ i. contradicts (sym c.before.in-1.is i) (sym c.in-1-mark-2.is i)

returns-6 : tie.Need-returns-in_default-mark-2
returns-6 c = other_mark c.before.before.args.stored c.before.before.args.mark c.in_default-mark-2.in_default-mark-2-own.rest.0.1 c.in_default-mark-2.in_default-mark-2-own.rest.1

returns-7 : tie.Need-returns-in-0-mark-3
returns-7 c = λ i. contradicts (sym c.before.in-2.is i) (sym c.in-0-mark-3.is i)

returns-8 : tie.Need-returns-in-1-mark-3
returns-8 c = λ i. contradicts (sym c.before.in-2.is i) (sym c.in-1-mark-3.is i)

returns-9 : tie.Need-returns-in_default-mark-3
returns-9 c = other_mark c.before.before.args.stored c.before.before.args.mark c.in_default-mark-3.in_default-mark-3-own.rest.0.1 c.in_default-mark-3.in_default-mark-3-own.rest.1

returns-10 : tie.Need-returns-in_default
returns-10 c = other_answer c.before.args.stored c.before.args.mark c.in_default.in_default-own.rest.0.0.1 c.in_default.in_default-own.rest.0.1 c.in_default.in_default-own.rest.1

pub contradicts_spec : {M : Type 1} → statement M
contradicts_spec =
    tie.close
    (tie.spec
    returns
    returns-2
    returns-3
    returns-4
    returns-5
    returns-6
    returns-7
    returns-8
    returns-9
    returns-10)

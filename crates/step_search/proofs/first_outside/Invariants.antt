-- `step_search::first_outside` meets its contract: the children before place k are their own representatives, and those from it on decide.
use Rattle.std.proofs.Common.{◌≡◌, drop}
use Rattle.model.specs.Store.{kids_at}
use Rattle.model.specs.Entry.{store_of}
use Rattle.bank.specs.Bank.{place_code}
use Rattle.step_search.specs.Spots.{not_own, outside_by}
use Rattle.step_search.proofs.Laws.Place.{shifted}
use Rattle.step_search.proofs.first_outside.Given as goal

abbrev pub invariant-loop-k : goal.invariant-loop-k
invariant-loop-k l =
    let x = store_of l.bank.words l.bank.counts l.bank.used in
    shifted l.k (place_code (not_own l.reps) (drop l.k (kids_at x l.row.0))) ≡ outside_by l.reps x l.row.0

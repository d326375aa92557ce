-- `step_search::note_turn` meets its contract: each of the three numbers is written into a column of its own, which leaves the other columns.
use Rattle.std.proofs.Common.{rules, ◌≡◌, ◌+◌, ℕ, Option, None, Some}
use Rattle.std.specs.Option.{MatchOption}
use Rattle.step_search.specs.Spots.{code_of}
use Rattle.step_search.proofs.Laws.Noted.{turn_noted}
use Rattle.step_search.proofs.note_turn.Goals as goal

-- the number that is noted
coded : (o : Option ℕ) (r : ℕ) (Q : ℕ → Type 0) → MatchOption o (r ≡ 0) Q → ((k : ℕ) → Q k → r ≡ k + 1) → r ≡ code_of o
coded None r Q h f = h
coded (Some k) r Q h f = f k h

pub returns : goal.returns
returns c =
    let e : c.map_or.result ≡ code_of c.args.turn.place = coded c.args.turn.place c.map_or.result _ c.map_or.ensures (λ k q. search rules) in
    rw e (turn_noted c.args.notes.now c.args.row.0 (code_of c.args.turn.place) c.args.turn.spot.0 c.args.turn.row.0 c.requires)

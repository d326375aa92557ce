-- `found::searched` meets its contract: the notes of the descent hold the spot of the record then in hand and the way down to it,
-- so what is called there is what the definition says of that end of the search.
use mathlib.Core.Path.{◌≡◌, refl, sym, subst}
use mathlib.Core.List.{List}
use Prim.Native.Nat.{ℕ, ◌≤◌}
use native.Mathlib.Omega.{arith}
use borrow.Author.Rules.{rules}
use lib.ListN.{get_or}
use Rattle.bank.specs.Notes.{room_in, reps_in, down_in, spots_in, exchanged_in}
use Rattle.step_settle.proofs.Laws.Lists.{noted}
use Rattle.step.proofs.Laws.Searched.{Ending, down_used, held_new, held_unknown, held_different, rep_low, ended_new, ended_unknown, ended_different}
use Rattle.step.proofs.found.searched.Statement.{statement}
use Rattle.step.proofs.found.searched.Tie as tie

-- back to the function's start, from the record in hand by the three ends of the search
abbrev new : tie.In-NewTransition → tie.Start
new c = c.before.before.before.before.before

abbrev unknown : tie.In-Unknown → tie.Start
unknown c = c.before.before.before.before.before

abbrev different : tie.In-Difference → tie.Start
different c = c.before.before.before.before.before

-- from the row at the spot read, and from the way down lent
abbrev found : tie.After-spot_of-spot → tie.In-NewTransition
found c = c.before

abbrev sought : tie.After-column-down → tie.In-Unknown
sought c = c.before.before.before

-- at an unknown answer: the row at the spot, and its representative
abbrev spot : tie.After-column-down → ℕ
spot c = c.before.before.spot_of.result.0

abbrev rep : tie.After-column-down → ℕ
rep c = c.before.rep_of-rep.result.0

spot_is : (c : tie.After-column-down) → spot c ≡ get_or (spots_in (unknown (sought c)).args.notes.now) (sought c).in-Unknown.h.0 0
spot_is c = c.before.before.spot_of.ensures

rep_is : (c : tie.After-column-down) → rep c ≡ get_or (reps_in (unknown (sought c)).args.notes.now) (spot c) 0
rep_is c = c.before.rep_of-rep.ensures

-- the end of the search, with a column of places that is the way down of the notes
abbrev EndingBy : tie.Start → (places : List ℕ) → Type 0
EndingBy s ds =
    Ending s.args.words.now s.args.lists (reps_in s.args.notes.now) ds (spots_in s.args.notes.now) (exchanged_in s.args.notes.now) s.args.found

ending : (s : tie.Start) → EndingBy s (down_in s.args.notes.now)
ending s = record { run = s.requires.1; hand = s.requires.4; descended = s.requires.5; end = s.requires.6 }

led : (c : tie.After-column-down) → EndingBy (unknown (sought c)) c.column-down.result.now
led c = let s : tie.Start = unknown (sought c) in subst (EndingBy s) (sym c.column-down.ensures) (ending s)

noting : (s : tie.Start) → s.args.lists.used ≤ room_in s.args.notes.now
noting s = noted s.requires.0 s.args.notes.now s.requires.2

enum-known-found : tie.Need-enum_known-found
enum-known-found c = search rules

spot-of-requires : tie.Need-spot_of-spot-requires
spot-of-requires c κs =
    let n : tie.In-NewTransition = c in
    let s : tie.Start = new n in
    let h = held_new (ending s) n.in-NewTransition.is _ refl in
    omega (arith, h.low, noting s)

new-transition-requires : tie.Need-new_transition-requires
new-transition-requires c κs =
    let r : tie.After-spot_of-spot = c.before.before.before.before in
    let s : tie.Start = new (found r) in
    let h = held_new (ending s) (found r).in-NewTransition.is r.spot_of-spot.result.0 r.spot_of-spot.ensures in
    (s.requires.0, s.requires.1, s.requires.2, s.requires.3, s.requires.4.room, h.record_row, h.spot_row, h.fits)

enum-known-found-2 : tie.Need-enum_known-found-in-Unknown-1
enum-known-found-2 c = search rules

spot-of-requires-2 : tie.Need-spot_of-requires
spot-of-requires-2 c κs =
    let n : tie.In-Unknown = c in
    let s : tie.Start = unknown n in
    let h = held_unknown (ending s) n.in-Unknown.is _ refl in
    omega (arith, h.low, noting s)

rep-of-requires : tie.Need-rep_of-rep-requires
rep-of-requires c κs =
    let n : tie.In-Unknown = c.before in
    let s : tie.Start = unknown n in
    let h = held_unknown (ending s) n.in-Unknown.is c.spot_of.result.0 c.spot_of.ensures in
    omega (arith, h.spot_low, noting s)

column-requires : tie.Need-column-down-requires
column-requires c κs = search rules

unknown-requires : tie.Need-unknown-requires
unknown-requires c κs =
    let w : tie.After-column-down = c.before.before in
    let s : tie.Start = unknown (sought w) in
    let e = (sought w).in-Unknown.is in
    let h = held_unknown (led w) e (spot w) (spot_is w) in
    let low = rep_low (led w) e (spot w) (spot_is w) (rep w) (rep_is w) in
    (s.requires.0, s.requires.1, down_used (led w), h.record_row, low, h.fits)

enum-known-found-3 : tie.Need-enum_known-found-in-Difference-1
enum-known-found-3 c = search rules

put-down-requires : tie.Need-put_down-requires
put-down-requires c κs =
    let n : tie.In-Difference = c.before.before.before.before in
    let s : tie.Start = different n in
    let h = held_different (ending s) n.in-Difference.is in
    (s.requires.0, s.requires.1, s.requires.2, omega (arith, s.requires.3), s.requires.4.room, h.record_row, h.fits)

same_length : tie.Need-shape_of-words-in-NewTransition
same_length c = search rules

same-length-2 : tie.Need-shape_of-index-in-NewTransition
same-length-2 c = search rules

same-length-3 : tie.Need-shape_of-table-in-NewTransition
same-length-3 c = search rules

same-length-4 : tie.Need-shape_of-notes-in-NewTransition
same-length-4 c = search rules

returns : tie.Need-returns-in-NewTransition
returns c =
    let p : tie.After-new_transition = c.before.before.before.before.before.before.before.before in
    let r : tie.After-spot_of-spot = p.before.before.before.before.before in
    let d = p.new_transition in
    (ended_new (ending (new (found r))) (found r).in-NewTransition.is r.spot_of-spot.result.0 r.spot_of-spot.ensures d.result d.new.words (record { ended = d.ensures })).ended

same-length-5 : tie.Need-shape_of-words-in-Unknown
same-length-5 c = search rules

same-length-6 : tie.Need-shape_of-index-in-Unknown
same-length-6 c = search rules

same-length-7 : tie.Need-shape_of-notes-in-Unknown
same-length-7 c = search rules

returns-2 : tie.Need-returns-in-Unknown
returns-2 c =
    let w : tie.After-column-down = c.before.before.before.before.before.before.before in
    let d = c.before.before.before.before.unknown in
    let e = (sought w).in-Unknown.is in
    (ended_unknown (led w) e (spot w) (spot_is w) (rep w) (rep_is w) d.result d.new.words (record { ended = d.ensures })).ended

same-length-8 : tie.Need-shape_of-words-in-Difference
same-length-8 c = search rules

same-length-9 : tie.Need-shape_of-index-in-Difference
same-length-9 c = search rules

same-length-10 : tie.Need-shape_of-table-in-Difference
same-length-10 c = search rules

same-length-11 : tie.Need-shape_of-notes-in-Difference
same-length-11 c = search rules

returns-3 : tie.Need-returns-in-Difference
returns-3 c =
    let p : tie.After-put_down = c.before.before.before.before.before.before.before.before in
    let n : tie.In-Difference = p.before.before.before.before.before in
    let d = p.put_down in
    (ended_different (ending (different n)) n.in-Difference.is d.result d.new.words (record { ended = d.ensures })).ended

pub searched_spec : {M : Type 1} → statement M
searched_spec =
    tie.close
    (tie.spec
    enum-known-found
    spot-of-requires
    new-transition-requires
    enum-known-found-2
    spot-of-requires-2
    rep-of-requires
    column-requires
    unknown-requires
    enum-known-found-3
    put-down-requires
    same_length
    same-length-2
    same-length-3
    same-length-4
    returns
    same-length-5
    same-length-6
    same-length-7
    returns-2
    same-length-8
    same-length-9
    same-length-10
    same-length-11
    returns-3)

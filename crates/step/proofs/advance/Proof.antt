-- `step::advance` meets its contract: with nothing in hand the step is the settling of the tables; with a record in hand the search ends where
-- the definition's ends, and the step is what that end asks for. The search leaves the representatives in the notes as they were.
use mathlib.Core.Path.{sym, subst}
use mathlib.Core.List.{List}
use Prim.Native.Nat.{ℕ}
use native.Mathlib.Omega.{arith}
use borrow.Author.Rules.{rules}
use Rattle.model.specs.Entry.{tables_of}
use Rattle.model.proofs.Laws.Step.{none_advance}
use Rattle.bank.specs.Notes.{reps_in, down_in, spots_in, exchanged_in}
use Rattle.step_settle.proofs.Laws.Ends.{Ends, ends_by}
use Rattle.step.proofs.Laws.Searched.{Ending, ended_hand}
use Rattle.step.proofs.advance.Statement.{statement}
use Rattle.step.proofs.advance.Tie as tie

-- nothing in hand: the tables settled
abbrev empty : tie.Then-lists-eq0 → tie.Start
empty c = c.before.before.before.before.before.before

-- a record in hand: from the search ended
abbrev held : tie.Else-lists-eq0 → tie.Start
held c = c.before.before.before.before.before.before

abbrev sought : tie.After-search-ended → tie.Else-lists-eq0
sought c = c.before.before

abbrev start : tie.After-search-ended → tie.Start
start c = held (sought c)

-- the notes that the search leaves
abbrev notes : tie.After-search-ended → List ℕ
notes c = c.search-ended.new.notes

-- the end of the search, by the representatives
abbrev EndingBy : tie.After-search-ended → (reps : List ℕ) → Type 0
EndingBy c reps =
    let s : tie.Start = start c in
    Ending s.args.words.now s.args.lists reps (down_in (notes c)) (spots_in (notes c)) (exchanged_in (notes c)) c.search-ended.result

ending : (c : tie.After-search-ended) → EndingBy c (reps_in (notes c))
ending c =
    let s : tie.Start = start c in
    let f = c.search-ended.ensures in
    subst (EndingBy c) (sym f.0.0) (record { run = s.requires.1; hand = s.requires.4 (sought c).if-lists-eq0.false; descended = f.0.1; end = f.1 })

settled-requires : tie.Need-settled-requires
settled-requires c κs =
    let f : tie.Then-lists-eq0 = c.before.before.before.before in
    let s : tie.Start = empty f in
    (s.requires.0, s.requires.1, s.requires.2, s.requires.5 f.if-lists-eq0.true, f.if-lists-eq0.true, s.requires.6, s.requires.7)

same_length : tie.Need-shape_of-words-then-lists-eq0
same_length c = search rules

same-length-2 : tie.Need-shape_of-index-then-lists-eq0
same-length-2 c = search rules

same-length-3 : tie.Need-shape_of-table-then-lists-eq0
same-length-3 c = search rules

same-length-4 : tie.Need-shape_of-notes-then-lists-eq0
same-length-4 c = search rules

returns : tie.Need-returns-then-lists-eq0
returns c =
    let p : tie.After-settled = c.before.before.before.before.before.before.before.before in
    let f : tie.Then-lists-eq0 = p.before.before.before.before.before in
    let s : tie.Start = empty f in
    let d = p.settled in
    let e : Ends s.args.words.now s.args.lists _ d.result d.new.words = record { ended = d.ensures } in
    (ends_by (none_advance (tables_of s.args.words.now s.args.lists) f.if-lists-eq0.true) e).ended

search-requires : tie.Need-search-ended-requires
search-requires c κs =
    let f : tie.Else-lists-eq0 = c.before in
    let s : tie.Start = held f in
    (s.requires.0, s.requires.1, s.requires.2, s.requires.4 f.if-lists-eq0.false)

searched-requires : tie.Need-searched-requires
searched-requires c κs =
    let f : tie.After-search-ended = c.before.before.before.before.before.before in
    let s : tie.Start = start f in
    let e = ending f in
    (s.requires.0, e.run, omega (arith, s.requires.2, f.search-ended.auto.notes), s.requires.3, e.hand, e.descended, e.end)

same-length-5 : tie.Need-shape_of-words
same-length-5 c = search rules

same-length-6 : tie.Need-shape_of-index
same-length-6 c = search rules

same-length-7 : tie.Need-shape_of-table
same-length-7 c = search rules

same-length-8 : tie.Need-shape_of-notes
same-length-8 c = search rules

returns-2 : tie.Need-returns
returns-2 c =
    let p : tie.After-searched = c.before.before.before.before.before.before.before.before in
    let f : tie.After-search-ended = p.before.before.before.before.before.before.before in
    let s : tie.Start = start f in
    let d = p.searched in
    (ended_hand s.args.words.now s.args.lists (reps_in (notes f)) f.search-ended.result (sought f).if-lists-eq0.false (ending f).end d.result d.new.words (record { ended = d.ensures })).ended

pub advance_spec : {M : Type 1} → statement M
advance_spec =
    tie.close
    (tie.spec
    settled-requires
    same_length
    same-length-2
    same-length-3
    same-length-4
    returns
    search-requires
    searched-requires
    same-length-5
    same-length-6
    same-length-7
    same-length-8
    returns-2)

-- The ways in which a run's lists change (§3, §4). Model's `changed` spells the fields; each way says which it changes. None changes the alphabet.
use Rattle.std.specs.Prelude.{Bool, cond, List, ℕ, ◌+◌, set}
use Rattle.model.specs.Base.{among}
use Rattle.model.specs.Entry.{changed}
use Rattle.model.specs.declared.Lists.{Lists}
use Rattle.run_lists.specs.Members.{contexts_in}

-- a question is open
abbrev pub asking : Lists → (hand row used : ℕ) → Lists
asking l h j n = changed l l.letters l.counts 0 n l.states l.s l.rules l.t l.contexts l.c h j

-- the question is closed
abbrev pub closed : Lists → Lists
closed l = asking l l.hand 0 l.used

-- a record is in hand
abbrev pub taken_up : Lists → (row used : ℕ) → Lists
taken_up l i n = asking l i 0 n

-- an automaton is proposed, with these states
abbrev pub proposing : Lists → (s : List ℕ) → (states : ℕ) → Lists
proposing l ss q = changed l l.letters l.counts 0 l.used q ss l.rules l.t l.contexts l.c 0 0

-- it is accepted
abbrev pub accepting : Lists → Lists
accepting l = changed l l.letters l.counts 1 l.used l.states l.s l.rules l.t l.contexts l.c l.hand l.asked

-- a transition is appended
abbrev pub with_rule : Lists → (row : ℕ) → Lists
with_rule l i =
    changed l l.letters l.counts l.accepted l.used l.states l.s (l.rules + 1) (set l.t l.rules i) l.contexts l.c l.hand l.asked

-- the record in hand is put down with a context, which is appended if it is absent
abbrev pub context_in : (there : Bool) → Lists → (context used : ℕ) → Lists
context_in b l i n =
    changed l l.letters l.counts 0 n l.states l.s l.rules l.t (cond b l.contexts (l.contexts + 1)) (cond b l.c (set l.c l.contexts i)) 0 0

abbrev pub with_context : Lists → (context used : ℕ) → Lists
with_context l i n = context_in (among i (contexts_in l)) l i n

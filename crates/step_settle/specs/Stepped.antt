-- HOW A STEP ENDED over the lent words and lists (§4), by model's Ended; and what asking and proposing leave.
use Rattle.std.specs.Prelude.{◌≡◌, List, ℕ, length, Result, Ok, Err, Some, None}
use Rattle.std.specs.Prelude as std
use Rattle.std.proofs.Math.Option.{Option, none, some}
use Rattle.model.specs.Base.{over}
use Rattle.model.specs.Store.{Store}
use Rattle.model.specs.Table.{answers_of}
use Rattle.model.specs.Steps.{shortage_number, Ended, short, asks, proposes, grow}
use Rattle.model.specs.Entry.{tables_of, lists_of}
use Rattle.model.specs.Refusals.{refused_by}
use Rattle.model.specs.declared.Lists.{Lists}
use Rattle.model.specs.declared.refusal.Refusal.{Refusal}
use Rattle.model.specs.declared.refusal.Refusal.TheVariants.{RowsShort, StatesShort}
use Rattle.bank.specs.Bank.{Kept}
use Rattle.bank_fill.specs.Left.{Left}
use Rattle.bank_fill.specs.declared.add.Added.{Added}
use Rattle.run_lists.specs.Members.{counts_in, states_in, rules_in, contexts_in}
use Rattle.run_lists.specs.Changes.{asking, proposing}
use Rattle.table.specs.Answers.{Observed, KnownRows}

-- a shortage's number, with the first rows as they were; or the lists and words of the tables left
abbrev pub EndedAs : (words : List ℕ) → Lists → Ended → Result Lists Refusal → (words' : List ℕ) → Type 0
EndedAs ws l (short k) r ws' = (refused_by r ≡ shortage_number k) × Kept ws l.used ws'
EndedAs ws l (asks y) r ws' = (r ≡ Ok (lists_of l y)) × Left ws (counts_in l) ws' y.store y.answers
EndedAs ws l (proposes y) r ws' = (r ≡ Ok (lists_of l y)) × Left ws (counts_in l) ws' y.store y.answers

-- a table of answers whose rows without an unknown answer are right
abbrev pub KnownTable : (words : List ℕ) → Lists → (table : List ℕ) → Type 0
KnownTable ws l tb = KnownRows (tables_of ws l).store (tables_of ws l).answers l.t l.rules l.c l.contexts tb

-- ASKED: the row that was built, or no rows for it
abbrev pub OpenedAs : Lists → (hand : ℕ) → std.Option Added → Result Lists Refusal → Type 0
OpenedAs l h None r = r ≡ Err RowsShort
OpenedAs l h (Some a) r = r ≡ Ok (asking l h a.row.0 a.used)

-- PROPOSED: S grown, or a state too many; whatever store the table of answers is of
abbrev pub GrownAs : Lists → Option (List ℕ) → Result Lists Refusal → Type 0
GrownAs l none r = r ≡ Err StatesShort
GrownAs l (some s) r = r ≡ Ok (proposing l (over s l.s) (length s))

abbrev pub ProposedAs : Lists → (table : List ℕ) → Result Lists Refusal → Type 0
ProposedAs l tb r =
    (x : Store) (w : List ℕ) → Observed x w l.t l.rules l.c l.contexts tb → GrownAs l (grow (answers_of x w (contexts_in l)) (states_in l) (rules_in l)) r

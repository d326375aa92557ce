-- The first k transitions have their rows of answers, every row without an unknown answer is right, and the needed rows of C stay listed.
use Rattle.std.proofs.Common.{length}
use Rattle.model.specs.Entry.{store_of, answers_in}
use Rattle.table.specs.Answers.{Observed, KnownRows}
use Rattle.table_columns.specs.Notes.{NeededFor}
use Rattle.table_answers.proofs.observe_to_gap.Given as goal

abbrev pub invariant-loop-k : goal.invariant-loop-k
invariant-loop-k l =
    let x = store_of l.bank.words l.bank.counts l.bank.used in
    let w = answers_in l.bank.used l.bank.words in
    record {
      observed : Observed x w l.t l.k l.c (length l.c) l.table;
      known : KnownRows x w l.t (length l.t) l.c (length l.c) l.table;
      needed : NeededFor x l.bank.index l.bank.used l.c l.notes l.n l.tops;
    }

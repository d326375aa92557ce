-- Those counted and those that are left are all that have the row.
use Rattle.std.proofs.Common.{◌≡◌, ◌+◌, ◌≤◌, map, drop}
use Rattle.model.specs.Sound.{count_same}
use Rattle.table.specs.Answers.{answers_at}
use Rattle.table.proofs.judge.count_same.Given as goal

abbrev pub invariant-loop-p : goal.invariant-loop-p
invariant-loop-p l =
    let row = answers_at l.table l.contexts in
    record {
      few : l.n ≤ l.p-index;
      counted : l.n + count_same (row l.a) (map row (drop l.p-index l.p-items)) ≡ count_same (row l.a) (map row l.p-items);
    }

-- `bank_t1::kids_of` meets its contract: the children from `k` on, after the hole so far, decide what all decide.
use Rattle.std.proofs.Common.{◌≡◌, ℕ, Option, List, take, drop}
use Rattle.bank.specs.Rows.{places_in}
use Rattle.bank_t1.specs.Pass.{hole_by, kids_say, kids_in}
use Rattle.bank_t1.proofs.kids_of.Given as goal

abbrev pub left_say : (words holes : List ℕ) → (row count place hole : ℕ) → Option ℕ
left_say ws hs i n k h = kids_say (hole_by hs) i k h (drop k (take n (places_in ws i)))

abbrev pub invariant-loop-k : goal.invariant-loop-k
invariant-loop-k l = left_say l.words l.index l.row.0 l.count l.k l.hole ≡ kids_in l.words l.index l.row.0 l.count

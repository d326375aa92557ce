-- The number of a line that refuses a call is at most 33, so it is never taken for that of a shortage, which is 34 or more.
-- A call is refused with the number of the first line that applies, and no line has a higher one.
use mathlib.Core.Bool.{Bool, true, false, not, cond}
use mathlib.Core.List.{List, [], ◌∷◌}
use Prim.Native.Nat.{ℕ, ◌+◌, ◌-◌, ◌≤◌}
use native.Mathlib.Omega.{arith}
use lib.Dec.{ltb, leb, eqb}
use lib.ListN.{length, get_or}
use Rattle.model.specs.Terms.{or_else, unless, length_fits, symbols_fault, record_fault, known_row}
use Rattle.model.specs.Table.{Tables, answer_at}
use Rattle.model.specs.Calls.{Call, offers, answers, accept, looks, emits, judges, is_asking, is_proposing, mark_fits, contradicts, verdict_is, sheet_of, fault_of}
use Rattle.model.specs.Listing.{emitted}

cond_small : (b : Bool) (n m l : ℕ) → n ≤ l → m ≤ l → cond b n m ≤ l
cond_small true n m l p q = p
cond_small false n m l p q = q

or_small : (n m l : ℕ) → n ≤ l → m ≤ l → or_else n m ≤ l
or_small n m l p q = cond_small (eqb n 0) m n l q p

unless_small : (z : Bool) (n l : ℕ) → n ≤ l → unless z n ≤ l
unless_small z n l p = cond_small z 0 n l (omega arith) p

symbols_small : (ns : List ℕ) (k : ℕ) (xs : List ℕ) → symbols_fault ns k xs ≤ 15
unfolding symbols_fault
symbols_small ns k [] = unless_small (eqb k 1) 15 15 (omega arith)
symbols_small ns k (a ∷ xs) =
    cond_small (leb (length ns) a) 13 _ 15 (omega arith) (cond_small (ltb k (get_or ns a 0)) 14 _ 15 (omega arith) (symbols_small ns (k - get_or ns a 0 + 1) xs))

pub record_small : (ns xs : List ℕ) → record_fault ns xs ≤ 15
record_small ns xs =
    or_small (unless (ltb 0 (length xs)) 11) _ 15 (unless_small (ltb 0 (length xs)) 11 15 (omega arith))
    (or_small (unless (length_fits xs) 12) _ 15 (unless_small (length_fits xs) 12 15 (omega arith)) (symbols_small ns 0 xs))

pub fault_small : (x : Tables) (k : Call) → fault_of x k ≤ 33
fault_small x (offers xs m) =
    or_small (unless (is_proposing x) 31) _ 33 (unless_small (is_proposing x) 31 33 (omega arith))
    (or_small (record_fault x.store.counts xs) _ 33 (let s = record_small x.store.counts xs in omega arith)
    (or_small (unless (mark_fits m) 16) _ 33 (unless_small (mark_fits m) 16 33 (omega arith))
    (or_small (unless (not (contradicts (answer_at x.answers (known_row x.store xs)) m)) 33) _ 33
    (unless_small (not (contradicts (answer_at x.answers (known_row x.store xs)) m)) 33 33 (omega arith))
    (unless_small (not (verdict_is x xs m)) 32 33 (omega arith)))))
fault_small x (answers m) =
    or_small (unless (is_asking x) 31) _ 33 (unless_small (is_asking x) 31 33 (omega arith)) (unless_small (mark_fits m) 16 33 (omega arith))
fault_small x accept = unless_small (is_proposing x) 31 33 (omega arith)
fault_small x looks = omega arith
fault_small x (emits r) =
    or_small (unless (not (is_asking x)) 31) _ 33 (unless_small (not (is_asking x)) 31 33 (omega arith)) (unless_small (leb (length (emitted (sheet_of x))) r) 20 33 (omega arith))
fault_small x (judges xs) =
    or_small (unless (not (is_asking x)) 31) _ 33 (unless_small (not (is_asking x)) 31 33 (omega arith)) (let s = record_small x.store.counts xs in omega arith)

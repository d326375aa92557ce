-- The calls on a run (§3): refused by the first line that applies (§5.3), or taken.
use Rattle.std.specs.Prelude.{Bool, true, false, ◌&&◌, ◌||◌, not, cond, List, [], ◌∷◌, ℕ, ◌+◌, ltb, leb, eqb, length}
use Rattle.model.specs.Store.{Store, hole_node}
use Rattle.model.specs.Terms.{or_else, unless, record_fault, known_row}
use Rattle.model.specs.Automata.{verdict_on, is_yes}
use Rattle.model.specs.Table.{Tables, tables, answer_at, automaton_of}
use Rattle.model.specs.Sound.{alphabet_fits, is_sound}
use Rattle.model.specs.Listing.{Sheet, emitted}
use Rattle.model.specs.Steps.{Shortage, shortage_number, Ended, short, asks, proposes, offered, answered}

pub data Call : Type 0 where
  offers : (symbols : List ℕ) → (mark : ℕ) → Call
  answers : (mark : ℕ) → Call
  accept : Call
  looks : Call
  emits : (room : ℕ) → Call
  judges : (symbols : List ℕ) → Call

-- a call refuses with a number and changes nothing, or is taken and leaves tables
pub data Outcome : Type 0 where
  refuses : (number : ℕ) → Outcome
  leaves : Tables → Outcome

abbrev pub number_of : Outcome → ℕ
number_of (refuses n) = n
number_of (leaves x) = 0

abbrev pub left_by : Tables → Outcome → Tables
left_by x (refuses n) = x
left_by x (leaves y) = y

-- PHASES (§3.1)
abbrev pub is_asking : Tables → Bool
is_asking x = not (eqb x.asked 0)

abbrev pub is_proposing : Tables → Bool
is_proposing x = not (is_asking x) && not x.accepted

-- LOOKING (§3.3): phase 0 proposing, 1 asking, 2 accepted; the open row or 0; states, rules, contexts
pub record Look : Type 0 where
  pub phase : ℕ
  pub row : ℕ
  pub states : ℕ
  pub rules : ℕ
  pub contexts : ℕ

abbrev pub phase_of : Tables → ℕ
phase_of x = cond x.accepted 2 (cond (is_asking x) 1 0)

abbrev pub look : Tables → Look
look x =
    record { phase = phase_of x; row = x.asked; states = length x.s; rules = length x.t; contexts = length x.c }

-- FAULTS in their order (§5.3); 0 for none
abbrev pub mark_fits : (mark : ℕ) → Bool
mark_fits m = leb m 1

-- 33, in six cases: stored 0 unknown, 1 no, 2 yes; mark 0 no, 1 yes. A call meets no other pair, by T1 and 16
abbrev pub contradicts : (stored mark : ℕ) → Bool
contradicts v m =
    let at : ℕ → ℕ → Bool = λ s n. eqb v s && eqb m n in
    cond (at 0 0) false
    (cond (at 0 1) false
    (cond (at 1 0) false
    (cond (at 1 1) true
    (cond (at 2 0) true
    (cond (at 2 1) false
    false)))))

abbrev pub verdict_is : Tables → (symbols : List ℕ) → (mark : ℕ) → Bool
verdict_is x xs m = eqb (cond (is_yes (verdict_on (automaton_of x) xs)) 1 0) m

abbrev pub offer_fault : Tables → (symbols : List ℕ) → (mark : ℕ) → ℕ
offer_fault x xs m =
    or_else (unless (is_proposing x) 31)
    (or_else (record_fault x.store.counts xs)
    (or_else (unless (mark_fits m) 16)
    (or_else (unless (not (contradicts (answer_at x.answers (known_row x.store xs)) m)) 33) (unless (not (verdict_is x xs m)) 32))))

abbrev pub answer_fault : Tables → (mark : ℕ) → ℕ
answer_fault x m = or_else (unless (is_asking x) 31) (unless (mark_fits m) 16)

abbrev pub accept_fault : Tables → ℕ
accept_fault x = unless (is_proposing x) 31

-- the sheet that tables propose
abbrev pub sheet_of : Tables → Sheet
sheet_of x = record { automaton = automaton_of x }

abbrev pub emit_fault : Tables → (room : ℕ) → ℕ
emit_fault x r = or_else (unless (not (is_asking x)) 31) (unless (leb (length (emitted (sheet_of x))) r) 20)

-- a verdict (§3.8) is allowed when emitting is
abbrev pub judge_fault : Tables → (symbols : List ℕ) → ℕ
judge_fault x xs = or_else (unless (not (is_asking x)) 31) (record_fault x.store.counts xs)

abbrev pub fault_of : Tables → Call → ℕ
fault_of x (offers xs m) = offer_fault x xs m
fault_of x (answers m) = answer_fault x m
fault_of x accept = accept_fault x
fault_of x looks = 0
fault_of x (emits r) = emit_fault x r
fault_of x (judges xs) = judge_fault x xs

-- WHAT A CALL LEAVES where no fault applies
abbrev pub end_of : Ended → Outcome
end_of (short n) = refuses (shortage_number n)
end_of (asks x) = leaves x
end_of (proposes x) = leaves x

abbrev pub done_by : Tables → Call → Outcome
done_by x (offers xs m) = end_of (offered x xs m)
done_by x (answers m) = end_of (answered x m)
done_by x accept = leaves (tables x.store x.answers x.s x.t x.c x.hand x.asked true)
done_by x looks = leaves x
done_by x (emits r) = leaves x
done_by x (judges xs) = leaves x

-- A CALL: 30, then its own lines, then its step
abbrev pub call : Tables → Call → Outcome
call x k = cond (is_sound x) (cond (eqb (fault_of x k) 0) (done_by x k) (refuses (fault_of x k))) (refuses 30)

-- START (§3.2): row 0 the hole, S and T empty, C the hole
abbrev pub start_fault : (counts : List ℕ) → ℕ
start_fault ns = unless (alphabet_fits ns) 17

abbrev pub started : (room : ℕ) → (counts : List ℕ) → Tables
started n ns =
    tables (record { counts = ns; room = n; nodes = hole_node ∷ [] }) (0 ∷ []) [] [] (0 ∷ []) 0 0 false

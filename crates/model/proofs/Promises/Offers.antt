-- An offer of a record over the alphabet, in time and not against what is known, is refused by no line: it is taken, or something runs short.
-- The record's symbols have no fault and give it back; so the verdict on them is that on the record, and their row, where it is known, has its tree.
use mathlib.Core.Path.{◌≡◌, refl, sym, ap, ◌∙◌}
use mathlib.Core.Logic.{◌≢◌, ◌⊎◌, inl}
use mathlib.Core.Bool.{Bool, true, false, ◌&&◌, not, cond}
use mathlib.Core.List.{List}
use Prim.Native.Nat.{ℕ, ◌+◌, ◌≤◌, ◌<◌}
use native.Mathlib.Omega.{arith}
use native.Mathlib.Decide.{ℕ_discrete}
use lib.ListN.{length}
use borrow.Author.Tests.{lt-ltb, le-leb, eq-eqb, ne_eqb}
use Rattle.model.specs.Limits.{most_listed}
use Rattle.model.specs.Store.{used}
use Rattle.model.specs.Terms.{Tree, Over, tree_at, symbols_of, record_fault, known_row}
use Rattle.model.specs.Automata.{accepts, accepts_list}
use Rattle.model.specs.Table.{Tables, answer_at, automaton_of}
use Rattle.model.specs.TableFacts.{Core}
use Rattle.model.specs.Calls.{offers, answers, is_asking, is_proposing, phase_of, contradicts, verdict_is, sheet_of, fault_of}
use Rattle.model.specs.Listing.{emitted}
use Rattle.model.specs.Promise.{OffersTaken, OthersTaken}
use Rattle.model.proofs.Laws.Trees.{record_fault_parses}
use Rattle.model.proofs.Laws.Records.{symbols_back, symbols_faultless, some_symbols, known_tree}
use Rattle.model.proofs.Laws.Sounds.{sound_facts}
use Rattle.model.proofs.Laws.Cases.{agrees}
use Rattle.model.proofs.Promises.Automata.{one_automaton}
use Rattle.model.proofs.Promises.Steps.{taken_when_due}

-- 31: the phase is 0 only while proposing
pub proposing : (x : Tables) → phase_of x ≡ 0 → is_proposing x ≡ true
proposing x e = go x.accepted (is_asking x) e
  where
    go : (a b : Bool) → ◌≡◌ {A = ℕ} (cond a 2 (cond b 1 0)) 0 → not b && not a ≡ true
    go true b p = absurd (omega arith)
    go false true p = absurd (omega arith)
    go false false p = refl

-- 11 to 15: a record has symbols, and here few of them
faultless : (ns : List ℕ) (t : Tree) → Over ns t → length (symbols_of t) ≤ most_listed → record_fault ns (symbols_of t) ≡ 0
faultless ns t o l = rw (lt-ltb 0 (length (symbols_of t)) (some_symbols t), le-leb (length (symbols_of t)) most_listed l) (symbols_faultless ns t o)

module _ (x : Tables) (t : Tree) (m : ℕ) (core : Core x) (over : Over x.store.counts t) (few : length (symbols_of t) ≤ most_listed) where
  -- 32: the verdict on the symbols is that on the record
  verdict : cond (accepts (automaton_of x) t) 1 0 ≢ m → verdict_is x (symbols_of t) m ≡ false
  verdict n =
      let a = one_automaton.listed (automaton_of x) (symbols_of t) (faultless x.store.counts t over few) in
      let b = ap (accepts (automaton_of x)) (symbols_back x.store.counts t over) in
      ne_eqb (cond (accepts_list (automaton_of x) (symbols_of t)) 1 0) m (λ e. n (ap (λ (z : Bool). cond z 1 0) (sym (a ∙ b)) ∙ e))

  -- 33: the known row has the record's tree, and row 0 has no answer
  known : m ≤ 1 → ((i : ℕ) → i < used x.store → tree_at x.store i ≡ t → (answer_at x.answers i ≡ 0) ⊎ (answer_at x.answers i ≡ m + 1)) →
      contradicts (answer_at x.answers (known_row x.store (symbols_of t))) m ≡ false
  known l h = agrees (answer_at x.answers i) m l (go (ℕ_discrete i 0))
    where
      i : ℕ
      i = known_row x.store (symbols_of t)

      go : Dec (i ≡ 0) → (answer_at x.answers i ≡ 0) ⊎ (answer_at x.answers i ≡ m + 1)
      go (yes e) = inl (ap (answer_at x.answers) e ∙ core.first)
      go (no n) =
          let k = known_tree x.store core.good (symbols_of t) (record_fault_parses x.store.counts (symbols_of t) (faultless x.store.counts t over few)).0 n in
          h i k.0 (k.1 ∙ symbols_back x.store.counts t over)

pub offers_taken : OffersTaken
offers_taken x t m e p o l k v h =
    let core = (sound_facts x e).nearly.core in
    let f : fault_of x (offers (symbols_of t) m) ≡ 0 = rw (proposing x p, faultless x.store.counts t o l, le-leb m 1 k, verdict x t m core o l v, known x t m core o l k h) in
    (taken_when_due x (offers (symbols_of t) m) e).taken_or_short f

-- THE OTHER CALLS: their lines are the phase, the mark and the room
asking : (x : Tables) → phase_of x ≡ 1 → is_asking x ≡ true
asking x e = go x.accepted (is_asking x) e
  where
    go : (a b : Bool) → ◌≡◌ {A = ℕ} (cond a 2 (cond b 1 0)) 1 → b ≡ true
    go true b p = absurd (omega arith)
    go false true p = refl
    go false false p = absurd (omega arith)

pub others_taken : OthersTaken
others_taken =
    record {
      answer = λ x m e p l. (let f : fault_of x (answers m) ≡ 0 = rw (asking x p, le-leb m 1 l) in (taken_when_due x (answers m) e).taken_or_short f);
      acceptance = λ x e p. rw (e, proposing x p);
      look = λ x e. rw e;
      emission = λ x r e p l. rw (e, eq-eqb x.asked 0 p, le-leb (length (emitted (sheet_of x))) r l);
      verdict = λ x xs e p f. rw (e, eq-eqb x.asked 0 p, f);
    }

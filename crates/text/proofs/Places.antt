-- An offer that gets 32 is told by the verdict on its record: with the place of the missing rule, or without one where the root has a state.
-- Refused it changed nothing, so the verdict is that of the tables before it.
use mathlib.Core.Path.{◌≡◌, refl, ap, ◌∙◌}
use mathlib.Core.Logic.{◌≢◌}
use mathlib.Core.List.{List}
use mathlib.Core.Option.{none}
use Prim.Native.Nat.{ℕ}
use native.Mathlib.Omega.{arith}
use Rattle.model.specs.Terms.{tree_of, record_fault}
use Rattle.model.specs.Automata.{Automaton, state_of, verdict_on}
use Rattle.model.specs.Table.{automaton_of}
use Rattle.model.specs.Calls.{Outcome, refuses, leaves, offers, number_of}
use Rattle.model.specs.Entry.{tables_of, seen_by, words_by, lists_by, call_number, call_by, judged_as, judge_seen}
use Rattle.model.specs.declared.Verdict.{Verdict}
use Rattle.model.proofs.Laws.Verdict.{state_within}
use Rattle.model.proofs.Promises.Verdicts.{verdict_told}
use Rattle.text.specs.Lines.{calls, refused_text, agreed_text}
use Rattle.text.specs.Script.{script, offer_told, heard, lent_of}
use Rattle.text.specs.Promise.{PlaceTold}
use Rattle.text.specs.declared.Script.{Script}

-- the automaton asked, and the line that tells its verdict
abbrev proposed : (words : List ℕ) → Script → Automaton
proposed ws z = automaton_of (tables_of ws z.lists)

abbrev verdict_text : Verdict → List ℕ
verdict_text v = agreed_text (judged_as v)

-- with a state at the root no place is told
root_told : (d : Automaton) (xs : List ℕ) → record_fault d.counts xs ≡ 0 → state_of d (tree_of d.counts xs) ≢ none → verdict_text (verdict_on d xs) ≡ refused_text 32
root_told d xs f s = go (verdict_on d xs) refl
  where
    go : (v : Verdict) → verdict_on d xs ≡ v → verdict_text v ≡ refused_text 32
    go Verdict.Accepted e = refl
    go Verdict.NotFinal e = refl
    go (Verdict.NoRule p) e = let n = (verdict_told.no_rule_law d xs p f).0 e in absurd (state_within d s n.inside n.stateless)

module _ (ws : List ℕ) (z : Script) (xs : List ℕ) (m : ℕ) (q : call_number ws z.lists (offers xs m) ≡ 32) where
  told : (record_fault (proposed ws z).counts xs ≡ 0) × (judge_seen ws z.lists xs ≡ judged_as (verdict_on (proposed ws z) xs))
  told = verdict_told.told (lent_of ws z) xs (verdict_told.behind_32 (lent_of ws z) xs m q).0

  heard_verdict : (heard ws z (calls (offers xs m))).text ≡ verdict_text (verdict_on (proposed ws z) xs)
  heard_verdict = go (call_by ws z.lists (offers xs m)) q ∙ ap agreed_text told.1
    where
      go : (o : Outcome) → number_of o ≡ 32 →
          (offer_told (words_by ws o) (script z.stage z.letters (lists_by z.lists o)) xs (seen_by o)).text ≡ agreed_text (judge_seen ws z.lists xs)
      go (refuses n) e = rw e
      go (leaves y) e = absurd (omega arith)

pub place_told : PlaceTold
place_told =
    record {
      no_rule_law = λ ws z xs m p q n. heard_verdict ws z xs m q ∙ ap verdict_text ((verdict_told.no_rule_law (proposed ws z) xs p (told ws z xs m q).0).1 n);
      with_state_law = λ ws z xs m q s. heard_verdict ws z xs m q ∙ root_told (proposed ws z) xs (told ws z xs m q).0 s;
    }

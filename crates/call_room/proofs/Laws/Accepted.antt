-- Acceptance by what looking tells: refused where looking is; else by the phase, refused or taken with the flag set and all the rest as it was.
use mathlib.Core.Path.{◌≡◌, refl, sym, ap, subst, ◌∙◌}
use mathlib.Core.Bool.{Bool, true, ◌&&◌, not}
use mathlib.Core.List.{List}
use Prim.Native.Nat.{ℕ}
use native.Mathlib.Omega.{arith}
use lib.Dec.{eqb}
use borrow.Author.Tests.{eq-eqb, ne_eqb}
use Rattle.std.specs.Prelude.{Ok, Err}
use Rattle.model.specs.Terms.{unless}
use Rattle.model.specs.Table.{Tables, tables}
use Rattle.model.specs.Calls.{looks, accept, fault_of}
use Rattle.model.specs.Entry.{Arrays, lists_fit, tables_of, refused, call_seen}
use Rattle.model.specs.Refusals.{reason_number}
use Rattle.model.specs.declared.Lists.{Lists}
use Rattle.model.specs.declared.refusal.Refusal.{Refusal}
use Rattle.model.specs.declared.refusal.Refusal.TheVariants.{Phase}
use Rattle.model.proofs.Laws.Refused.{number_some}
use Rattle.model.proofs.Laws.Lent.{lists_same, words_same, lists_fit_facts, lists_fit_true}
use Rattle.call.proofs.Laws.Looked.{looked_sound, looked_refused}
use Rattle.run_lists.specs.Changes.{accepting}
use Rattle.run_lists.proofs.Laws.Arrays.{few_letters, few_states, few_rules, few_contexts}
use Rattle.sound.proofs.Laws.Within.{sound_within}
use Rattle.call.specs.Calls.{CallAs, look_told}
use Rattle.call.proofs.Laws.Called.{refused_by, called_fault, called_left}

pub accepting_fit : (l : Lists) → lists_fit l ≡ true → lists_fit (accepting l) ≡ true
accepting_fit l e =
    let f = lists_fit_facts l e in
    lists_fit_true (accepting l) (record { letters = f.letters; states = f.states; rules = f.rules; contexts = f.contexts; accepted = omega arith })

module _ (ws : List ℕ) (l : Lists) where
  abbrev X : Tables
  X = tables_of ws l

  abbrev Y : Tables
  Y = tables X.store X.answers X.s X.t X.c X.hand X.asked true

  -- LOOKING REFUSED
  pub accept_unlooked : (r : Refusal) → refused (reason_number r) ≡ call_seen ws l looks → CallAs ws l accept (Err r) ws
  accept_unlooked r e = refused_by ws l accept r (looked_refused ws l (reason_number r) (number_some r) e accept)

  -- LOOKED: sound tables in lists that fit
  module _ (e : look_told l ≡ call_seen ws l looks) where
    abbrev fault : (asks_none accepted : Bool) → ℕ
    fault a z = unless (not (not a) && not z) 31

    pub accept_asking : (l.asked ≡ 0 → ⊥) → CallAs ws l accept (Err Phase) ws
    accept_asking n = let t = looked_sound ws l e in called_fault ws l accept t.0 t.1 t.2 Phase (sym (ap (λ (a : Bool). fault a (eqb l.accepted 1)) (ne_eqb l.asked 0 n)))

    module _ (a : l.asked ≡ 0) where
      pub accept_again : l.accepted ≡ 1 → CallAs ws l accept (Err Phase) ws
      accept_again z = let t = looked_sound ws l e in called_fault ws l accept t.0 t.1 t.2 Phase (sym (λ i. fault (eq-eqb l.asked 0 a i) (eq-eqb l.accepted 1 z i)))

      pub accept_taken : (l.accepted ≡ 1 → ⊥) → Arrays l → (m : Lists) → m ≡ accepting l → CallAs ws l accept (Ok m) ws
      accept_taken z f m p =
          let t = looked_sound ws l e in
          let free : fault_of X accept ≡ 0 = λ i. fault (eq-eqb l.asked 0 a i) (ne_eqb l.accepted 1 z i) in
          let same = sym (lists_same ws (accepting l) (few_letters t.1 f) (few_states t.1 f) (few_rules t.1 f) (few_contexts t.1 f) (omega arith)) in
          called_left ws l accept t.0 t.1 t.2 free Y refl m (subst (λ (o : Lists). lists_fit o ≡ true) (sym p) (accepting_fit l t.1)) (ap look_told p) (p ∙ same) ws
          (sym (words_same ws l (sound_within ws l t.2)))

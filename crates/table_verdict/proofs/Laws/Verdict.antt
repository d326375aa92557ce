-- What the verdicts mean: where each transition has a representative in S (Ruled), they are model's verdicts of the hypothesis.
-- The definition's stack holds the places in S of the representatives; a state within S is final where its representative has the answer 2.
use mathlib.Core.Path.{◌≡◌, refl, sym, ap, subst, ◌∙◌}
use mathlib.Core.Logic.{inl, inr}
use mathlib.Core.Bool.{Bool, true, false, ◌&&◌, not, cond}
use mathlib.Core.List.{List, [], ◌∷◌, map}
use mathlib.Core.Option.{Option, none, some}
use Prim.Native.Nat.{ℕ, zero, suc, ◌+◌, ◌-◌, ◌≤◌, ◌<◌}
use native.Mathlib.Omega.{arith}
use lib.Dec.{eqb}
use borrow.Author.Tests.{ne_eqb}
use lib.ListN.{length, get_or, take, drop, length-drop}
use lib.Seq.{length-take-le}
use Rattle.model.specs.Limits.{most_rows}
use Rattle.model.specs.Base.{In, Each, each_nil, each_cons, top}
use Rattle.model.specs.Store.{Store, used, count_of, find_row}
use Rattle.model.specs.Automata.{Automaton, RunEnd, gives, stuck, target_in, go_on, run_from, verdict_by, verdict_on, is_final, row_state}
use Rattle.model.specs.Table.{answer_at, finals_of}
use Rattle.model.specs.Facts.{Good, Parses}
use Rattle.model.proofs.Laws.Stack.{length_backwards, map_drop, map_top, each_backwards, each_take, each_drop}
use Rattle.model.proofs.Laws.Listed.{parts}
use Rattle.model.specs.declared.Verdict.{Verdict}
use Rattle.table_verdict.specs.Rules.{rules_by, Ruled, rep_of, led_by, go_on_by, run_by, led_list, accepts_by, led_verdict, verdict_list_by}
use Rattle.std.specs.Prelude.{Ok, Err}
use Rattle.table_verdict.proofs.Laws.Lookup.{place_in, state_by, Rep, at_own_place, own_place_within, rep_in, lookup, found_rep}
use Rattle.table_verdict.proofs.Laws.States.{Told, target_told, row_told, rep_row_law}

-- the automaton with these rules and any finals
abbrev pub automaton : Store → (finals s t reps : List ℕ) → Automaton
automaton x fs s t reps = record { counts = x.counts; finals = fs; rules = rules_by x s t reps }

-- FINALS: a state within S, by its representative
final_at : (w s : List ℕ) (q : ℕ) → q < length s → is_final (finals_of w s) (some q) ≡ eqb (answer_at w (get_or s q 0)) 2
final_at w [] q l = absurd (omega arith)
final_at w (i ∷ s) zero l = go (eqb (answer_at w i) 2)
  where
    go : (b : Bool) → eqb (cond b 1 0) 1 ≡ b
    go true = refl
    go false = refl
final_at w (i ∷ s) (suc q) l = final_at w s q (omega arith)

-- by the representative of a state that it tells
told_final : (w s : List ℕ) (o : Option ℕ) → Told s o → not (eqb (rep_of s o) 0) && eqb (answer_at w (rep_of s o)) 2 ≡ is_final (finals_of w s) o
told_final w s o h = go (rep_of s o) h.rep h.back
  where
    go : (r : ℕ) → Rep s r → o ≡ state_by s r → not (eqb r 0) && eqb (answer_at w r) 2 ≡ is_final (finals_of w s) o
    go zero m e = sym (ap (is_final (finals_of w s)) e)
    go (suc k) m e =
        let i : In (suc k) s = rep_in m (λ z. omega arith) in
        ap (λ (b : Bool). not b && eqb (answer_at w (suc k)) 2) (ne_eqb (suc k) 0 (λ z. omega arith)) ∙
        ap (λ (j : ℕ). eqb (answer_at w j) 2) (sym (at_own_place s (suc k) i)) ∙ sym (final_at w s (place_in s (suc k)) (own_place_within s (suc k) i)) ∙ sym (ap (is_final (finals_of w s)) e)

-- A STATE THAT A RUN GIVES is a place in S
told_within : {s : List ℕ} {q : ℕ} → Told s (some q) → q < length s
told_within {s} {q} o = go (get_or s q 0) o.rep o.back
  where
    go : (r : ℕ) → Rep s r → some q ≡ state_by s r → q < length s
    go zero h e = absurd (let z : ◌≡◌ {A = ℕ} 0 1 = cc in omega arith)
    go (suc k) (inl z) e = absurd (omega arith)
    go (suc k) (inr h) e = let p : q ≡ place_in s (suc k) = cc in omega (arith, own_place_within s (suc k) h)

module _ {x : Store} {s t reps : List ℕ} (g : Good x) (d : Ruled x s t reps) (fs : List ℕ) (q : ℕ) where
  run_within : (p : ℕ) (xs qs : List ℕ) → Each (λ (k : ℕ). k < length s) qs → run_from (automaton x fs s t reps) p xs qs ≡ gives q → q < length s
  unfolding run_from
  run_within p [] [] b e = absurd (let z : ◌≡◌ {A = ℕ} 0 1 = cc in omega arith)
  run_within p [] (k ∷ qs) (each_cons l b) e = let z : k ≡ q = cc in omega arith
  run_within p (a ∷ xs) qs b e =
      go (target_in a (top (count_of x a) qs) (rules_by x s t reps)) (target_told g d a (top (count_of x a) qs) t (λ i h. h))
      (λ k l. run_within (suc p) xs (k ∷ drop (count_of x a) qs) (each_cons l (each_drop (count_of x a) qs b))) e
    where
      go : (o : Option ℕ) → Told s o →
          ((k : ℕ) → k < length s → run_from (automaton x fs s t reps) (suc p) xs (k ∷ drop (count_of x a) qs) ≡ gives q → q < length s) →
          go_on p o (λ (k : ℕ). run_from (automaton x fs s t reps) (suc p) xs (k ∷ drop (count_of x a) qs)) ≡ gives q → q < length s
      go none o ih e = absurd (let z : ◌≡◌ {A = ℕ} 0 1 = cc in omega arith)
      go (some k) o ih e = ih k (told_within o) e

module _ {x : Store} {s t reps : List ℕ} (g : Good x) (d : Ruled x s t reps) (small : used x ≤ most_rows) where
  -- THE VERDICT on a stored record
  pub accepts_row_is : (w : List ℕ) (i : ℕ) → i < used x → accepts_by x w reps i ≡ is_final (finals_of w s) (row_state (rules_by x s t reps) x i)
  accepts_row_is w i u =
      ap (λ (k : ℕ). not (eqb k 0) && eqb (answer_at w k) 2) (rep_row_law g d small i u) ∙ told_final w s (row_state (rules_by x s t reps) x i) (row_told g d i)

  -- THE RUN on a listed record, from a stack of representatives
  module _ (fs : List ℕ) where
    run_led : (p : ℕ) (xs ks : List ℕ) → Each (λ (k : ℕ). In k s) ks → Parses x.counts (length ks) xs →
        run_by x reps p xs ks ≡ led_by s (run_from (automaton x fs s t reps) p xs (map (place_in s) ks))
    unfolding run_from run_by
    run_led p [] [] a q = refl
    run_led p [] (k ∷ ks) (each_cons m a) q = ap (λ (j : ℕ). Ok (record { 0 = j })) (sym (at_own_place s k m))
    run_led p (a ∷ xs) ks b q =
        go (get_or reps (find_row x a (top (count_of x a) ks)) 0) (found_rep g d small a (top (count_of x a) ks) (parts q).0 top_long top_members)
        (λ r m. run_led (suc p) xs (r ∷ drop (count_of x a) ks) (each_cons m (each_drop (count_of x a) ks b)) (subst (λ (l : ℕ). Parses x.counts l xs) (pushed_long r) (parts q).2)) ∙
        ap (λ (o : Option ℕ). led_by s (go_on p o onward)) (sym target)
      where
        enough : count_of x a ≤ length ks
        enough = (parts q).1

        top_long : length (top (count_of x a) ks) ≡ count_of x a
        top_long = let l = length_backwards (take (count_of x a) ks) [] in let m = length-take-le (count_of x a) ks enough in omega arith

        top_members : Each (λ (k : ℕ). In k s) (top (count_of x a) ks)
        top_members = each_backwards (take (count_of x a) ks) [] (each_take (count_of x a) ks b) each_nil

        pushed_long : (r : ℕ) → length ks - count_of x a + 1 ≡ length (r ∷ drop (count_of x a) ks)
        pushed_long r = omega (arith, length-drop (count_of x a) ks)

        onward : ℕ → RunEnd
        onward k = run_from (automaton x fs s t reps) (suc p) xs (k ∷ drop (count_of x a) (map (place_in s) ks))

        target : target_in a (top (count_of x a) (map (place_in s) ks)) (rules_by x s t reps) ≡ state_by s (get_or reps (find_row x a (top (count_of x a) ks)) 0)
        target =
            ap (λ (qs : List ℕ). target_in a qs (rules_by x s t reps)) (sym (map_top (place_in s) (count_of x a) ks)) ∙
            lookup g d small a (top (count_of x a) ks) (parts q).0 top_long top_members

        go : (r : ℕ) → Rep s r →
            ((r : ℕ) → In r s → run_by x reps (suc p) xs (r ∷ drop (count_of x a) ks) ≡ led_by s (run_from (automaton x fs s t reps) (suc p) xs (map (place_in s) (r ∷ drop (count_of x a) ks)))) →
            go_on_by p r (λ (k : ℕ). run_by x reps (suc p) xs (k ∷ drop (count_of x a) ks)) ≡ led_by s (go_on p (state_by s r) onward)
        go zero m ih = refl
        go (suc k) m ih =
            ap (λ (b : Bool). cond b (Err p) (run_by x reps (suc p) xs (suc k ∷ drop (count_of x a) ks))) (ne_eqb (suc k) 0 (λ z. omega arith)) ∙
            ih (suc k) (rep_in m (λ z. omega arith)) ∙
            ap (λ (l : List ℕ). led_by s (run_from (automaton x fs s t reps) (suc p) xs (place_in s (suc k) ∷ l))) (map_drop (place_in s) (count_of x a) ks)

    pub list_led : (xs : List ℕ) → Parses x.counts 0 xs → led_list x reps xs ≡ led_by s (run_from (automaton x fs s t reps) 0 xs [])
    list_led xs q = run_led 0 xs [] each_nil q

  -- THE VERDICT on a listed record
  pub verdict_list_is : (w xs : List ℕ) → Parses x.counts 0 xs → verdict_list_by x w reps xs ≡ verdict_on (automaton x (finals_of w s) s t reps) xs
  verdict_list_is w xs q = ap (led_verdict w) (list_led (finals_of w s) xs q) ∙ go (run_from (automaton x (finals_of w s) s t reps) 0 xs []) refl
    where
      go : (v : RunEnd) → run_from (automaton x (finals_of w s) s t reps) 0 xs [] ≡ v → led_verdict w (led_by s v) ≡ verdict_by (finals_of w s) v
      go (gives q) e = ap (λ (b : Bool). cond b Verdict.Accepted Verdict.NotFinal) (sym (final_at w s q (run_within g d (finals_of w s) q 0 xs [] each_nil e)))
      go (stuck p) e = refl

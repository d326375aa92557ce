-- What the test leaves: made over lists of members, so it holds of the arrays whose first members they are; and it stays where the representatives stay.
-- A list cut to its first members has their number as its length, and to cut a list to its length leaves it as it is.
use mathlib.Core.Path.{◌≡◌, refl, sym, ap, subst, ◌∙◌}
use mathlib.Core.Bool.{true, false, cond}
use mathlib.Core.List.{List}
use Prim.Native.Nat.{ℕ, ◌*◌, ◌≤◌}
use native.Mathlib.Omega.{arith}
use lib.ListN.{length, get_or, take}
use lib.Seq.{take-length, length-take-le}
use Rattle.model.specs.Limits.{row_width}
use Rattle.model.specs.Base.{among, place_of}
use Rattle.model.specs.Entry.{Arrays, lists_fit, store_of, answers_in}
use Rattle.model.specs.declared.Lists.{Lists}
use Rattle.run_lists.proofs.Laws.Arrays.{few_states, few_rules, few_contexts}
use Rattle.bank.specs.Bank.{Bank}
use Rattle.bank.specs.Notes.{room_in, reps_in}
use Rattle.table.specs.Answers.{Observed, Placing, Placed, gap_from, is_open, state_at}
use Rattle.table_answers.proofs.Laws.Cut.{observed_whole}
use Rattle.table_verdict.specs.Rules.{RepsBy}
use Rattle.table.proofs.Laws.InT.{places_cut}
use Rattle.sound.specs.Working.{Counted, Working}

-- representatives by equal numbers and lists
reps_as : {table : List ℕ} {m k : ℕ} {ps qs s z t y reps us : List ℕ} → m ≡ k → ps ≡ qs → s ≡ z → t ≡ y → us ≡ reps → RepsBy table m ps s t reps → RepsBy table k qs z y us
reps_as {table} a b c d e h =
    record { right = λ i l. ap (λ (xs : List ℕ). get_or xs i 0) e ∙ h.right i l ∙ λ j. cond (among i (d j)) (get_or (c j) (state_at table (a j) (b j) (place_of i 0 (d j))) 0) 0 }

-- THE MEMBERS of a run's lists that fit
pub counted : {l : Lists} → lists_fit l ≡ true → Arrays l → Counted l.s l.states l.t l.rules l.c l.contexts
counted f a = record { few_s = few_states f a; few_t = few_rules f a; few_c = few_contexts f a }

-- MADE over lists of members
pub working_made : {ws ns : List ℕ} {u : ℕ} {s t c index table places notes : List ℕ} → Bank ws ns u index → Observed (store_of ws ns u) (answers_in u ws) t (length t) c (length c) table →
    Placing places (length s) (length t) → Placed t (length t) s (length s) places →
    (is_open (gap_from table (length c) 0 (length t)) ≡ false → RepsBy table (length c) (take (length s) places) s t (reps_in notes)) → length ws ≤ row_width * room_in notes →
    Working ws ns u s (length s) t (length t) c (length c) index table notes
working_made {s = s} {t = t} {places = ps} r o p d f l =
    record { bank = r; observed = o; s_in_t = ps; placing = p; placed = d; reps_by = λ e. reps_as refl refl (sym (take-length s)) (sym (take-length t)) refl (f e); notes_long = l }

module _ {ws ns : List ℕ} {u : ℕ} {s : List ℕ} {q : ℕ} {t : List ℕ} {n : ℕ} {c : List ℕ} {m : ℕ} {index table notes : List ℕ} where
  -- OF ARRAYS
  pub working_whole : Counted s q t n c m → Working ws ns u (take q s) (length (take q s)) (take n t) (length (take n t)) (take m c) (length (take m c)) index table notes →
      Working ws ns u s q t n c m index table notes
  working_whole a w =
      let x = store_of ws ns u in
      let v = answers_in u ws in
      let eq = length-take-le q s a.few_s in
      let en = length-take-le n t a.few_t in
      let em = length-take-le m c a.few_c in
      let o = subst (λ (r : ℕ). Observed x v (take n t) r (take m c) (length (take m c)) table) en w.observed in
      let p = places_cut s q t n a.few_s a.few_t w.placing w.placed in
      record {
        bank = w.bank;
        observed = observed_whole x v t n c m a.few_t a.few_c table n (omega arith) o;
        s_in_t = w.s_in_t;
        placing = p.0;
        placed = p.1;
        reps_by = λ e.
            reps_as em (ap (λ (k : ℕ). take k w.s_in_t) eq) (take-length (take q s)) (take-length (take n t)) refl
            (w.reps_by ((λ i. is_open (gap_from table (em i) 0 (en i))) ∙ e));
        notes_long = w.notes_long;
      }

  -- THE NOTES changed, but not the representatives
  pub working_kept : {after : List ℕ} → reps_in after ≡ reps_in notes → length after ≡ length notes → Working ws ns u s q t n c m index table notes → Working ws ns u s q t n c m index table after
  working_kept e l w =
      record {
        bank = w.bank;
        observed = w.observed;
        s_in_t = w.s_in_t;
        placing = w.placing;
        placed = w.placed;
        reps_by = λ g. reps_as refl refl refl refl e (w.reps_by g);
        notes_long = omega (arith, w.notes_long);
      }

-- T4's last clause and T5 to T8 by what has been worked out are model's; and so the two parts make the soundness test.
-- The table of answers, the places of S, the marks and the hypothesis say of the tables given what the definitions say.
use mathlib.Core.Path.{◌≡◌, refl, sym, ap, ◌∙◌}
use mathlib.Core.Bool.{Bool, true, false, ◌&&◌, ◌||◌, not, cond}
use mathlib.Core.List.{List}
use Prim.Native.Nat.{ℕ, ◌+◌, ◌≤◌, ◌<◌}
use native.Mathlib.Omega.{arith}
use borrow.Author.Tests.{ltb-true}
use lib.Dec.{ltb, leb, eqb}
use lib.ListN.{length, take}
use lib.Seq.{length-take-le}
use Rattle.model.specs.Limits.{most_rows}
use Rattle.model.specs.Store.{used, is_record}
use Rattle.model.specs.Automata.{Automaton, accepts_row}
use Rattle.model.specs.Table.{Tables, answer_at, answers_of, is_missing, automaton_of}
use Rattle.model.specs.Sound.{is_t1, is_t2, is_t3, contexts_fit, contexts_few, is_t5, is_t6, is_t7, is_t8, is_sound, verdict_differs}
use Rattle.model.specs.Entry.{store_of, answers_in}
use Rattle.model.proofs.Laws.Tests.{and_left, and_right}
use Rattle.model.proofs.Laws.ReflectTable.{held_of, known_of, shaped_of}
use Rattle.bank.specs.Rows.{answer_in}
use Rattle.bank.specs.Notes.{reps_in}
use Rattle.bank.proofs.Laws.Words.{used_of, answer_in_law}
use Rattle.bank.proofs.Laws.Notes.{column_long}
use Rattle.table.specs.Answers.{Placing, Placed, gap_from, is_open}
use Rattle.table.proofs.Laws.Tied.{missing_tied}
use Rattle.table.proofs.Laws.Judged.{yes_tied, differ_tied, once_tied}
use Rattle.sound_roles.specs.Marked.{record_by}
use Rattle.sound_roles.proofs.Laws.Marked.{record_ready}
use Rattle.table_verdict.specs.Rules.{hypothesis, Ruled, RepsIn, accepts_by}
use Rattle.table_verdict.proofs.Laws.States.{reps_ruled}
use Rattle.table_verdict.proofs.Laws.Verdict.{accepts_row_is}
use Rattle.table_verdict.proofs.Laws.Tied.{Covers, covers_shaped, RepsOf, reps_tied, ruled_tied, hypothesis_tied}
use Rattle.bank_t1.specs.Pass.{hole_by}
use Rattle.sound.proofs.Laws.Parts.{and_assoc, and_false}
use Rattle.sound.specs.Given.{given, roles_fit, few_fit, table_fits, question_fits}
use Rattle.sound.specs.Working.{Counted, Working, prepared_fit, judged_fit, hand_fits}
use Rattle.sound.proofs.Laws.Prepared.{two, three, four}

module _ {ws ns : List ℕ} {u : ℕ} {s : List ℕ} {q : ℕ} {t : List ℕ} {n : ℕ} {c : List ℕ} {m : ℕ} {index table notes : List ℕ} (a : Counted s q t n c m)
    (w : Working ws ns u s q t n c m index table notes) where
  small : used (store_of ws ns u) ≤ most_rows
  small = omega (arith, used_of ws ns u, w.bank.finding.few)

  pub missing_is : (h o : ℕ) (z : Bool) → is_open (gap_from table m 0 n) ≡ is_missing (given ws ns u s q t n c m h o z)
  missing_is h o z = missing_tied w.observed a.few_t

  -- T4's last clause, T5 and T6
  few_is : (h o : ℕ) (z : Bool) (b : Bool) → b ≡ is_missing (given ws ns u s q t n c m h o z) → few_fit q n m b ≡ contexts_few (given ws ns u s q t n c m h o z)
  few_is h o z b e =
      let k : q + n ≡ length (take q s) + length (take n t) = omega (arith, length-take-le q s a.few_s, length-take-le n t a.few_t) in
      let l = sym (length-take-le m c a.few_c) in
      λ i. e i || leb (l i) (cond (eqb (k i) 0) 1 (k i))

  pub table_is : {places : List ℕ} → Placing places q n → Placed t n s q places → (h o : ℕ) (z : Bool) (b : Bool) → b ≡ is_missing (given ws ns u s q t n c m h o z) →
      table_fits table places q n m b ≡ contexts_few (given ws ns u s q t n c m h o z) && (is_t5 (given ws ns u s q t n c m h o z) && is_t6 (given ws ns u s q t n c m h o z))
  table_is {places} p r h o z b e =
      let l : q ≤ length places = omega (arith, p.long, p.few) in
      let d = differ_tied w.observed a.few_t s q places r a.few_s l in
      let y = yes_tied w.observed a.few_t in
      let f = once_tied w.observed a.few_t s q places r a.few_s l in
      λ i. few_is h o z b e i && ((d i && y i) && (e i || f i))

  -- T8
  pub question_is : (h o z : ℕ) (b : Bool) → b ≡ is_missing (given ws ns u s q t n c m h o (eqb z 1)) → question_fits ws index u h o z b ≡ is_t8 (given ws ns u s q t n c m h o (eqb z 1))
  question_is h o z b e = go (record_by index u o) refl
    where
      go : (k : Bool) → record_by index u o ≡ k → question_fits ws index u h o z b ≡ is_t8 (given ws ns u s q t n c m h o (eqb z 1))
      go true r =
          let l = ltb-true o u (and_left (ltb o u) (not (hole_by index o)) r) in
          let v = answer_in_law u o ws l in
          (λ i. cond (eqb o 0) (eqb h 0 && not (e i)) (record_ready w.bank o i && (eqb (sym v i) 0 && not (eqb z 1)))) ∙
          ap (cond (eqb o 0) (eqb h 0 && not (is_missing (given ws ns u s q t n c m h o (eqb z 1))))) (and_assoc (is_record (store_of ws ns u) o) (eqb (answer_at (answers_in u ws) o) 0) (not (eqb z 1)))
      go false r =
          let f : is_record (store_of ws ns u) o ≡ false = sym (record_ready w.bank o) ∙ r in
          (λ i. cond (eqb o 0) (eqb h 0 && not (e i)) (r i && (eqb (answer_in ws o) 0 && not (eqb z 1)))) ∙
          sym (λ i. cond (eqb o 0) (eqb h 0 && not (is_missing (given ws ns u s q t n c m h o (eqb z 1)))) ((f i && eqb (answer_at (answers_in u ws) o) 0) && not (eqb z 1)))

  -- T7, where T1 to T6 hold
  module _ (p : prepared_fit (given ws ns u s q t n c m 0 0 false) ≡ true) (h o : ℕ) (z : Bool)
      (f : contexts_few (given ws ns u s q t n c m h o z) && (is_t5 (given ws ns u s q t n c m h o z) && is_t6 (given ws ns u s q t n c m h o z)) ≡ true) where
    abbrev X : Tables
    X = given ws ns u s q t n c m h o z

    roles : roles_fit (given ws ns u s q t n c m 0 0 false) ≡ true
    roles = and_right (is_t1 X) (roles_fit (given ws ns u s q t n c m 0 0 false)) p

    module _ (e : is_missing (given ws ns u s q t n c m h o z) ≡ false) where
      covers : Covers (store_of ws ns u) (answers_of (store_of ws ns u) (answers_in u ws) (take m c)) (take q s) (take n t)
      covers =
          let five-six = and_right (contexts_few X) (is_t5 X && is_t6 X) f in
          let ss = take q s in
          let ts = take n t in
          let cs = take m c in
          let held = held_of X (two ws ns u ss ts cs roles) (three ws ns u ss ts cs roles) (four ws ns u ss ts cs roles) (and_left (is_t5 X) (is_t6 X) five-six) in
          covers_shaped w.bank.good (shaped_of X held.0 (known_of X e) (and_right (is_t5 X) (is_t6 X) five-six)) held.0.one held.1.few_s

      reps_are : RepsOf (answers_of (store_of ws ns u) (answers_in u ws) (take m c)) (take q s) (take n t) (reps_in notes)
      reps_are =
          let l : q ≤ length w.s_in_t = omega (arith, w.placing.long, w.placing.few) in
          reps_tied w.observed s q w.s_in_t w.placed a.few_s l a.few_t (w.reps_by (missing_is h o z ∙ e))

      pub ruled : Ruled (store_of ws ns u) (take q s) (take n t) (reps_in notes)
      ruled = ruled_tied covers reps_are small (omega (arith, w.notes_long, column_long notes 0 (omega arith)))

      pub reps_read : RepsIn u (reps_in notes)
      reps_read = reps_ruled w.bank ruled

      pub hypothesis_is : hypothesis ws ns u s q t n (reps_in notes) ≡ automaton_of (given ws ns u s q t n c m h o z)
      hypothesis_is = hypothesis_tied ws ns u s q t n (take m c) covers reps_are small h o z

      verdict_is_law : h < used (store_of ws ns u) → accepts_by (store_of ws ns u) (answers_in u ws) (reps_in notes) h ≡ accepts_row (automaton_of (given ws ns u s q t n c m h o z)) (store_of ws ns u) h
      verdict_is_law l = accepts_row_is w.bank.good ruled small (answers_in u ws) h l ∙ ap (λ (d : Automaton). accepts_row d (store_of ws ns u) h) hypothesis_is

    abbrev verdict : Bool → Bool
    verdict y = eqb h 0 || y

    pub hand_is : (b : Bool) → b ≡ is_missing (given ws ns u s q t n c m h o z) → hand_fits ws ns u (reps_in notes) index h b ≡ is_t7 (given ws ns u s q t n c m h o z)
    hand_is true e =
        ap (λ (y : Bool). verdict (record_by index u h && y)) (and_false (eqb (answer_in ws h) (cond (accepts_by (store_of ws ns u) (answers_in u ws) (reps_in notes) h) 1 2))) ∙
        ap verdict (and_false (record_by index u h)) ∙
        sym (ap (λ (y : Bool). verdict ((is_record (store_of ws ns u) h && verdict_differs X h) && not y)) (sym e) ∙ ap verdict (and_false (is_record (store_of ws ns u) h && verdict_differs X h)))
    hand_is false e = go (record_by index u h) refl
      where
        go : (k : Bool) → record_by index u h ≡ k → hand_fits ws ns u (reps_in notes) index h false ≡ is_t7 (given ws ns u s q t n c m h o z)
        go true r =
            let l = ltb-true h u (and_left (ltb h u) (not (hole_by index h)) r) in
            let v = answer_in_law u h ws l in
            let y = verdict_is_law (sym e) (omega (arith, used_of ws ns u)) in
            (λ i. verdict (record_ready w.bank h i && (eqb (sym v i) (cond (y i) 1 2) && not (e i)))) ∙
            ap verdict (and_assoc (is_record (store_of ws ns u) h) (verdict_differs X h) (not (is_missing X)))
        go false r =
            let g : is_record (store_of ws ns u) h ≡ false = sym (record_ready w.bank h) ∙ r in
            ap (λ (y : Bool). verdict (y && (eqb (answer_in ws h) (cond (accepts_by (store_of ws ns u) (answers_in u ws) (reps_in notes) h) 1 2) && not false))) r ∙
            sym (ap (λ (y : Bool). verdict ((y && verdict_differs X h) && not (is_missing X))) g)

-- THE TWO PARTS make the soundness test
pub sound_parts : (x : Tables) → prepared_fit x && judged_fit x ≡ is_sound x
sound_parts x = go (is_t1 x) (is_t2 x) (is_t3 x) (contexts_fit x) (contexts_few x) (is_t5 x) (is_t6 x) (is_t7 x) (is_t8 x)
  where
    go : (a b c d e f g h i : Bool) → (a && (b && (c && d))) && ((e && (f && g)) && (h && i)) ≡ ((((((a && b) && c) && (d && e)) && f) && g) && h) && i
    go true true true true true true true true i = refl
    go true true true true true true true false i = refl
    go true true true true true true false h i = refl
    go true true true true true false g h i = refl
    go true true true true false f g h i = refl
    go true true true false e f g h i = refl
    go true true false d e f g h i = refl
    go true false c d e f g h i = refl
    go false b c d e f g h i = refl

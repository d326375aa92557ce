-- The soundness test over lists of members, by its parts: T1 to T4's first clauses settle it where they fail, then the table of answers; then how the run stands decides.
-- By the laws of Judged at lists cut to their lengths, which are the lists.
use mathlib.Core.Path.{◌≡◌, sym, ap, ◌∙◌}
use mathlib.Core.Bool.{Bool, true, false, ◌&&◌}
use mathlib.Core.List.{List}
use Prim.Native.Nat.{ℕ}
use native.Mathlib.Omega.{arith}
use lib.Dec.{eqb}
use lib.ListN.{length}
use lib.Seq.{take-length}
use Rattle.model.specs.Table.{Tables, tables, is_missing}
use Rattle.model.specs.Sound.{contexts_few, is_t5, is_t6, is_t7, is_t8, is_sound}
use Rattle.model.specs.Entry.{store_of, answers_in}
use Rattle.bank.specs.Notes.{reps_in}
use Rattle.table.specs.Answers.{Placing, Placed, gap_from, is_open}
use Rattle.table_verdict.specs.Rules.{RepsIn}
use Rattle.sound_roles.proofs.Laws.Scan.{stops, goes_on}
use Rattle.sound.specs.Given.{given, table_fits}
use Rattle.sound.specs.Working.{Counted, Working, prepared_fit, judged_fit, standing_fits}
use Rattle.sound.specs.declared.Standing.{Standing}
use Rattle.sound.proofs.Laws.Judged.{missing_is, table_is, question_is, reps_read, hand_is, sound_parts}

-- T1 TO T4'S FIRST CLAUSES fail
pub roles_settle : (x : Tables) → prepared_fit x ≡ false → false ≡ is_sound x
roles_settle x e = stops (prepared_fit x) (judged_fit x) e ∙ sound_parts x

module _ {ws ns : List ℕ} {u : ℕ} {s t c index table notes : List ℕ} (w : Working ws ns u s (length s) t (length t) c (length c) index table notes) {places : List ℕ}
    (placing : Placing places (length s) (length t)) (placed : Placed t (length t) s (length s) places) (r : Standing) (b : Bool) (missing : b ≡ is_open (gap_from table (length c) 0 (length t))) where
  abbrev X : Tables
  X = tables (store_of ws ns u) (answers_in u ws) s t c r.hand.0 r.asked.0 (eqb r.accepted 1)

  abbrev cut : (hand asked : ℕ) → (accepted : Bool) → Tables
  cut h o z = given ws ns u s (length s) t (length t) c (length c) h o z

  abbrev G : Tables
  G = cut r.hand.0 r.asked.0 (eqb r.accepted 1)

  whole : (h o : ℕ) (z : Bool) → given ws ns u s (length s) t (length t) c (length c) h o z ≡ tables (store_of ws ns u) (answers_in u ws) s t c h o z
  whole h o z = λ i. tables (store_of ws ns u) (answers_in u ws) (take-length s i) (take-length t i) (take-length c i) h o z

  counted : Counted s (length s) t (length t) c (length c)
  counted = record { few_s = omega arith; few_t = omega arith; few_c = omega arith }

  given_missing : b ≡ is_missing G
  given_missing = missing ∙ missing_is counted w r.hand.0 r.asked.0 (eqb r.accepted 1)

  -- T4'S LAST CLAUSE, T5 AND T6
  table_given : table_fits table places (length s) (length t) (length c) b ≡ contexts_few G && (is_t5 G && is_t6 G)
  table_given = table_is counted w placing placed r.hand.0 r.asked.0 (eqb r.accepted 1) b given_missing

  module _ (p : prepared_fit (tables (store_of ws ns u) (answers_in u ws) s t c 0 0 false) ≡ true) where
    -- what is left of the test
    rest_is : judged_fit G ≡ is_sound X
    rest_is = ap judged_fit (whole r.hand.0 r.asked.0 (eqb r.accepted 1)) ∙ goes_on (prepared_fit X) (judged_fit X) p ∙ sound_parts X

    pub table_settles : table_fits table places (length s) (length t) (length c) b ≡ false → false ≡ is_sound (tables (store_of ws ns u) (answers_in u ws) s t c r.hand.0 r.asked.0 (eqb r.accepted 1))
    table_settles e = stops (contexts_few G && (is_t5 G && is_t6 G)) (is_t7 G && is_t8 G) (sym table_given ∙ e) ∙ rest_is

    module _ (f : table_fits table places (length s) (length t) (length c) b ≡ true) where
      prepared : prepared_fit (cut 0 0 false) ≡ true
      prepared = ap prepared_fit (whole 0 0 false) ∙ p

      table_fits_law : contexts_few G && (is_t5 G && is_t6 G) ≡ true
      table_fits_law = sym table_given ∙ f

      pub members_read : b ≡ false → RepsIn u (reps_in notes)
      members_read e = reps_read counted w prepared r.hand.0 r.asked.0 (eqb r.accepted 1) table_fits_law (sym given_missing ∙ e)

      -- T7 AND T8
      pub standing_decides : standing_fits ws ns u (reps_in notes) index r b ≡ is_sound (tables (store_of ws ns u) (answers_in u ws) s t c r.hand.0 r.asked.0 (eqb r.accepted 1))
      standing_decides =
          let h = hand_is counted w prepared r.hand.0 r.asked.0 (eqb r.accepted 1) table_fits_law b given_missing in
          let q = question_is counted w r.hand.0 r.asked.0 r.accepted b given_missing in
          (λ i. h i && q i) ∙ goes_on (contexts_few G && (is_t5 G && is_t6 G)) (is_t7 G && is_t8 G) table_fits_law ∙ rest_is

-- The soundness test in its parts (§2.3), and what it leaves for a step to work with.
use Rattle.std.specs.Prelude.{◌≡◌, Bool, false, ◌&&◌, ◌||◌, not, cond, List, ℕ, ◌*◌, ◌≤◌, eqb, length, take}
use Rattle.model.specs.Limits.{row_width, most_contexts, most_rules, most_states}
use Rattle.model.specs.Table.{Tables}
use Rattle.model.specs.Sound.{is_t1, contexts_few, is_t5, is_t6, is_t7, is_t8}
use Rattle.model.specs.Entry.{store_of, answers_in}
use Rattle.model.specs.declared.Lists.{Lists}
use Rattle.bank.specs.Rows.{answer_in}
use Rattle.bank.specs.Index.{Roomy}
use Rattle.bank.specs.Bank.{Bank}
use Rattle.bank.specs.Notes.{room_in, reps_in}
use Rattle.run_lists.specs.Members.{counts_in}
use Rattle.table.specs.Answers.{Observed, Placing, Placed, gap_from, is_open}
use Rattle.sound_roles.specs.Marked.{record_by}
use Rattle.table_verdict.specs.Rules.{RepsBy, accepts_by}
use Rattle.sound.specs.Given.{roles_fit, question_fits}
use Rattle.sound.specs.declared.Standing.{Standing}

-- the run's lists in their arrays: the first q of S, the first n of T, the first m of C
pub record Counted (s : List ℕ) (q : ℕ) (t : List ℕ) (n : ℕ) (c : List ℕ) (m : ℕ) : Type 0 where
  pub few_s : q ≤ length s
  pub few_t : n ≤ length t
  pub few_c : m ≤ length c

-- lists of members that are no longer than their arrays may be
pub record Few (s t c : List ℕ) : Type 0 where
  pub few_s : length s ≤ most_states
  pub few_t : length t ≤ most_rules
  pub few_c : length c ≤ most_contexts

-- ROOM to work in, for all rows lent and n transitions
pub record Room (words : List ℕ) (n : ℕ) (index table notes : List ℕ) : Type 0 where
  pub rows : Roomy words index
  pub table_long : most_contexts * n ≤ length table
  pub notes_long : length words ≤ row_width * room_in notes

-- WHAT THE TEST LEAVES: the index, the table of answers; where no answer is missing, the representative of each transition, which is found by S as places in T
pub record Working (words counts : List ℕ) (u : ℕ) (s : List ℕ) (q : ℕ) (t : List ℕ) (n : ℕ) (c : List ℕ) (m : ℕ) (index table notes : List ℕ) : Type 0 where
  pub bank : Bank words counts u index
  pub observed : Observed (store_of words counts u) (answers_in u words) t n c m table
  pub s_in_t : List ℕ
  pub placing : Placing s_in_t q n
  pub placed : Placed t n s q s_in_t
  pub reps_by : is_open (gap_from table m 0 n) ≡ false → RepsBy table m (take q s_in_t) (take q s) (take n t) (reps_in notes)
  pub notes_long : length words ≤ row_width * room_in notes

-- the same of the lists of a run
abbrev pub WorkingOn : (words : List ℕ) → Lists → (index table notes : List ℕ) → Type 0
WorkingOn ws l index table notes = Working ws (counts_in l) l.used l.s l.states l.t l.rules l.c l.contexts index table notes

-- T1, T2, T3, and T4 but for its last clause; then the rest
abbrev pub prepared_fit : Tables → Bool
prepared_fit x = is_t1 x && roles_fit x

abbrev pub judged_fit : Tables → Bool
judged_fit x = (contexts_few x && (is_t5 x && is_t6 x)) && (is_t7 x && is_t8 x)

-- T7 by the marks of holes and the representatives
abbrev pub hand_fits : (words counts : List ℕ) → (u : ℕ) → (reps index : List ℕ) → (hand : ℕ) → (missing : Bool) → Bool
hand_fits ws ns u reps ix h b =
    eqb h 0 || (record_by ix u h && (eqb (answer_in ws h) (cond (accepts_by (store_of ws ns u) (answers_in u ws) reps h) 1 2) && not b))

-- T7 and T8 so
abbrev pub standing_fits : (words counts : List ℕ) → (u : ℕ) → (reps index : List ℕ) → Standing → (missing : Bool) → Bool
standing_fits ws ns u reps ix r b = hand_fits ws ns u reps ix r.hand.0 b && question_fits ws ix u r.hand.0 r.asked.0 r.accepted b

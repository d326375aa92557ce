-- The tables that a call is given, by their parts, and the parts of the soundness test in the order in which a call makes them.
use Rattle.std.specs.Prelude.{Bool, ◌&&◌, ◌||◌, not, cond, List, map, ℕ, ◌+◌, leb, eqb, take}
use Rattle.model.specs.Base.{all, among}
use Rattle.model.specs.Table.{Tables, tables}
use Rattle.model.specs.Sound.{is_t2, is_t3, contexts_fit, all_differ, count_same}
use Rattle.model.specs.Entry.{store_of, answers_in}
use Rattle.bank.specs.Rows.{answer_in}
use Rattle.table.specs.Answers.{answers_at, places_from}
use Rattle.sound_roles.specs.Marked.{record_by}

abbrev pub given : (words counts : List ℕ) → (used : ℕ) → (s : List ℕ) → (q : ℕ) → (t : List ℕ) → (n : ℕ) → (c : List ℕ) → (m hand asked : ℕ) → (accepted : Bool) → Tables
given ws ns u s q t n c m h o z = tables (store_of ws ns u) (answers_in u ws) (take q s) (take n t) (take m c) h o z

-- T2, T3, and T4 but for its last clause
abbrev pub roles_fit : Tables → Bool
roles_fit x = is_t2 x && (is_t3 x && contexts_fit x)

-- T4's last clause, T5 and T6 by the table of answers; whether an answer is missing is known
abbrev pub few_fit : (q n m : ℕ) → (missing : Bool) → Bool
few_fit q n m b = b || leb m (cond (eqb (q + n) 0) 1 (q + n))

abbrev pub table_fits : (table s_in_t : List ℕ) → (q n m : ℕ) → (missing : Bool) → Bool
table_fits tb ps q n m b =
    few_fit q n m b &&
    ((all_differ (map (answers_at tb m) (take q ps)) && all (λ (k : ℕ). among 2 (answers_at tb m k)) (places_from 0 n)) &&
    (b || all (λ (k : ℕ). eqb (count_same (answers_at tb m k) (map (answers_at tb m) (take q ps))) 1) (places_from 0 n)))

-- T8 by the marks of holes
abbrev pub question_fits : (words index : List ℕ) → (u hand asked accepted : ℕ) → (missing : Bool) → Bool
question_fits ws ix u h o z b =
    cond (eqb o 0) (eqb h 0 && not b) (record_by ix u o && (eqb (answer_in ws o) 0 && not (eqb z 1)))

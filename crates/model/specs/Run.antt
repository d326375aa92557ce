-- A whole run (§7): the list of calls on the lent tables, what is taken, said, asked and shown along it.
use Rattle.std.specs.Prelude.{Bool, true, false, ◌&&◌, ◌||◌, not, cond, List, [], ◌∷◌, ◌++◌, ℕ, zero, suc, ◌+◌, leb, eqb, length}
use Rattle.model.specs.Store.{Store}
use Rattle.model.specs.Terms.{Tree, tree_at, tree_of}
use Rattle.model.specs.Automata.{Automaton, accepts}
use Rattle.model.specs.Table.{Tables, size}
use Rattle.model.specs.Calls.{Call, offers, answers, accept, looks, emits, judges, is_asking, phase_of}
use Rattle.model.specs.Entry.{tables_of, call_number, call_words, call_lists, start_words, start_lists}
use Rattle.model.specs.declared.Lists.{Lists}

-- THE LENT TABLES as a call leaves them
pub record Lent : Type 0 where
  pub words : List ℕ
  pub lists : Lists

abbrev pub meant : Lent → Tables
meant l = tables_of l.words l.lists

abbrev pub started_run : (words counts : List ℕ) → Lists → Lent
started_run ws ns l = record { words = start_words ws ns; lists = start_lists ws ns l }

abbrev pub after_call : Lent → Call → Lent
after_call l k = record { words = call_words l.words l.lists k; lists = call_lists l.words l.lists k }

unfoldable pub after : Lent → List Call → Lent
after l [] = l
after l (k ∷ ks) = after (after_call l k) ks

-- TAKEN: not refused
abbrev pub is_taken : Lent → Call → Bool
is_taken l k = eqb (call_number l.words l.lists k) 0

unfoldable pub taken_only : Lent → List Call → List Call
taken_only l [] = []
taken_only l (k ∷ ks) = cond (is_taken l k) (k ∷ taken_only (after_call l k) ks) (taken_only (after_call l k) ks)

-- each offer taken takes one record
abbrev pub takes_one : Lent → Call → ℕ
takes_one l (offers xs m) = cond (is_taken l (offers xs m)) 1 0
takes_one l (answers m) = 0
takes_one l accept = 0
takes_one l looks = 0
takes_one l (emits r) = 0
takes_one l (judges xs) = 0

unfoldable pub taken : Lent → List Call → ℕ
taken l [] = 0
taken l (k ∷ ks) = takes_one l k + taken (after_call l k) ks

-- SHOWN: a proposal by each taken offer or answer that returns proposing, beside start's
abbrev pub proposes_now : Lent → Call → Bool
proposes_now l k = is_taken l k && eqb (phase_of (meant (after_call l k))) 0

abbrev pub is_shown : Lent → Call → Bool
is_shown l (offers xs m) = proposes_now l (offers xs m)
is_shown l (answers m) = proposes_now l (answers m)
is_shown l accept = false
is_shown l looks = false
is_shown l (emits r) = false
is_shown l (judges xs) = false

unfoldable pub shown_by : Lent → List Call → ℕ
shown_by l [] = 0
shown_by l (k ∷ ks) = cond (is_shown l k) 1 0 + shown_by (after_call l k) ks

abbrev pub shown : Lent → List Call → ℕ
shown l ks = 1 + shown_by l ks

-- GROWTH: from each proposal to the next, S and T together grow by at least the records taken since the first of the two.
-- `before` is their size at the last proposal, `since` the records taken after it
unfoldable pub grows_from : (before since : ℕ) → Lent → List Call → Bool
grows_from n m l [] = true
grows_from n m l (k ∷ ks) =
    cond (is_shown l k) (leb (n + (m + takes_one l k)) (size (meant (after_call l k))) && grows_from (size (meant (after_call l k))) 0 (after_call l k) ks)
    (grows_from n (m + takes_one l k) (after_call l k) ks)

abbrev pub grows : Lent → List Call → Bool
grows l ks = grows_from (size (meant l)) 0 l ks

-- SAID of records by taken calls: the record and the mark, 1 for yes
pub record Said : Type 0 where
  pub about : Tree
  pub mark : ℕ

abbrev pub said : Tree → (mark : ℕ) → Said
said t m = record { about = t; mark = m }

abbrev pub if_taken : {A : Type 0} → Lent → Call → List A → List A
if_taken l k xs = cond (is_taken l k) xs []

abbrev pub said_by : Lent → Call → List Said
said_by l (offers xs m) = if_taken l (offers xs m) (said (tree_of (meant l).store.counts xs) m ∷ [])
said_by l (answers m) = if_taken l (answers m) (said (tree_at (meant l).store (meant l).asked) m ∷ [])
said_by l accept = []
said_by l looks = []
said_by l (emits r) = []
said_by l (judges xs) = []

unfoldable pub said_in : Lent → List Call → List Said
said_in l [] = []
said_in l (k ∷ ks) = said_by l k ++ said_in (after_call l k) ks

-- OFFERED and ASKED: the record of a taken offer; the record that a taken offer or answer opens a question for
abbrev pub offered_by : Lent → Call → List Tree
offered_by l (offers xs m) = if_taken l (offers xs m) (tree_of (meant l).store.counts xs ∷ [])
offered_by l (answers m) = []
offered_by l accept = []
offered_by l looks = []
offered_by l (emits r) = []
offered_by l (judges xs) = []

abbrev pub question_of : Tables → List Tree
question_of x = cond (is_asking x) (tree_at x.store x.asked ∷ []) []

abbrev pub asked_by : Lent → Call → List Tree
asked_by l (offers xs m) = if_taken l (offers xs m) (question_of (meant (after_call l (offers xs m))))
asked_by l (answers m) = if_taken l (answers m) (question_of (meant (after_call l (answers m))))
asked_by l accept = []
asked_by l looks = []
asked_by l (emits r) = []
asked_by l (judges xs) = []

unfoldable pub heard_in : Lent → List Call → List Tree
heard_in l [] = []
heard_in l (k ∷ ks) = (offered_by l k ++ asked_by l k) ++ heard_in (after_call l k) ks

-- AGREEMENT: an automaton accepts each record offered or asked, by a taken call, exactly if the mark or answer is yes
abbrev pub agrees_with : Automaton → Said → Bool
agrees_with d e = eqb (cond (accepts d e.about) 1 0) e.mark

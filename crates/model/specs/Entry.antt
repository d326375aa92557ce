-- What each call of a host returns and leaves (§3), over the lent words and Lists: the definitions that the contracts name.
use Rattle.std.specs.Prelude.{◌≡◌, Bool, ◌&&◌, cond, List, [], ◌∷◌, ◌++◌, ℕ, zero, suc, ◌/◌, ◌%◌, leb, eqb, length, get_or, take, drop, replicate}
use Rattle.model.specs.Limits.{row_width, most_rows, most_symbols, most_states, most_rules, most_contexts, most_children}
use Rattle.model.specs.Base.{is_in, over}
use Rattle.model.specs.Store.{Node, Store}
use Rattle.model.specs.Automata.{verdict_on}
use Rattle.model.specs.Table.{Tables, tables, automaton_of}
use Rattle.model.specs.Listing.{emitted, Read, broken, loaded, read_list}
use Rattle.model.specs.Calls.{Call, emits, judges, Outcome, refuses, leaves, number_of, Look, look, sheet_of, call, start_fault, started}
use Rattle.model.specs.declared.Lists.{Lists}
use Rattle.model.specs.declared.Seen.{Seen}
use Rattle.model.specs.declared.Emitted.{Emitted}
use Rattle.model.specs.declared.Verdict.{Verdict}
use Rattle.model.specs.declared.Judged.{Judged}

-- WORDS (§2.1): six numbers a row; whole rows, 1 to 16,384
abbrev pub rows_lent : (words : List ℕ) → ℕ
rows_lent ws = length ws / row_width

abbrev pub size_fits : (words : List ℕ) → Bool
size_fits ws = eqb (length ws % row_width) 0 && is_in 1 most_rows (rows_lent ws)

unfoldable pub nodes_in : (count : ℕ) → (words : List ℕ) → List Node
nodes_in zero ws = []
nodes_in (suc n) ws = record { symbol = get_or ws 0 0; kids = take most_children (drop 2 ws) } ∷ nodes_in n (drop row_width ws)

unfoldable pub answers_in : (count : ℕ) → (words : List ℕ) → List ℕ
answers_in zero ws = []
answers_in (suc n) ws = get_or ws 1 0 ∷ answers_in n (drop row_width ws)

unfoldable pub row_words : List Node → (answers : List ℕ) → List ℕ
row_words [] vs = []
row_words (n ∷ ns) vs = (n.symbol ∷ get_or vs 0 0 ∷ n.kids) ++ row_words ns (drop 1 vs)

-- the used rows anew, over the words as they were: the rows beyond stay
abbrev pub words_of : (old : List ℕ) → Tables → List ℕ
words_of ws x = over (row_words x.store.nodes x.answers) ws

-- LISTS (§2.2): their arrays have these lengths
pub record Arrays (l : Lists) : Type 0 where
  pub counts : length l.counts ≡ most_symbols
  pub s : length l.s ≡ most_states
  pub t : length l.t ≡ most_rules
  pub c : length l.c ≡ most_contexts

-- as many members as the arrays hold, the flag 0 or 1
abbrev pub lists_fit : Lists → Bool
lists_fit l =
    leb l.letters most_symbols && leb l.states most_states && leb l.rules most_rules && leb l.contexts most_contexts &&
    leb l.accepted 1

-- what is lent fits: the one test of words and lists before the tables are looked at (30). Of the words it asks nothing yet
abbrev pub lent_fits : (words : List ℕ) → Lists → Bool
lent_fits ws l = lists_fit l

-- 18, then 30 for what does not fit; 0 for neither
abbrev pub lent_fault : (words : List ℕ) → Lists → ℕ
lent_fault ws l = cond (size_fits ws) (cond (lent_fits ws l) 0 30) 18

-- the tables that lent words and lists mean
abbrev pub store_of : (words counts : List ℕ) → (used : ℕ) → Store
store_of ws ns u = record { counts = ns; room = rows_lent ws; nodes = nodes_in u ws }

abbrev pub tables_of : (words : List ℕ) → Lists → Tables
tables_of ws l =
    tables (store_of ws (take l.letters l.counts) l.used) (answers_in l.used ws) (take l.states l.s) (take l.rules l.t)
    (take l.contexts l.c) l.hand l.asked (eqb l.accepted 1)

-- LISTS CHANGED: the fields, spelt once. What a call changes is said by this (lists_of, and run_lists' Changes).
-- All fields are given; one that no call changed would stay as in the lists at the front
abbrev pub changed : Lists → (letters : ℕ) → (counts : List ℕ) → (accepted used states : ℕ) → (s : List ℕ) → (rules : ℕ) → (t : List ℕ) → (contexts : ℕ) → (c : List ℕ) → (hand asked : ℕ) → Lists
changed l k ns z u q s n t m c h j =
    record {
      letters = k;
      counts = ns;
      accepted = z;
      used = u;
      states = q;
      s = s;
      rules = n;
      t = t;
      contexts = m;
      c = c;
      hand = h;
      asked = j;
    }

-- and the lists that mean tables: places past an end keep what they held
abbrev pub lists_of : (old : Lists) → Tables → Lists
lists_of l x =
    changed l (length x.store.counts) (over x.store.counts l.counts) (cond x.accepted 1 0) (length x.store.nodes)
    (length x.s) (over x.s l.s) (length x.t) (over x.t l.t) (length x.c) (over x.c l.c) x.hand x.asked

-- WHAT IS RETURNED
abbrev pub seen_of : Look → Seen
seen_of l =
    record {
      number = 0;
      phase = l.phase;
      row = l.row;
      states = l.states;
      rules = l.rules;
      contexts = l.contexts;
    }

abbrev pub refused : (number : ℕ) → Seen
refused n = record { number = n; phase = 0; row = 0; states = 0; rules = 0; contexts = 0 }

abbrev pub seen_by : Outcome → Seen
seen_by (refuses n) = refused n
seen_by (leaves x) = seen_of (look x)

abbrev pub words_by : (words : List ℕ) → Outcome → List ℕ
words_by ws (refuses n) = ws
words_by ws (leaves x) = words_of ws x

abbrev pub lists_by : Lists → Outcome → Lists
lists_by l (refuses n) = l
lists_by l (leaves x) = lists_of l x

-- START (§3.2): 18, 17; reads neither rows nor lists, zeroes the lists past their ends
abbrev pub start_number : (words counts : List ℕ) → ℕ
start_number ws ns = cond (size_fits ws) (start_fault ns) 18

abbrev pub start_by : (words counts : List ℕ) → Outcome
start_by ws ns = cond (eqb (start_number ws ns) 0) (leaves (started (rows_lent ws) ns)) (refuses (start_number ws ns))

abbrev pub zero_lists : Lists
zero_lists =
    record {
      letters = 0;
      counts = replicate most_symbols 0;
      accepted = 0;
      used = 0;
      states = 0;
      s = replicate most_states 0;
      rules = 0;
      t = replicate most_rules 0;
      contexts = 0;
      c = replicate most_contexts 0;
      hand = 0;
      asked = 0;
    }

abbrev pub zeroed_by : Lists → Outcome → Lists
zeroed_by l (refuses n) = l
zeroed_by l (leaves x) = lists_of zero_lists x

abbrev pub start_seen : (words counts : List ℕ) → Seen
start_seen ws ns = seen_by (start_by ws ns)

abbrev pub start_words : (words counts : List ℕ) → List ℕ
start_words ws ns = words_by ws (start_by ws ns)

abbrev pub start_lists : (words counts : List ℕ) → Lists → Lists
start_lists ws ns l = zeroed_by l (start_by ws ns)

-- OFFERS, ANSWERS, ACCEPTANCE, LOOKING (§3.3 to §3.6): 18, 30, then the call's own lines
abbrev pub call_by : (words : List ℕ) → Lists → Call → Outcome
call_by ws l k = cond (size_fits ws) (cond (lent_fits ws l) (call (tables_of ws l) k) (refuses 30)) (refuses 18)

abbrev pub call_number : (words : List ℕ) → Lists → Call → ℕ
call_number ws l k = number_of (call_by ws l k)

abbrev pub call_seen : (words : List ℕ) → Lists → Call → Seen
call_seen ws l k = seen_by (call_by ws l k)

abbrev pub call_words : (words : List ℕ) → Lists → Call → List ℕ
call_words ws l k = words_by ws (call_by ws l k)

abbrev pub call_lists : (words : List ℕ) → Lists → Call → Lists
call_lists ws l k = lists_by l (call_by ws l k)

-- EMITTING (§3.7): 18, 30, 31, 20; the bytes of the proposed automaton, and the rest of the output left
abbrev pub emitted_by : Outcome → Emitted
emitted_by (refuses n) = record { number = n; size = 0 }
emitted_by (leaves x) = record { number = 0; size = length (emitted (sheet_of x)) }

abbrev pub out_by : (out : List ℕ) → Outcome → List ℕ
out_by o (refuses n) = o
out_by o (leaves x) = over (emitted (sheet_of x)) o

abbrev pub emit_seen : (words : List ℕ) → Lists → (out : List ℕ) → Emitted
emit_seen ws l o = emitted_by (call_by ws l (emits (length o)))

abbrev pub emit_out : (words : List ℕ) → Lists → (out : List ℕ) → List ℕ
emit_out ws l o = out_by o (call_by ws l (emits (length o)))

-- THE VERDICT (§3.8): 18, 30, 31, 11 to 15; then the outcome's number, and the place of a missing rule
abbrev pub judged : (number outcome place : ℕ) → Judged
judged n k p = record { number = n; outcome = k; place = p }

abbrev pub judged_as : Verdict → Judged
judged_as Verdict.Accepted = judged 0 1 0
judged_as Verdict.NotFinal = judged 0 2 0
judged_as (Verdict.NoRule p) = judged 0 3 p

abbrev pub judged_by : (symbols : List ℕ) → Outcome → Judged
judged_by xs (refuses n) = judged n 0 0
judged_by xs (leaves x) = judged_as (verdict_on (automaton_of x) xs)

abbrev pub judge_seen : (words : List ℕ) → Lists → (symbols : List ℕ) → Judged
judge_seen ws l xs = judged_by xs (call_by ws l (judges xs))

-- LOADING (§3.9): 21 alone; the count of rules
abbrev pub loaded_by : Read → Emitted
loaded_by broken = record { number = 21; size = 0 }
loaded_by (loaded a) = record { number = 0; size = length a.automaton.rules }

abbrev pub load_seen : (bytes : List ℕ) → Emitted
load_seen bs = loaded_by (read_list bs)

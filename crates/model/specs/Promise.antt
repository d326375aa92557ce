-- What is promised of the definitions (§7.3), in the order of the demands. Each promise is a type; a term of it in proofs/Promises is its proof.
use Rattle.std.specs.Prelude.{◌≡◌, ◌≢◌, ◌⊎◌, Bool, true, false, ◌&&◌, cond, ℕ, ◌+◌, ◌≤◌, ◌<◌, length, get_or}
use mathlib.Core.List.{List, [], ◌∷◌, ◌++◌, Sublistᴰ}
use Rattle.std.proofs.Math.Option.{none, some}
use Rattle.model.specs.Limits.{most_states, most_rules, most_listed}
use Rattle.model.specs.Base.{among, all_among, In, Each, Below}
use Rattle.model.specs.Store.{Store, used, kids_at, is_record, Frame, filled_row, Spot, spot_of}
use Rattle.model.specs.Terms.{Tree, Within, Over, tree_at, tree_of, symbols_of, record_fault}
use Rattle.model.specs.Automata.{Automaton, is_deterministic, state_of, accepts, rule_at_root, accepts_row, accepts_list}
use Rattle.model.specs.Table.{Tables, size, answer_at, answer_in, row_of, rule_of, automaton_of}
use Rattle.model.specs.Sound.{alphabet_fits, is_sound, is_nearly_sound, contexts_few}
use Rattle.model.specs.Phase.{Sounds}
use Rattle.model.specs.Listing.{Sheet, emitted, loaded, read_list, finals_fit}
use Rattle.model.specs.Steps.{lost, search, none_unknown, unknown, seek, grow}
use Rattle.model.specs.Calls.{Call, offers, answers, accept, looks, emits, judges, refuses, number_of, is_asking, phase_of, sheet_of, fault_of, call}
use Rattle.model.specs.Entry.{size_fits, lists_fit, Arrays, start_number, start_seen, call_number, call_seen}
use Rattle.model.specs.Due.{RowsShort, StatesShort, TransitionsShort}
use Rattle.model.specs.Run.{Lent, meant, started_run, after_call, after, is_taken, taken_only, taken, shown, grows, Said, said, said_in, offered_by, asked_by, heard_in, agrees_with}
use Rattle.model.specs.declared.Lists.{Lists}
use Rattle.model.specs.declared.Seen.{Seen}

-- DEMAND 1: what a call leaves

-- a refused call changes nothing
abbrev pub RefusedUntouched : Type 0
RefusedUntouched = (l : Lent) (k : Call) → is_taken l k ≡ false → after_call l k ≡ l

-- looking, emitting and the verdict change nothing, in lists whose arrays have the lengths of §2.2
abbrev pub only_reads : Call → Bool
only_reads (offers xs m) = false
only_reads (answers m) = false
only_reads accept = false
only_reads looks = true
only_reads (emits r) = true
only_reads (judges xs) = true

abbrev pub ReadsUntouched : Type 0
ReadsUntouched = (l : Lent) (k : Call) → Arrays l.lists → only_reads k ≡ true → after_call l k ≡ l

-- unsound tables of fit size get 30, whatever is called
abbrev pub is_lent_sound : Lent → Bool
is_lent_sound l = size_fits l.words && lists_fit l.lists && is_sound (meant l)

abbrev pub UnsoundRefused : Type 0
UnsoundRefused =
    (l : Lent) (k : Call) → size_fits l.words ≡ true → is_lent_sound l ≡ false → call_number l.words l.lists k ≡ 30

-- T1 to T8 as a call tests them are T1 to T8 as facts, field by field
pub record SoundMeans : Type 0 where
  pub told : (x : Tables) → is_sound x ≡ true → Sounds x
  pub tested : (x : Tables) → Sounds x → is_sound x ≡ true

-- after every call of a fresh run the lent tables are sound
abbrev pub StaysSound : Type 0
StaysSound =
    (ws ns : List ℕ) (old : Lists) (ks : List Call) → start_number ws ns ≡ 0 → is_lent_sound (after (started_run ws ns old) ks) ≡ true

-- any call on any sound tables leaves T1 to T8, but perhaps one context more than T4 allows
pub record NearlySound (l : Lent) : Type 0 where
  pub fits : size_fits l.words && lists_fit l.lists ≡ true
  pub nearly : is_nearly_sound (meant l) ≡ true
  pub few : (contexts_few (meant l) ≡ true) ⊎ (length (meant l).c ≡ size (meant l) + 1)

abbrev pub StaysNearlySound : Type 0
StaysNearlySound = (l : Lent) (k : Call) → is_lent_sound l ≡ true → NearlySound (after_call l k)

-- the search in hand ends: on every sound table, and in every call on any tables
pub record SearchEnds : Type 0 where
  pub in_hand : (x : Tables) → is_sound x ≡ true → x.hand ≢ 0 → search x.store x.answers x.s x.t x.c x.hand ≢ lost
  pub in_calls : (x : Tables) (k : Call) → call x k ≢ refuses 255

-- on sound tables a call is refused by the first line that applies. Where none does it is taken, or something runs short, and then it does
pub record Due (x : Tables) (k : Call) : Type 0 where
  pub refused : fault_of x k ≢ 0 → call x k ≡ refuses (fault_of x k)
  pub taken_or_short : fault_of x k ≡ 0 → among (number_of (call x k)) (0 ∷ 34 ∷ 35 ∷ 36 ∷ []) ≡ true
  pub rows : call x k ≡ refuses 34 → RowsShort x k
  pub states : call x k ≡ refuses 35 → StatesShort x k
  pub transitions : call x k ≡ refuses 36 → TransitionsShort x k

abbrev pub TakenWhenDue : Type 0
TakenWhenDue = (x : Tables) (k : Call) → is_sound x ≡ true → Due x k

-- an offer is refused by the lines of §5.3 and by no other: where a record over the alphabet of at most 1,024 symbols is offered while proposing,
-- with a mark that is not the verdict on it and that no known answer about it contradicts, it is taken, or something runs short
abbrev pub OffersTaken : Type 0
OffersTaken =
    (x : Tables) (t : Tree) (m : ℕ) → is_sound x ≡ true → phase_of x ≡ 0 → Over x.store.counts t → length (symbols_of t) ≤ most_listed → m ≤ 1 →
    cond (accepts (automaton_of x) t) 1 0 ≢ m →
    ((i : ℕ) → i < used x.store → tree_at x.store i ≡ t → (answer_at x.answers i ≡ 0) ⊎ (answer_at x.answers i ≡ m + 1)) →
    among (number_of (call x (offers (symbols_of t) m))) (0 ∷ 34 ∷ 35 ∷ 36 ∷ []) ≡ true

-- the other calls are not refused by a line too many either: an answer of 0 or 1 while asking, acceptance while proposing, a look,
-- an emission with enough room while no question is open, a verdict on a record listed without a fault then
pub record OthersTaken : Type 0 where
  pub answer : (x : Tables) (m : ℕ) → is_sound x ≡ true → phase_of x ≡ 1 → m ≤ 1 → among (number_of (call x (answers m))) (0 ∷ 34 ∷ 35 ∷ 36 ∷ []) ≡ true
  pub acceptance : (x : Tables) → is_sound x ≡ true → phase_of x ≡ 0 → number_of (call x accept) ≡ 0
  pub look : (x : Tables) → is_sound x ≡ true → number_of (call x looks) ≡ 0
  pub emission : (x : Tables) (room : ℕ) → is_sound x ≡ true → x.asked ≡ 0 → length (emitted (sheet_of x)) ≤ room → number_of (call x (emits room)) ≡ 0
  pub verdict : (x : Tables) (xs : List ℕ) → is_sound x ≡ true → x.asked ≡ 0 → record_fault x.store.counts xs ≡ 0 → number_of (call x (judges xs)) ≡ 0

-- the counts told are the lengths of S, T and C, the phase and row told are the tables'
pub record Tells (seen : Seen) (x : Tables) : Type 0 where
  pub states : seen.states ≡ length x.s
  pub rules : seen.rules ≡ length x.t
  pub contexts : seen.contexts ≡ length x.c
  pub row : seen.row ≡ x.asked
  pub phase : seen.phase ≡ phase_of x

pub record CountsTold : Type 0 where
  pub calls : (l : Lent) (k : Call) → is_taken l k ≡ true → Tells (call_seen l.words l.lists k) (meant (after_call l k))
  pub start : (ws ns : List ℕ) (old : Lists) → start_number ws ns ≡ 0 → Tells (start_seen ws ns) (meant (started_run ws ns old))

-- what a taken call of a fresh run tells is what looking tells next
pub record LooksNext : Type 0 where
  pub calls : (ws ns : List ℕ) (old : Lists) (ks : List Call) (k : Call) → start_number ws ns ≡ 0 →
      let l = after (started_run ws ns old) ks in
      let next = after_call l k in
      is_taken l k ≡ true → call_seen next.words next.lists looks ≡ call_seen l.words l.lists k
  pub start : (ws ns : List ℕ) (old : Lists) → start_number ws ns ≡ 0 →
      let l = started_run ws ns old in
      call_seen l.words l.lists looks ≡ start_seen ws ns

-- DEMAND 2: the partial learner, in its order of choices

-- the spot is not in S, its children are, and so is all that stands to its left; its frames lead back to the record
pub record LeftmostInnermost (s : List ℕ) (x : Store) (record_row : ℕ) (p : Spot) : Type 0 where
  pub outside : among p.row s ≡ false
  pub children : all_among (kids_at x p.row) s ≡ true
  pub left : Each (λ (f : Frame). all_among f.before s ≡ true) p.around
  pub back : filled_row x p.around p.row ≡ record_row

-- all before it is known: T in order, and for its T record C in order
pub record FirstUnknown (x : Tables) (c i : ℕ) : Type 0 where
  pub records_before : List ℕ
  pub records_behind : List ℕ
  pub records : x.t ≡ records_before ++ (i ∷ records_behind)
  pub contexts_before : List ℕ
  pub contexts_behind : List ℕ
  pub contexts : x.c ≡ contexts_before ++ (c ∷ contexts_behind)
  pub known : (j d : ℕ) → In j records_before → In d x.c → answer_in x.store x.answers d j ≢ 0
  pub known_here : (d : ℕ) → In d contexts_before → answer_in x.store x.answers d i ≢ 0
  pub unknown_yet : answer_in x.store x.answers c i ≡ 0

-- new representatives come in T's order, each with a row that none before it has, until every row of T is there
pub record GrownInOrder (row_of : ℕ → List ℕ) (s records grown : List ℕ) : Type 0 where
  pub new : List ℕ
  pub behind : grown ≡ s ++ new
  pub in_order : Sublistᴰ new records
  pub own_row : (before : List ℕ) (i : ℕ) (after : List ℕ) → new ≡ before ++ (i ∷ after) → (j : ℕ) → In j (s ++ before) → row_of j ≢ row_of i
  pub covers : (i : ℕ) → In i records → (j : ℕ) × In j grown × (row_of i ≡ row_of j)

pub record Ordered : Type 0 where
  pub spot : (x : Tables) (h : ℕ) → is_sound x ≡ true → is_record x.store h ≡ true → among h x.s ≡ false →
      LeftmostInnermost x.s x.store h (spot_of x.s x.store h)
  pub question : (x : Tables) (c i : ℕ) → seek x.store x.answers x.c x.t ≡ unknown c i → FirstUnknown x c i
  pub none_open : (x : Tables) → seek x.store x.answers x.c x.t ≡ none_unknown →
      (i c : ℕ) → In i x.t → In c x.c → answer_in x.store x.answers c i ≢ 0
  pub growth : (row_of : ℕ → List ℕ) (s records grown : List ℕ) → grow row_of s records ≡ some grown → GrownInOrder row_of s records grown

-- no question is opened for a record that was offered, or asked, by a taken call of the run
abbrev pub AskedOnce : Type 0
AskedOnce =
    (ws ns : List ℕ) (old : Lists) (ks : List Call) (k : Call) (t : Tree) → start_number ws ns ≡ 0 → In t (asked_by (after (started_run ws ns old) ks) k) →
    In t (heard_in (started_run ws ns old) ks ++ offered_by (after (started_run ws ns old) ks) k) → ⊥

-- the answers are what taken calls said, and different rows are different records
pub record Holds (x : Tables) (es : List Said) : Type 0 where
  pub stored : (e : Said) → In e es → (i : ℕ) × (is_record x.store i ≡ true) × (tree_at x.store i ≡ e.about) × (answer_at x.answers i ≡ e.mark + 1)
  pub said_so : (i : ℕ) → i < used x.store → answer_at x.answers i ≢ 0 →
      (e : Said) × In e es × (tree_at x.store i ≡ e.about) × (answer_at x.answers i ≡ e.mark + 1)
  pub one_row : (i j : ℕ) → i < used x.store → j < used x.store → tree_at x.store i ≡ tree_at x.store j → i ≡ j

abbrev pub AnswersTaken : Type 0
AnswersTaken =
    (ws ns : List ℕ) (old : Lists) (ks : List Call) → start_number ws ns ≡ 0 →
    Holds (meant (after (started_run ws ns old) ks)) (said_in (started_run ws ns old) ks)

-- the verdict behind 32 and T7 is that of the automaton that is emitted
pub record OneAutomaton : Type 0 where
  pub rows : (x : Tables) (d : Automaton) (i : ℕ) → is_sound x ≡ true → i < used x.store → accepts_row d x.store i ≡ accepts d (tree_at x.store i)
  pub listed : (d : Automaton) (xs : List ℕ) → record_fault d.counts xs ≡ 0 → accepts_list d xs ≡ accepts d (tree_of d.counts xs)

-- emitted bytes, read again, give the sheet; and bytes that read as a sheet are those that it emits
pub record ListBack : Type 0 where
  pub read : (x : Tables) → is_sound x ≡ true → x.asked ≡ 0 → read_list (emitted (sheet_of x)) ≡ loaded (sheet_of x)
  pub written : (bs : List ℕ) (a : Sheet) → Below 256 bs → read_list bs ≡ loaded a → emitted a ≡ bs
  pub limits : (bs : List ℕ) (a : Sheet) → read_list bs ≡ loaded a →
      (alphabet_fits a.automaton.counts ≡ true) × (finals_fit a.automaton.finals ≡ true) × (length a.automaton.rules ≤ most_rules) × (is_deterministic a.automaton ≡ true)

-- each rule exists because a record that holds its transition got a yes: the rules are T's, in its order, and all that an accepted record uses
pub record VouchedFor (x : Tables) (es : List Said) : Type 0 where
  pub yes : (i : ℕ) → In i x.t → (u : Tree) × In (said u 1) es × Within (tree_at x.store i) u
  pub rules : (p : ℕ) → p < length x.t → get_or (automaton_of x).rules p (rule_of x.store (row_of x) x.s 0) ≡ rule_of x.store (row_of x) x.s (get_or x.t p 0)
  pub as_many : length (automaton_of x).rules ≡ length x.t
  pub occurrences : (u v : Tree) → accepts (automaton_of x) u ≡ true → Within v u → (p : ℕ) × (rule_at_root (automaton_of x) v ≡ some p) × (p < length x.t)

abbrev pub Vouched : Type 0
Vouched =
    (ws ns : List ℕ) (old : Lists) (ks : List Call) → start_number ws ns ≡ 0 →
    VouchedFor (meant (after (started_run ws ns old) ks)) (said_in (started_run ws ns old) ks)

-- DEMAND 3: one claim about the list of calls

-- what holds with no automaton at all, so also where staff contradict themselves
pub record Grown (l : Lent) (ks : List Call) : Type 0 where
  pub each : grows l ks ≡ true
  pub taken_few : taken l ks ≤ size (meant (after l ks))
  pub size_few : size (meant (after l ks)) ≤ most_states + most_rules
  pub shown_are : shown l ks ≡ taken l ks + cond (is_asking (meant (after l ks))) 0 1

abbrev pub GrowsEach : Type 0
GrowsEach = (ws ns : List ℕ) (old : Lists) (ks : List Call) → start_number ws ns ≡ 0 → Grown (started_run ws ns old) ks

-- the records of the p-th representative and of the p-th transition
abbrev pub rep_tree : Tables → (p : ℕ) → Tree
rep_tree x p = tree_at x.store (get_or x.s p 0)

abbrev pub rule_tree : Tables → (p : ℕ) → Tree
rule_tree x p = tree_at x.store (get_or x.t p 0)

-- what an automaton of n states and d rules that agrees with all that was taken shows of the run
pub record Learnt (d : Automaton) (l : Lent) (ks : List Call) : Type 0 where
  -- no two representatives lead it to the same state
  pub representative : let x = meant (after l ks) in
      (p : ℕ) → p < length x.s → state_of d (rep_tree x p) ≢ none
  pub apart : let x = meant (after l ks) in
      (p q : ℕ) → p < q → q < length x.s → state_of d (rep_tree x p) ≢ state_of d (rep_tree x q)
  -- no two transitions use the same rule of it
  pub transition : let x = meant (after l ks) in
      (p : ℕ) → p < length x.t → rule_at_root d (rule_tree x p) ≢ none
  pub own_rule : let x = meant (after l ks) in
      (p q : ℕ) → p < q → q < length x.t → rule_at_root d (rule_tree x p) ≢ rule_at_root d (rule_tree x q)
  -- S and T grow by the records taken, which are at most n + d, and so the proposals are few
  pub grows_each : grows l ks ≡ true
  pub taken_few : taken l ks ≤ length d.finals + length d.rules
  pub shown_are : shown l ks ≡ taken l ks + cond (is_asking (meant (after l ks))) 0 1
  pub shown_few : shown l ks ≤ length d.finals + length d.rules + 1

abbrev pub LearnsEach : Type 0
LearnsEach =
    (ws ns : List ℕ) (old : Lists) (ks : List Call) (d : Automaton) → start_number ws ns ≡ 0 → d.counts ≡ ns → is_deterministic d ≡ true →
    Each (λ (e : Said). agrees_with d e ≡ true) (said_in (started_run ws ns old) ks) → Learnt d (started_run ws ns old) ks

-- the tables after a list are those after its taken calls alone
abbrev pub TakenAlone : Type 0
TakenAlone = (l : Lent) (ks : List Call) → after l ks ≡ after l (taken_only l ks)

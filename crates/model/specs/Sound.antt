-- Sound tables (§2.3): T1 to T8, one definition each.
use Rattle.std.specs.Prelude.{Bool, true, false, ◌&&◌, ◌||◌, not, cond, List, [], ◌∷◌, map, ℕ, zero, suc, ◌+◌, ◌-◌, ltb, leb, eqb, length, get_or, take, drop, replicate}
use Rattle.model.specs.Limits.{most_symbols, most_children, most_states, most_rules, hole_symbol}
use Rattle.model.specs.Base.{is_in, all, same, among, all_among, no_repeats, count_true}
use Rattle.model.specs.Store.{Node, Store, used, node_at, symbol_at, count_of, kids_at, padded, is_node, find_from, has_hole, holes_in, is_record, is_context}
use Rattle.model.specs.Automata.{accepts_row}
use Rattle.model.specs.Table.{Tables, size, answer_at, answers_of, row_of, is_missing, automaton_of}

-- T1, the alphabet: within its limits
abbrev pub alphabet_fits : (counts : List ℕ) → Bool
alphabet_fits ns = is_in 1 most_symbols (length ns) && all (λ (n : ℕ). leb n most_children) ns

-- T1, row 0: the hole, unanswered
abbrev pub is_hole : Node → (answer : ℕ) → Bool
is_hole n v = eqb n.symbol hole_symbol && same n.kids (replicate most_children 0) && eqb v 0

-- T1, a row beyond it: a known symbol; four places, earlier rows as children and then 0; at most one hole, with one no answer; no twin before it
abbrev pub node_fits : Store → (row : ℕ) → Bool
node_fits x i =
    ltb (symbol_at x i) (length x.counts) && same (node_at x i).kids (padded (kids_at x i)) && all (λ (k : ℕ). ltb k i) (kids_at x i) &&
    leb (holes_in x (kids_at x i)) 1

abbrev pub answer_fits : Store → (answers : List ℕ) → (row : ℕ) → Bool
answer_fits x w i = leb (answer_at w i) 2 && (not (has_hole x i) || eqb (answer_at w i) 0)

abbrev pub has_twin : Store → (row : ℕ) → Bool
has_twin x i = not (eqb (find_from (symbol_at x i) (node_at x i).kids 1 (drop 1 (take i x.nodes))) 0)

unfoldable pub rows_fit : Store → (answers : List ℕ) → (row count : ℕ) → Bool
rows_fit x w i zero = true
rows_fit x w i (suc n) = node_fits x i && answer_fits x w i && not (has_twin x i) && rows_fit x w (suc i) n

abbrev pub is_t1 : Tables → Bool
is_t1 x =
    alphabet_fits x.store.counts && is_in 1 x.store.room (used x.store) && eqb (length x.answers) (used x.store) &&
    is_hole (node_at x.store 0) (answer_at x.answers 0) && rows_fit x.store x.answers 1 (used x.store - 1)

-- T2: transitions
abbrev pub is_t2 : Tables → Bool
is_t2 x =
    leb (length x.t) most_rules && no_repeats x.t && all (is_record x.store) x.t &&
    all (λ (i : ℕ). all_among (kids_at x.store i) x.s) x.t

-- T3: representatives
abbrev pub is_t3 : Tables → Bool
is_t3 x = leb (length x.s) most_states && no_repeats x.s && all_among x.s x.t

-- T4: contexts; and how many there may be when no answer is missing
abbrev pub contexts_fit : Tables → Bool
contexts_fit x =
    ltb 0 (length x.c) && eqb (get_or x.c 0 1) 0 && all (is_context x.store) x.c && no_repeats x.c && leb (length x.c) (1 + size x)

abbrev pub contexts_few : Tables → Bool
contexts_few x = is_missing x || leb (length x.c) (cond (eqb (size x) 0) 1 (size x))

abbrev pub is_t4 : Tables → Bool
is_t4 x = contexts_fit x && contexts_few x

-- T5: two representatives differ where both answers are known; each transition has a known yes
unfoldable pub differ_known : List ℕ → List ℕ → Bool
differ_known [] ys = false
differ_known (x ∷ xs) [] = false
differ_known (x ∷ xs) (y ∷ ys) = (ltb 0 x && ltb 0 y && not (eqb x y)) || differ_known xs ys

unfoldable pub all_differ : List (List ℕ) → Bool
all_differ [] = true
all_differ (v ∷ vs) = all (differ_known v) vs && all_differ vs

abbrev pub is_t5 : Tables → Bool
is_t5 x = all_differ (map (row_of x) x.s) && all (λ (i : ℕ). among 2 (row_of x i)) x.t

-- T6: with no answer missing, each transition has the row of exactly one representative
abbrev pub count_same : (row : List ℕ) → (rows : List (List ℕ)) → ℕ
count_same v vs = count_true (map (same v) vs)

abbrev pub is_t6 : Tables → Bool
is_t6 x = is_missing x || all (λ (i : ℕ). eqb (count_same (row_of x i) (map (row_of x) x.s)) 1) x.t

-- T7: the record in hand; its answer is known and differs from the verdict of the automaton
abbrev pub verdict_differs : Tables → (row : ℕ) → Bool
verdict_differs x i =
    eqb (answer_at x.answers i) (cond (accepts_row (automaton_of x) x.store i) 1 2)

abbrev pub is_t7 : Tables → Bool
is_t7 x = eqb x.hand 0 || (is_record x.store x.hand && verdict_differs x x.hand && not (is_missing x))

-- T8: the open question; with none open nothing is in hand and no answer is missing; an accepted run has none open
abbrev pub question_fits : Tables → Bool
question_fits x = is_record x.store x.asked && eqb (answer_at x.answers x.asked) 0 && not x.accepted

abbrev pub is_t8 : Tables → Bool
is_t8 x = cond (eqb x.asked 0) (eqb x.hand 0 && not (is_missing x)) (question_fits x)

abbrev pub is_sound : Tables → Bool
is_sound x = is_t1 x && is_t2 x && is_t3 x && is_t4 x && is_t5 x && is_t6 x && is_t7 x && is_t8 x

-- what a call may leave of sound tables that came from elsewhere (§2.4): all but how few contexts T4 allows
abbrev pub is_nearly_sound : Tables → Bool
is_nearly_sound x = is_t1 x && is_t2 x && is_t3 x && contexts_fit x && is_t5 x && is_t6 x && is_t7 x && is_t8 x

-- Partial deterministic bottom-up tree automata (§1.4) and their one run, on trees, on stored rows and on listed records.
use Rattle.std.specs.Prelude.{Bool, true, false, ◌&&◌, ◌||◌, not, cond, List, [], ◌∷◌, ℕ, zero, suc, ltb, eqb, length, get_or, drop}
use Rattle.std.proofs.Math.Option.{Option, none, some}
use Rattle.model.specs.Base.{all, same, top}
use Rattle.model.specs.Store.{Store, fold}
use Rattle.model.specs.Terms.{Tree, tree, eval_tree, eval_forest}
use Rattle.model.specs.declared.Verdict.{Verdict}

-- A RULE: symbol and child states give one state. Finals: one number a state, 1 if it is final
pub record Rule : Type 0 where
  pub symbol : ℕ
  pub states : List ℕ
  pub target : ℕ

pub record Automaton : Type 0 where
  pub counts : List ℕ
  pub finals : List ℕ
  pub rules : List Rule

abbrev pub has_left_side : (symbol : ℕ) → (states : List ℕ) → Rule → Bool
has_left_side a qs r = eqb r.symbol a && same r.states qs

-- the place and the target of the rule with a left side; none where it is missing
unfoldable pub rule_from : (from symbol : ℕ) → (states : List ℕ) → List Rule → Option ℕ
rule_from n a qs [] = none
rule_from n a qs (r ∷ rs) = cond (has_left_side a qs r) (some n) (rule_from (suc n) a qs rs)

unfoldable pub target_in : (symbol : ℕ) → (states : List ℕ) → List Rule → Option ℕ
target_in a qs [] = none
target_in a qs (r ∷ rs) = cond (has_left_side a qs r) (some r.target) (target_in a qs rs)

-- DETERMINISTIC: known symbols with their count of child states, known states, no two rules with equal left sides
unfoldable pub has_left : Rule → List Rule → Bool
has_left r [] = false
has_left r (q ∷ qs) = has_left_side r.symbol r.states q || has_left r qs

unfoldable pub lefts_differ : List Rule → Bool
lefts_differ [] = true
lefts_differ (r ∷ rs) = not (has_left r rs) && lefts_differ rs

abbrev pub rule_fits : (counts : List ℕ) → (states : ℕ) → Rule → Bool
rule_fits ns n r =
    ltb r.symbol (length ns) && eqb (length r.states) (get_or ns r.symbol 0) && all (λ (q : ℕ). ltb q n) r.states && ltb r.target n

abbrev pub is_deterministic : Automaton → Bool
is_deterministic d = lefts_differ d.rules && all (rule_fits d.counts (length d.finals)) d.rules

-- THE RUN: a symbol over the children's states, if they all have one
abbrev pub with_state : (state : ℕ) → Option (List ℕ) → Option (List ℕ)
with_state q none = none
with_state q (some qs) = some (q ∷ qs)

unfoldable pub states_of : List (Option ℕ) → Option (List ℕ)
states_of [] = some []
states_of (none ∷ qs) = none
states_of (some q ∷ qs) = with_state q (states_of qs)

abbrev pub led_by : List Rule → (symbol : ℕ) → Option (List ℕ) → Option ℕ
led_by rs a none = none
led_by rs a (some qs) = target_in a qs rs

abbrev pub leads : List Rule → (symbol : ℕ) → (children : List (Option ℕ)) → Option ℕ
leads rs a qs = led_by rs a (states_of qs)

abbrev pub is_final : (finals : List ℕ) → Option ℕ → Bool
is_final fs none = false
is_final fs (some q) = eqb (get_or fs q 0) 1

-- of a record: the state that the rules give its root
abbrev pub state_of : Automaton → Tree → Option ℕ
state_of d t = eval_tree (leads d.rules) t

abbrev pub accepts : Automaton → Tree → Bool
accepts d t = is_final d.finals (state_of d t)

-- the place among the rules of the one that a record uses at its root
abbrev pub used_by : List Rule → (symbol : ℕ) → Option (List ℕ) → Option ℕ
used_by rs a none = none
used_by rs a (some qs) = rule_from 0 a qs rs

abbrev pub rule_at_root : Automaton → Tree → Option ℕ
rule_at_root d (tree a ts) = used_by d.rules a (states_of (eval_forest (leads d.rules) ts))

-- of a stored row, without unfolding it
abbrev pub row_state : List Rule → Store → (row : ℕ) → Option ℕ
row_state rs x i = fold (λ (j a : ℕ) (qs : List (Option ℕ)). leads rs a qs) none x i

abbrev pub accepts_row : Automaton → Store → (row : ℕ) → Bool
accepts_row d x i = is_final d.finals (row_state d.rules x i)

-- of a listed record, by a stack of states; stops at the first symbol that finds no rule, and says its place
pub data RunEnd : Type 0 where
  gives : (state : ℕ) → RunEnd
  stuck : (place : ℕ) → RunEnd

abbrev pub go_on : (place : ℕ) → Option ℕ → (ℕ → RunEnd) → RunEnd
go_on p none next = stuck p
go_on p (some q) next = next q

unfoldable pub run_from : Automaton → (place : ℕ) → (symbols stack : List ℕ) → RunEnd
run_from d p [] [] = stuck p
run_from d p [] (q ∷ qs) = gives q
run_from d p (a ∷ xs) qs =
    go_on p (target_in a (top (get_or d.counts a 0) qs) d.rules) (λ (q : ℕ). run_from d (suc p) xs (q ∷ drop (get_or d.counts a 0) qs))

-- THE VERDICT on a listed record (§1.4): accepted; a state that is not final; or no rule, at a place
abbrev pub verdict_by : (finals : List ℕ) → RunEnd → Verdict
verdict_by fs (gives q) = cond (is_final fs (some q)) Verdict.Accepted Verdict.NotFinal
verdict_by fs (stuck p) = Verdict.NoRule p

abbrev pub verdict_on : Automaton → (symbols : List ℕ) → Verdict
verdict_on d xs = verdict_by d.finals (run_from d 0 xs [])

abbrev pub is_yes : Verdict → Bool
is_yes Verdict.Accepted = true
is_yes Verdict.NotFinal = false
is_yes (Verdict.NoRule p) = false

abbrev pub accepts_list : Automaton → (symbols : List ℕ) → Bool
accepts_list d xs = is_yes (verdict_on d xs)

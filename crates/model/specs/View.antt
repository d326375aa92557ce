-- What each call about a list returns (§6.3), from any bytes: a part of the automaton that they are, or 21 and zeros.
use Rattle.std.specs.Prelude.{cond, List, [], ◌∷◌, ℕ, ltb, length, get_or}
use Rattle.std.proofs.Math.Option.{Option, none, some}
use Rattle.model.specs.Automata.{Rule, is_final, target_in}
use Rattle.model.specs.Listing.{Read, broken, loaded, read_list}
use Rattle.model.specs.declared.ListSizes.{ListSizes}
use Rattle.model.specs.declared.Found.{Found}
use Rattle.model.specs.declared.ListRule.{ListRule}

-- SIZES
abbrev pub sizes_by : Read → ListSizes
sizes_by broken = record { number = 21; symbols = 0; states = 0; rules = 0 }
sizes_by (loaded d) = record { number = 0; symbols = length d.automaton.counts; states = length d.automaton.finals; rules = length d.automaton.rules }

abbrev pub sizes_seen : (bytes : List ℕ) → ListSizes
sizes_seen bs = sizes_by (read_list bs)

-- ONE VALUE, where it is there
abbrev pub present : (value : ℕ) → Found
present v = record { number = 0; found = 1; value = v }

abbrev pub absent : (number : ℕ) → Found
absent n = record { number = n; found = 0; value = 0 }

-- the child count of a symbol of the alphabet
abbrev pub children_by : (symbol : ℕ) → Read → Found
children_by a broken = absent 21
children_by a (loaded d) = cond (ltb a (length d.automaton.counts)) (present (get_or d.automaton.counts a 0)) (absent 0)

abbrev pub children_seen : (bytes : List ℕ) → (symbol : ℕ) → Found
children_seen bs a = children_by a (read_list bs)

-- 1 for a state that is final, 0 for another
abbrev pub final_by : (state : ℕ) → Read → Found
final_by q broken = absent 21
final_by q (loaded d) = cond (ltb q (length d.automaton.finals)) (present (cond (is_final d.automaton.finals (some q)) 1 0)) (absent 0)

abbrev pub final_seen : (bytes : List ℕ) → (state : ℕ) → Found
final_seen bs q = final_by q (read_list bs)

-- the target of the rule with a left side; a missing rule stays missing
abbrev pub target_found : Option ℕ → Found
target_found none = absent 0
target_found (some q) = present q

abbrev pub target_by : (symbol : ℕ) → (states : List ℕ) → Read → Found
target_by a qs broken = absent 21
target_by a qs (loaded d) = target_found (target_in a qs d.automaton.rules)

abbrev pub target_seen : (bytes : List ℕ) → (symbol : ℕ) → (states : List ℕ) → Found
target_seen bs a qs = target_by a qs (read_list bs)

-- A RULE by its number: its child states in four places, of which those past the last child hold 0
abbrev pub four_places : (states : List ℕ) → List ℕ
four_places qs = get_or qs 0 0 ∷ get_or qs 1 0 ∷ get_or qs 2 0 ∷ get_or qs 3 0 ∷ []

abbrev pub rule_found : Rule → ListRule
rule_found r =
    record {
      number = 0;
      found = 1;
      symbol = r.symbol;
      children = length r.states;
      states = four_places r.states;
      target = r.target;
    }

abbrev pub rule_absent : (number : ℕ) → ListRule
rule_absent n = record { number = n; found = 0; symbol = 0; children = 0; states = four_places []; target = 0 }

abbrev pub no_rule : Rule
no_rule = record { symbol = 0; states = []; target = 0 }

abbrev pub rule_by : (number : ℕ) → Read → ListRule
rule_by k broken = rule_absent 21
rule_by k (loaded d) = cond (ltb k (length d.automaton.rules)) (rule_found (get_or d.automaton.rules k no_rule)) (rule_absent 0)

abbrev pub rule_seen : (bytes : List ℕ) → (number : ℕ) → ListRule
rule_seen bs k = rule_by k (read_list bs)

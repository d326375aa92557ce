-- Rules given flat, six numbers a rule: symbol, four child states of which the places not needed hold anything, target.
use Rattle.std.specs.Prelude.{List, [], ◌∷◌, ℕ, zero, suc, ◌*◌, ◌/◌, ◌≤◌, min, length, get_or, take, drop}
use Rattle.model.specs.Limits.{most_symbols, most_children, most_states, most_rules}
use Rattle.model.specs.Automata.{Rule, Automaton}
use Rattle.model.specs.Listing.{Sheet}

abbrev pub rule_width : ℕ
rule_width = 6

-- as many child states as the symbol has children
abbrev pub flat_width : (counts : List ℕ) → (symbol : ℕ) → ℕ
flat_width ns a = min (get_or ns a 0) most_children

abbrev pub flat_rule : (counts flat : List ℕ) → Rule
flat_rule ns us = record { symbol = get_or us 0 0; states = take (flat_width ns (get_or us 0 0)) (drop 1 us); target = get_or us 5 0 }

unfoldable pub flat_rules_in : (count : ℕ) → (counts flat : List ℕ) → List Rule
flat_rules_in zero ns us = []
flat_rules_in (suc n) ns us = flat_rule ns us ∷ flat_rules_in n ns (drop rule_width us)

abbrev pub flat_rules : (counts flat : List ℕ) → List Rule
flat_rules ns us = flat_rules_in (length us / rule_width) ns us

abbrev pub flat_automaton : (counts finals flat : List ℕ) → Automaton
flat_automaton ns fs us = record { counts = ns; finals = fs; rules = flat_rules ns us }

abbrev pub flat_sheet : (counts finals flat : List ℕ) → Sheet
flat_sheet ns fs us = record { automaton = flat_automaton ns fs us }

-- within the limits of a list
pub record Short (counts finals flat : List ℕ) : Type 0 where
  pub symbols : length counts ≤ most_symbols
  pub states : length finals ≤ most_states
  pub rules : length flat ≤ rule_width * most_rules

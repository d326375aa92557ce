-- What the calls about a list return is the whole automaton that its bytes are (§6.3): every child state of every rule, each rule by its left side, and no other.
use Rattle.std.specs.Prelude.{◌≡◌, List, ℕ, ◌<◌, length, get_or, take}
use Rattle.model.specs.Automata.{Rule, Automaton}
use Rattle.model.specs.Listing.{Sheet, loaded, read_list}
use Rattle.model.specs.View.{present, children_seen, target_seen, no_rule, rule_seen}

abbrev pub rule_of : Automaton → (number : ℕ) → Rule
rule_of d k = get_or d.rules k no_rule

pub record Whole (bytes : List ℕ) (d : Automaton) : Type 0 where
  pub states : (k : ℕ) → k < length d.rules → take (rule_seen bytes k).children (rule_seen bytes k).states ≡ (rule_of d k).states
  pub children : (k : ℕ) → k < length d.rules → children_seen bytes (rule_seen bytes k).symbol ≡ present (rule_seen bytes k).children
  pub target : (k : ℕ) → k < length d.rules → target_seen bytes (rule_of d k).symbol (rule_of d k).states ≡ present (rule_of d k).target
  pub back : (symbol : ℕ) (states : List ℕ) (q : ℕ) → target_seen bytes symbol states ≡ present q →
      (k : ℕ) × (k < length d.rules) × (rule_of d k ≡ record { symbol = symbol; states = states; target = q })

abbrev pub SeenWhole : Type 0
SeenWhole = (bytes : List ℕ) (a : Sheet) → read_list bytes ≡ loaded a → Whole bytes a.automaton

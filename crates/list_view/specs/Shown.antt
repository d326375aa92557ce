-- What the view shows (§6.3): lookups of any bytes, block by block; of bytes that are no list it shows none.
use Rattle.std.specs.Prelude.{◌≡◌, cond, List, [], ℕ, eqb, length, get_or, take, Option, Some, None}
use Rattle.std.proofs.Math.Option.{some}
use Rattle.std.proofs.Math.Option as math
use Rattle.model.specs.Automata.{Rule, Automaton, is_final, target_in}
use Rattle.model.specs.Listing.{Sheet, body_at, behind, rule_in, Read, broken, loaded, read_list}
use Rattle.model.specs.Entry.{load_seen}
use Rattle.model.specs.View.{present, absent, target_found, four_places, no_rule}
use Rattle.model.specs.declared.State.{State}
use Rattle.model.specs.declared.Found.{Found}
use Rattle.list_view.specs.declared.Sizes.{Sizes}
use Rattle.list_view.specs.declared.ShownRule.{ShownRule}
use Rattle.list.specs.Blocks.{rules_in, after}
use Rattle.list.specs.Flat.{flat_width}

abbrev pub sizes_in : (bytes : List ℕ) → (rules : ℕ) → Sizes
sizes_in bs n = record { letters = length (body_at bs); states = length (body_at (behind bs)); rules = n }

-- the rule in the block of a number, behind those of kind 1 and 2
abbrev pub rule_at : (number : ℕ) → (bytes : List ℕ) → Rule
rule_at k bs = rule_in (body_at (after k (behind (behind bs))))

abbrev pub state : ℕ → State
state q = record { 0 = q }

abbrev pub rule_shown : Rule → ShownRule
rule_shown r =
    record {
      symbol = r.symbol;
      states = four_places r.states;
      target = state r.target;
    }

-- what is found, as a host gets it
abbrev pub found_as : Option ℕ → Found
found_as None = absent 0
found_as (Some v) = present v

abbrev pub target_of : Found → Option State
target_of f = cond (eqb f.found 1) (Some (state f.value)) None

abbrev pub as_target : math.Option ℕ → Option State
as_target o = target_of (target_found o)

abbrev pub target_at : (bytes : List ℕ) → (rules symbol : ℕ) → (states : List ℕ) → Option State
target_at bs n a qs = as_target (target_in a (take (flat_width (body_at bs) a) qs) (rules_in n (behind (behind bs))))

-- the bytes that are shown, and the sheet that they are
abbrev pub shown_by : (bytes : List ℕ) → Read → List ℕ
shown_by bs broken = []
shown_by bs (loaded a) = bs

abbrev pub shown_bytes : (bytes : List ℕ) → List ℕ
shown_bytes bs = shown_by bs (read_list bs)

abbrev pub sheet_by : Read → Sheet
sheet_by broken = record { automaton = record { counts = []; finals = []; rules = [] } }
sheet_by (loaded a) = a

abbrev pub sheet_in : (bytes : List ℕ) → Sheet
sheet_in bs = sheet_by (read_list bs)

abbrev pub automaton_in : (bytes : List ℕ) → Automaton
automaton_in bs = (sheet_in bs).automaton

-- WHAT A HOST SEES through a view of any bytes: the automaton that they are, field by field; past the last rule one with zeros
pub record Shows (bytes : List ℕ) : Type 0 where
  pub sizes : sizes_in (shown_bytes bytes) (load_seen bytes).size ≡
      record { letters = length (automaton_in bytes).counts; states = length (automaton_in bytes).finals; rules = length (automaton_in bytes).rules }
  pub count : (symbol : ℕ) → get_or (body_at (shown_bytes bytes)) symbol 0 ≡ get_or (automaton_in bytes).counts symbol 0
  pub final : (q : ℕ) → is_final (body_at (behind (shown_bytes bytes))) (some q) ≡ is_final (automaton_in bytes).finals (some q)
  pub rule : (k : ℕ) → rule_at k (shown_bytes bytes) ≡ get_or (automaton_in bytes).rules k no_rule
  pub target : (symbol : ℕ) (states : List ℕ) → target_at (shown_bytes bytes) (load_seen bytes).size symbol states ≡
      as_target (target_in symbol (take (get_or (automaton_in bytes).counts symbol 0) states) (automaton_in bytes).rules)

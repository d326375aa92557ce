-- Rule blocks in a row (§6.1), as the reader walks them.
use Rattle.std.specs.Prelude.{Bool, ◌&&◌, not, List, [], ◌∷◌, ℕ, zero, suc, ◌+◌, ◌*◌, min, ltb, length, get_or}
use Rattle.model.specs.Base.{all, among}
use Rattle.model.specs.Automata.{Rule, has_left}
use Rattle.model.specs.Listing.{size_at, body_at, behind, rule_in, rule_body_fits, Read, rules_from}

abbrev pub all_below : (bound : ℕ) → List ℕ → Bool
all_below n = all (λ (q : ℕ). ltb q n)

-- how many bytes the block at the head takes, all where it is cut
abbrev pub block_len : (bytes : List ℕ) → ℕ
block_len bs = min (6 + size_at bs) (length bs)

-- the rules in the first blocks, whatever the bytes
unfoldable pub rules_in : (count : ℕ) → (bytes : List ℕ) → List Rule
rules_in zero bs = []
rules_in (suc n) bs = rule_in (body_at bs) ∷ rules_in n (behind bs)

-- what stands behind the first blocks
unfoldable pub after : (count : ℕ) → (bytes : List ℕ) → List ℕ
after zero bs = bs
after (suc n) bs = after n (behind bs)

-- the rule at the head fits, and none of the rules before it has its left side
abbrev pub is_rule : (counts : List ℕ) → (states : ℕ) → (rules : List Rule) → (bytes : List ℕ) → Bool
is_rule ns n rs bs = rule_body_fits ns n (body_at bs) && not (has_left (rule_in (body_at bs)) rs)

-- a left side as one number: among rules that fit, no two have the same
abbrev pub key_of : Rule → ℕ
key_of r =
    r.symbol + 64 * get_or r.states 0 0 + 2048 * get_or r.states 1 0 + 65536 * get_or r.states 2 0 + 2097152 * get_or r.states 3 0

-- the same test over the numbers of the rules before
abbrev pub is_new : (counts : List ℕ) → (states : ℕ) → (keys bytes : List ℕ) → Bool
is_new ns n ks bs = rule_body_fits ns n (body_at bs) && not (among (key_of (rule_in (body_at bs))) ks)

-- the rules from the head of the bytes, and what is behind them
abbrev pub read_rules : (counts finals bytes : List ℕ) → Read
read_rules ns fs bs = rules_from (length bs + 1) ns fs [] bs

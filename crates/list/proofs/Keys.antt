-- Left sides as numbers: of rules that fit an alphabet of at most 64 symbols with at most 4 children and at most 32 states, two have the same number
-- just when they have the same left side. By the digits of the number, and since a symbol has one count of children.
use mathlib.Core.Path.{◌≡◌, refl, sym, ap, ◌∙◌}
use mathlib.Core.Bool.{Bool, true, false, ◌&&◌, not, true≢false}
use mathlib.Core.List.{List, [], ◌∷◌, ◌++◌, map}
use Prim.Native.Nat.{ℕ, zero, suc, ◌+◌, ◌*◌, ◌%◌, ◌≤◌, ◌<◌}
use native.Mathlib.Numerals.{add-one}
use native.Mathlib.Omega.{arith}
use lib.Dec.{leb, ltb, eqb}
use lib.ListN.{length, get_or, take, set, length-set}
use lib.Seq.{ext_get_or, take-suc-set}
use borrow.Author.Tests.{ltb-true, leb-true, eqb-true, eqb-false, eq-eqb}
use Rattle.model.specs.Limits.{most_symbols, most_children, most_states, most_rules}
use Rattle.model.specs.Base.{is_in, all, same, among}
use Rattle.model.specs.Automata.{Rule, has_left_side, has_left, rule_fits}
use Rattle.model.specs.Sound.{alphabet_fits}
use Rattle.model.specs.Listing.{body_at, rule_in, rule_body_fits}
use Rattle.model.proofs.Laws.Tests.{both_true, all_snoc, same_eq, same_of}
use Rattle.model.proofs.Laws.Listing.{rule_few}
use Rattle.list.specs.Blocks.{rules_in, after, key_of, is_rule, is_new}
use Rattle.list.proofs.Walk.{rules_in_next}

-- what a rule that fits has: a symbol, its count of states, none of them past the end
record Fitting (ns : List ℕ) (n : ℕ) (r : Rule) : Type 0 where
  symbol : r.symbol < length ns
  count : length r.states ≡ get_or ns r.symbol 0
  few : length r.states ≤ most_children
  state : (i : ℕ) → get_or r.states i 0 < 32

-- DIGITS: two numbers of which the lowest digits are below the base
low64 : (a b u v : ℕ) → a < 64 → b < 64 → a + 64 * u ≡ b + 64 * v → (a ≡ b) × (u ≡ v)
low64 a b u v k l e =
    let x : (a + 64 * u) % 64 ≡ a = omega arith in
    let y : (b + 64 * v) % 64 ≡ b = omega arith in
    let z : (a + 64 * u) % 64 ≡ (b + 64 * v) % 64 = ap (λ (n : ℕ). n % 64) e in
    (omega arith, omega arith)

low32 : (a b u v : ℕ) → a < 32 → b < 32 → a + 32 * u ≡ b + 32 * v → (a ≡ b) × (u ≡ v)
low32 a b u v k l e =
    let x : (a + 32 * u) % 32 ≡ a = omega arith in
    let y : (b + 32 * v) % 32 ≡ b = omega arith in
    let z : (a + 32 * u) % 32 ≡ (b + 32 * v) % 32 = ap (λ (n : ℕ). n % 32) e in
    (omega arith, omega arith)

-- lists of at most four that agree at four places
by_places : (xs ys : List ℕ) → length xs ≡ length ys → length xs ≤ 4 → get_or xs 0 0 ≡ get_or ys 0 0 → get_or xs 1 0 ≡ get_or ys 1 0 → get_or xs 2 0 ≡ get_or ys 2 0 →
    get_or xs 3 0 ≡ get_or ys 3 0 → xs ≡ ys
by_places xs ys e l a b c d = ext_get_or 0 xs ys e (λ i h. at i (omega arith))
  where
    at : (i : ℕ) → i < 4 → get_or xs i 0 ≡ get_or ys i 0
    at zero h = a
    at (suc zero) h = b
    at (suc (suc zero)) h = c
    at (suc (suc (suc zero))) h = d
    at (suc (suc (suc (suc i)))) h = absurd (omega arith)

known : (n : ℕ) → n ≤ most_states → (qs : List ℕ) → all (λ (k : ℕ). ltb k n) qs ≡ true → (i : ℕ) → get_or qs i 0 < 32
unfolding all
known n l [] a i = omega arith
known n l (q ∷ qs) a zero = let h = ltb-true q n (both_true (ltb q n) (all (λ (k : ℕ). ltb k n) qs) a).0 in omega arith
known n l (q ∷ qs) a (suc i) = known n l qs (both_true (ltb q n) (all (λ (k : ℕ). ltb k n) qs) a).1 i

module _ (ns : List ℕ) (n : ℕ) (alphabet : alphabet_fits ns ≡ true) (states : n ≤ most_states) where
  few_symbols : length ns ≤ most_symbols
  few_symbols =
      leb-true (length ns) most_symbols (both_true (leb 1 (length ns)) (leb (length ns) most_symbols)
      (both_true (is_in 1 most_symbols (length ns)) (all (λ (k : ℕ). leb k most_children) ns) alphabet).0).1

  fitting : (r : Rule) → rule_fits ns n r ≡ true → Fitting ns n r
  fitting r f =
      let p : Bool = ltb r.symbol (length ns) in
      let q : Bool = eqb (length r.states) (get_or ns r.symbol 0) in
      let s : Bool = all (λ (k : ℕ). ltb k n) r.states in
      let pqs = both_true (p && q) s (both_true (p && q && s) (ltb r.target n) f).0 in
      let pq = both_true p q pqs.0 in
      record {
        symbol = ltb-true r.symbol (length ns) pq.0;
        count = eqb-true (length r.states) (get_or ns r.symbol 0) pq.1;
        few = rule_few ns n r (both_true (is_in 1 most_symbols (length ns)) (all (λ (k : ℕ). leb k most_children) ns) alphabet).1 f;
        state = known n states r.states pqs.1;
      }

  -- two that fit
  module _ (r q : Rule) (fr : Fitting ns n r) (fq : Fitting ns n q) where
    key_left : key_of r ≡ key_of q → has_left_side r.symbol r.states q ≡ true
    key_left e =
        let l = few_symbols in
        let a = fr.symbol in
        let b = fq.symbol in
        let rs = r.states in
        let qs = q.states in
        let e₀ = low64 r.symbol q.symbol (get_or rs 0 0 + 32 * (get_or rs 1 0 + 32 * (get_or rs 2 0 + 32 * get_or rs 3 0))) (get_or qs 0 0 + 32 * (get_or qs 1 0 + 32 * (get_or qs 2 0 + 32 * get_or qs 3 0)))
        (omega arith) (omega arith) (omega arith) in
        let e₁ = low32 (get_or rs 0 0) (get_or qs 0 0) (get_or rs 1 0 + 32 * (get_or rs 2 0 + 32 * get_or rs 3 0)) (get_or qs 1 0 + 32 * (get_or qs 2 0 + 32 * get_or qs 3 0)) (fr.state 0) (fq.state 0) e₀.1 in
        let e₂ = low32 (get_or rs 1 0) (get_or qs 1 0) (get_or rs 2 0 + 32 * get_or rs 3 0) (get_or qs 2 0 + 32 * get_or qs 3 0) (fr.state 1) (fq.state 1) e₁.1 in
        let e₃ = low32 (get_or rs 2 0) (get_or qs 2 0) (get_or rs 3 0) (get_or qs 3 0) (fr.state 2) (fq.state 2) e₂.1 in
        let lengths : length q.states ≡ length r.states = fq.count ∙ ap (λ (s : ℕ). get_or ns s 0) (sym e₀.0) ∙ sym fr.count in
        let states : q.states ≡ r.states = by_places q.states r.states lengths fq.few (sym e₁.0) (sym e₂.0) (sym e₃.0) (sym e₃.1) in
        rw (eq-eqb q.symbol r.symbol (sym e₀.0), same_of q.states r.states states)

    left_key : has_left_side r.symbol r.states q ≡ true → key_of r ≡ key_of q
    left_key e =
        let t = both_true (eqb q.symbol r.symbol) (same q.states r.states) e in
        let symbols = eqb-true q.symbol r.symbol t.0 in
        let states = same_eq q.states r.states t.1 in
        cc

    key_side : eqb (key_of r) (key_of q) ≡ has_left_side r.symbol r.states q
    key_side = go (eqb (key_of r) (key_of q)) refl (has_left_side r.symbol r.states q) refl
      where
        go : (a : Bool) → eqb (key_of r) (key_of q) ≡ a → (b : Bool) → has_left_side r.symbol r.states q ≡ b → a ≡ b
        go true e true f = refl
        go true e false f = absurd (true≢false (sym (key_left (eqb-true (key_of r) (key_of q) e)) ∙ f))
        go false e true f = absurd (eqb-false (key_of r) (key_of q) e (left_key f))
        go false e false f = refl

  pub among_keys : (r : Rule) → rule_fits ns n r ≡ true → (rs : List Rule) → all (rule_fits ns n) rs ≡ true → among (key_of r) (map key_of rs) ≡ has_left r rs
  unfolding all among has_left
  among_keys r f [] fs = refl
  among_keys r f (q ∷ rs) fs =
      let t = both_true (rule_fits ns n q) (all (rule_fits ns n) rs) fs in
      let k = key_side r q (fitting r f) (fitting q t.0) in
      let i = among_keys r f rs t.1 in
      rw (k, i)

  -- the test over numbers is the test over rules
  pub new_rule : (rs : List Rule) (ks : List ℕ) (bs : List ℕ) → ks ≡ map key_of rs → all (rule_fits ns n) rs ≡ true → is_new ns n ks bs ≡ is_rule ns n rs bs
  new_rule rs ks bs e fs = ap (λ (us : List ℕ). is_new ns n us bs) e ∙ go (rule_body_fits ns n (body_at bs)) refl
    where
      go : (b : Bool) → rule_body_fits ns n (body_at bs) ≡ b → b && not (among (key_of (rule_in (body_at bs))) (map key_of rs)) ≡ b && not (has_left (rule_in (body_at bs)) rs)
      go false f = refl
      go true f =
          ap not (among_keys (rule_in (body_at bs)) (both_true (leb 2 (length (body_at bs))) (rule_fits ns n (rule_in (body_at bs))) f).1 rs fs)

-- the test by its answers: b is the body at the head, k its number, r whether the number is among the others
pub new_among : (ns : List ℕ) (n : ℕ) (ks at : List ℕ) (b : List ℕ) (k : ℕ) (r : Bool) → b ≡ body_at at → rule_body_fits ns n b ≡ true → k ≡ key_of (rule_in b) → r ≡ among k ks →
    not r ≡ is_new ns n ks at
new_among ns n ks at b k r is fits key found =
    let f : rule_body_fits ns n (body_at at) ≡ true = ap (rule_body_fits ns n) (sym is) ∙ fits in
    let e : k ≡ key_of (rule_in (body_at at)) = key ∙ ap (λ (us : List ℕ). key_of (rule_in us)) is in
    rw f (ap not (found ∙ ap (λ (j : ℕ). among j ks) e))

-- KEYS KEPT: those of the rules so far, each of which fits
pub record Keyed (counts : List ℕ) (states : ℕ) (bytes keys : List ℕ) (count : ℕ) : Type 0 where
  pub long : length keys ≡ most_rules
  pub are : take count keys ≡ map key_of (rules_in count bytes)
  pub fit : all (rule_fits counts states) (rules_in count bytes) ≡ true

pub keyed_first : (ns : List ℕ) (n : ℕ) (bs ks : List ℕ) → length ks ≡ most_rules → Keyed ns n bs ks 0
unfolding rules_in all
keyed_first ns n bs ks l = record { long = l; are = refl; fit = refl }

map_snoc : (rs : List Rule) (r : Rule) → map key_of (rs ++ (r ∷ [])) ≡ map key_of rs ++ (key_of r ∷ [])
map_snoc [] r = refl
map_snoc (q ∷ rs) r = ap (λ (ks : List ℕ). key_of q ∷ ks) (map_snoc rs r)

pub keyed_next : {ns : List ℕ} {n : ℕ} {bs ks : List ℕ} {k : ℕ} → Keyed ns n bs ks k → k < most_rules → (at : List ℕ) → at ≡ after k bs → is_new ns n (take k ks) at ≡ true →
    (v : ℕ) → v ≡ key_of (rule_in (body_at at)) → Keyed ns n bs (set ks k v) (k + 1)
keyed_next {ns} {n} {bs} {ks} {k} y l at place new v is =
    let r : Rule = rule_in (body_at at) in
    let f = (both_true (rule_body_fits ns n (body_at at)) (not (among (key_of r) (take k ks))) new).0 in
    let rules : rules_in k bs ++ (r ∷ []) ≡ rules_in (k + 1) bs = ap (λ (us : List ℕ). rules_in k bs ++ (rule_in (body_at us) ∷ [])) place ∙ sym (rules_in_next k bs) in
    record {
      long = length-set ks k v ∙ y.long;
      are = ap (λ (m : ℕ). take m (set ks k v)) (add-one k) ∙ take-suc-set ks k v (omega (arith, y.long)) ∙
          ap (λ (w : ℕ). take k ks ++ (w ∷ [])) is ∙ ap (λ (us : List ℕ). us ++ (key_of r ∷ [])) y.are ∙ sym (map_snoc (rules_in k bs) r) ∙ ap (map key_of) rules;
      fit = ap (all (rule_fits ns n)) (sym rules) ∙
          all_snoc (rule_fits ns n) (rules_in k bs) r y.fit (both_true (leb 2 (length (body_at at))) (rule_fits ns n r) f).1;
    }

-- The parts of a list that loads are those of the automaton that it is (§6.3): what each call found in the bytes is what its definition says.
-- By the two cases of what bytes read as, and by what the reader has tested of a rule.
use mathlib.Core.Path.{◌≡◌, refl, sym, ap, ◌∙◌}
use mathlib.Core.Bool.{Bool, cond}
use mathlib.Core.List.{List, []}
use Rattle.std.specs.Prelude.{Option, Some, None, option_copied}
use Rattle.std.specs.Slice.{IsItemAt}
use Rattle.std.proofs.Common.{Bor}
use Rattle.std.proofs.lemmas.Grind.{common_steps}
use Prim.Native.Nat.{ℕ, ◌<◌}
use native.Mathlib.Omega.{arith}
use lib.Dec.{ltb}
use lib.ListN.{length, get_or}
use borrow.Author.Tests.{lt-ltb}
use Rattle.model.specs.Limits.{most_states}
use Rattle.model.specs.Automata.{Rule, target_in}
use Rattle.model.specs.Listing.{body_at, behind, Read, broken, loaded, read_list}
use Rattle.model.specs.Entry.{loaded_by, load_seen}
use Rattle.model.specs.View.{present, absent, sizes_by, sizes_seen, children_by, children_seen, final_by, final_seen, target_found, target_by, target_seen, four_places, rule_found, rule_absent, no_rule, rule_by, rule_seen}
use Rattle.model.specs.declared.Emitted.{Emitted}
use Rattle.model.specs.declared.ListSizes.{ListSizes}
use Rattle.model.specs.declared.ListRule.{ListRule}
use Rattle.list.specs.Blocks.{rules_in}
use Rattle.list.specs.Loaded.{counted}
use Rattle.list_view.specs.declared.ShownRule.{ShownRule}
use Rattle.list_view.specs.Shown.{found_as, sheet_by, sheet_in, automaton_in, rule_at, rule_shown}
use Rattle.list_view.specs.Whole.{rule_of}
use Rattle.list_view.proofs.Views.{List-read, list_read, rule_at_law}
use Rattle.list_view.proofs.Fits.{states_counted, target_small}

-- WHAT THE BYTES ARE, by what load says
pub no_list : (bs : List ℕ) → counted None ≡ load_seen bs → read_list bs ≡ broken
no_list bs l = go (read_list bs) l
  where
    go : (r : Read) → counted None ≡ loaded_by r → r ≡ broken
    go broken l = refl
    go (loaded a) l = let e = ap (λ (e : Emitted). e.number) l in absurd (omega arith)

is_list : (bs : List ℕ) (n : ℕ) → counted (Some n) ≡ load_seen bs → (read_list bs ≡ loaded (sheet_in bs)) × (n ≡ length (automaton_in bs).rules)
is_list bs n l = go (read_list bs) l
  where
    go : (r : Read) → counted (Some n) ≡ loaded_by r → (r ≡ loaded (sheet_by r)) × (n ≡ length (sheet_by r).automaton.rules)
    go broken l = let e = ap (λ (e : Emitted). e.number) l in absurd (omega arith)
    go (loaded a) l = (refl, ap (λ (e : Emitted). e.size) l)

-- a byte at a place, or none
pub found_item : (us : List ℕ) (a : ℕ) (r : Option (Bor ℕ)) → IsItemAt us a r → found_as (option_copied r) ≡ cond (ltb a (length us)) (present (get_or us a 0)) (absent 0)
found_item us a r h = grind (arith, common_steps)

-- n is load's count of rules
module _ (bs : List ℕ) (n : ℕ) (l : counted (Some n) ≡ load_seen bs) where
  list : read_list bs ≡ loaded (sheet_in bs)
  list = (is_list bs n l).0

  pub size_is : n ≡ length (automaton_in bs).rules
  size_is = (is_list bs n l).1

  read : List-read bs (automaton_in bs)
  read = list_read bs (sheet_in bs) list

  -- SIZES
  pub sizes_read : ◌≡◌ {A = ListSizes} (record { number = 0; symbols = length (body_at bs); states = length (body_at (behind bs)); rules = n }) (sizes_seen bs)
  sizes_read =
      let a = automaton_in bs in
      let s : length (body_at bs) ≡ length a.counts = ap length read.counts in
      let t : length (body_at (behind bs)) ≡ length a.finals = ap length read.finals in
      let r : n ≡ length a.rules = size_is in
      let e : ◌≡◌ {A = ListSizes} (record { number = 0; symbols = length (body_at bs); states = length (body_at (behind bs)); rules = n }) (sizes_by (loaded (sheet_in bs))) =
      λ i. record { number = 0; symbols = s i; states = t i; rules = r i } in
      e ∙ ap sizes_by (sym list)

  -- ONE VALUE
  pub children_read : (us : List ℕ) (a : ℕ) → us ≡ body_at bs → children_by a (loaded (record { automaton = record { counts = us; finals = []; rules = [] } })) ≡ children_seen bs a
  children_read us a e =
      ap (λ (ns : List ℕ). children_by a (loaded (record { automaton = record { counts = ns; finals = []; rules = [] } }))) (e ∙ read.counts) ∙ ap (children_by a) (sym list)

  pub final_read : (us : List ℕ) (q : ℕ) → us ≡ body_at (behind bs) → final_by q (loaded (record { automaton = record { counts = []; finals = us; rules = [] } })) ≡ final_seen bs q
  final_read us q e =
      ap (λ (fs : List ℕ). final_by q (loaded (record { automaton = record { counts = []; finals = fs; rules = [] } }))) (e ∙ read.finals) ∙ ap (final_by q) (sym list)

  pub target_read : (us : List ℕ) (a : ℕ) (qs : List ℕ) → us ≡ behind (behind bs) →
      target_found (target_in a qs (rules_in n us)) ≡ target_seen bs a qs
  target_read us a qs e =
      ap (λ (k : ℕ). target_found (target_in a qs (rules_in k us))) size_is ∙
      ap (λ (vs : List ℕ). target_found (target_in a qs (rules_in (length (automaton_in bs).rules) vs))) e ∙
      ap (λ (rs : List Rule). target_found (target_in a qs rs)) read.rules ∙ ap (target_by a qs) (sym list)

  -- A RULE: the one in the block of its number
  shown_is : (k : ℕ) → rule_at k bs ≡ rule_of (automaton_in bs) k
  shown_is k =
      rule_at_law (length (automaton_in bs).rules) (behind (behind bs)) read.ends k ∙ ap (λ (rs : List Rule). get_or rs k no_rule) read.rules

  has : (k : ℕ) → k < n → k < length (automaton_in bs).rules
  has k m = let s = size_is in omega arith

  pub small_target : (k : ℕ) → k < n → (rule_at k bs).target < most_states
  small_target k m =
      let t = target_small bs (sheet_in bs) list k (has k m) in
      let s : (rule_at k bs).target ≡ (rule_of (automaton_in bs) k).target = ap (λ (r : Rule). r.target) (shown_is k) in
      omega arith

  children_at : (k : ℕ) → k < n → get_or (body_at bs) (rule_at k bs).symbol 0 ≡ length (rule_at k bs).states
  children_at k m =
      ap (λ (ns : List ℕ). get_or ns (rule_at k bs).symbol 0) read.counts ∙ ap (λ (r : Rule). get_or (automaton_in bs).counts r.symbol 0) (shown_is k) ∙
      sym (states_counted bs (sheet_in bs) list k (has k m)) ∙ sym (ap (λ (r : Rule). length r.states) (shown_is k))

  pub rule_read : (k : ℕ) (s : ShownRule) (m : ℕ) → k < n → s ≡ rule_shown (rule_at k bs) → m ≡ get_or (body_at bs) s.symbol 0 →
      ◌≡◌ {A = ListRule} (record { number = 0; found = 1; symbol = s.symbol; children = m; states = s.states; target = s.target.0 }) (rule_seen bs k)
  rule_read k s m h e f =
      let r = rule_at k bs in
      let d = automaton_in bs in
      let c : m ≡ length r.states = f ∙ ap (λ (x : ShownRule). get_or (body_at bs) x.symbol 0) e ∙ children_at k h in
      ap (λ (x : ShownRule). record { number = 0; found = 1; symbol = x.symbol; children = m; states = x.states; target = x.target.0 }) e ∙
      ap (λ (c : ℕ). record { number = 0; found = 1; symbol = r.symbol; children = c; states = four_places r.states; target = r.target }) c ∙
      ap rule_found (shown_is k) ∙ sym (ap (λ (b : Bool). cond b (rule_found (rule_of d k)) (rule_absent 0)) (lt-ltb k (length d.rules) (has k h))) ∙
      ap (rule_by k) (sym list)

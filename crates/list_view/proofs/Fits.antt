-- A rule of a list fits, as the reader has tested (§6.2): its symbol is of the alphabet and has as many children as the rule has child states, at most four,
-- and its target is one of the states, at most 32. By the parts of that test.
use mathlib.Core.Path.{◌≡◌}
use mathlib.Core.Bool.{Bool, true, ◌&&◌}
use mathlib.Core.List.{List}
use Prim.Native.Nat.{ℕ, ◌≤◌, ◌<◌}
use native.Mathlib.Omega.{arith}
use lib.Dec.{ltb, leb, eqb}
use lib.ListN.{length, get_or}
use borrow.Author.Tests.{leb-true, ltb-true, eqb-true}
use Rattle.model.specs.Limits.{most_symbols, most_children, most_states}
use Rattle.model.specs.Base.{is_in, all}
use Rattle.model.specs.Automata.{Rule, Automaton, lefts_differ, rule_fits}
use Rattle.model.specs.Listing.{Sheet, loaded, read_list}
use Rattle.model.specs.View.{no_rule}
use Rattle.model.proofs.Laws.Tests.{both_true, all_get_d}
use Rattle.model.proofs.Laws.ReflectRows.{counts_at}
use Rattle.model.proofs.Laws.ListRead.{list_limits}
use Rattle.list_view.specs.Whole.{rule_of}

module _ (bs : List ℕ) (a : Sheet) (e : read_list bs ≡ loaded a) where
  abbrev d : Automaton
  d = a.automaton

  pub few_symbols : length d.counts ≤ most_symbols
  few_symbols =
      let n = length d.counts in
      let f = (both_true (is_in 1 most_symbols n) (all (λ (k : ℕ). leb k most_children) d.counts) (list_limits bs a e).0).0 in
      leb-true n most_symbols (both_true (leb 1 n) (leb n most_symbols) f).1

  pub few_states : length d.finals ≤ most_states
  few_states =
      let n = length d.finals in
      leb-true n most_states (both_true (leb n most_states) (all (λ (z : ℕ). leb z 1) d.finals) (list_limits bs a e).1).0

  pub lefts_differ_law : lefts_differ d.rules ≡ true
  lefts_differ_law = (both_true (lefts_differ d.rules) (all (rule_fits d.counts (length d.finals)) d.rules) (list_limits bs a e).3).0

  module _ (k : ℕ) (l : k < length d.rules) where
    abbrev r : Rule
    r = rule_of d k

    abbrev symbol : Bool
    symbol = ltb r.symbol (length d.counts)

    abbrev count : Bool
    count = eqb (length r.states) (get_or d.counts r.symbol 0)

    abbrev states : Bool
    states = all (λ (q : ℕ). ltb q (length d.finals)) r.states

    fits : (symbol && count && states ≡ true) × (ltb r.target (length d.finals) ≡ true)
    fits =
        let f = (both_true (lefts_differ d.rules) (all (rule_fits d.counts (length d.finals)) d.rules) (list_limits bs a e).3).1 in
        both_true (symbol && count && states) (ltb r.target (length d.finals)) (all_get_d (rule_fits d.counts (length d.finals)) d.rules k no_rule f l)

    pub symbol_known : r.symbol < length d.counts
    symbol_known = ltb-true r.symbol (length d.counts) (both_true symbol count (both_true (symbol && count) states fits.0).0).0

    pub states_counted : length r.states ≡ get_or d.counts r.symbol 0
    states_counted = eqb-true (length r.states) (get_or d.counts r.symbol 0) (both_true symbol count (both_true (symbol && count) states fits.0).0).1

    pub few_children : length r.states ≤ most_children
    few_children =
        let c = (both_true (is_in 1 most_symbols (length d.counts)) (all (λ (n : ℕ). leb n most_children) d.counts) (list_limits bs a e).0).1 in
        let m = counts_at d.counts c r.symbol in
        let s = states_counted in
        omega arith

    pub target_small : r.target < most_states
    target_small =
        let t = ltb-true r.target (length d.finals) fits.1 in
        let s = few_states in
        omega arith

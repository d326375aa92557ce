-- Lists that mean tables: the core of tables is orderly, and lists made in two steps are made in one.
-- The places past an end keep what they held, and ends only move outwards.
use mathlib.Core.Path.{◌≡◌, sym, ap, ◌∙◌}
use mathlib.Core.List.{List, ◌++◌}
use Prim.Native.Nat.{ℕ, ◌+◌, ◌-◌, ◌≤◌}
use native.Mathlib.Omega.{arith}
use lib.ListN.{length, drop}
use lib.Seq.{drop-drop, drop-append-add}
use Rattle.model.specs.Base.{over}
use Rattle.model.specs.Table.{Tables}
use Rattle.model.specs.TableFacts.{Core}
use Rattle.model.specs.Entry.{lists_of}
use Rattle.model.specs.declared.Lists.{Lists}
use Rattle.run_lists.specs.Run.{Orderly}

pub core_orderly : (x : Tables) → Core x → Orderly x
core_orderly x c = record { good = c.good; bound = c.bound; row = c.held.row; context = c.held.context; among = c.held.among }

pub over_over : (xs ys zs : List ℕ) → length ys ≤ length xs → over xs (over ys zs) ≡ over xs zs
over_over xs ys zs l =
    let n : ℕ = length xs - length ys in
    let e : length xs ≡ length ys + n = omega arith in
    ap (λ (ds : List ℕ). xs ++ ds)
    (ap (λ (k : ℕ). drop k (ys ++ drop (length ys) zs)) e ∙ drop-append-add ys (drop (length ys) zs) n ∙ drop-drop n (length ys) zs ∙ ap (λ (k : ℕ). drop k zs) (sym e))

pub lists_twice : (l : Lists) (x y : Tables) → length x.store.counts ≤ length y.store.counts → length x.s ≤ length y.s → length x.t ≤ length y.t → length x.c ≤ length y.c →
    lists_of (lists_of l x) y ≡ lists_of l y
lists_twice l x y a b c d =
    let p = over_over y.store.counts x.store.counts l.counts a in
    let q = over_over y.s x.s l.s b in
    let r = over_over y.t x.t l.t c in
    let s = over_over y.c x.c l.c d in
    λ i. record {
      letters = length y.store.counts;
      counts = p i;
      accepted = (lists_of l y).accepted;
      used = length y.store.nodes;
      states = length y.s;
      s = q i;
      rules = length y.t;
      t = r i;
      contexts = length y.c;
      c = s i;
      hand = y.hand;
      asked = y.asked;
    }

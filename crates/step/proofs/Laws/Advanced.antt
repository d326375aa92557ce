-- How a step at a missing transition ends, over the lent words and lists: one more transition, and the record put down.
-- The lists left keep what stands past their ends, and what a record is put down with does not look at the record in hand.
use mathlib.Core.Path.{◌≡◌, refl, sym, ap, subst, ◌∙◌}
use mathlib.Core.Logic.{◌⊎◌, inl, inr}
use mathlib.Core.Bool.{Bool, false, cond}
use mathlib.Core.List.{List, [], ◌∷◌, ◌++◌}
use mathlib.Core.Option.{Option, none, some}
use Prim.Native.Nat.{ℕ, suc, ◌+◌, ◌≤◌, ◌<◌}
use native.Mathlib.Omega.{arith}
use borrow.Author.Tests.{le-leb, lt-leb}
use lib.ListN.{length, take, set, length-set}
use lib.Seq.{length-take-le, take-suc-set, drop-set-lt}
use Rattle.model.specs.Limits.{most_rules, most_contexts}
use Rattle.model.specs.Base.{In, over}
use Rattle.model.specs.Store.{Store, Frame, Spot, Built, full, built, frames_of, fill}
use Rattle.model.specs.Table.{Tables, tables, row_of}
use Rattle.model.specs.Steps.{Shortage, of_transitions, Ended, short, asks, proposes, Sought, none_unknown, unknown, at_new_transition}
use Rattle.model.specs.Steps.{seek, grow, opened, proposed, settled_by, settled, put_tables, put_by, put_down, searched}
use Rattle.model.specs.Facts.{IsRecord, Fits}
use Rattle.model.specs.Entry.{tables_of, lists_of}
use Rattle.model.specs.declared.Lists.{Lists}
use Rattle.model.proofs.Laws.Lists.{in_left, in_snoc}
use Rattle.model.proofs.Laws.Lent.{lists_fit_facts, lists_fit_true}
use Rattle.bank.specs.Bank.{Bank, path_of}
use Rattle.run_lists.specs.Members.{counts_in}
use Rattle.run_lists.specs.Changes.{with_rule}
use Rattle.run_lists.specs.Run.{Run}
use Rattle.std.specs.Prelude.{Result, Ok, Err}
use Rattle.model.specs.declared.refusal.Refusal.{Refusal}
use Rattle.model.specs.declared.refusal.Refusal.TheVariants.{RulesShort}
use Rattle.model.specs.Refusals.{refused_by}
use Rattle.step_settle.specs.Stepped.{EndedAs}
use Rattle.step_settle.proofs.Laws.Ends.{Ends, ends_by}

-- WHAT A RECORD IS PUT DOWN WITH: the tables left have the same transitions
data WithRules (t : List ℕ) : Ended → Type 0 where
  with_short : {k : Shortage} → WithRules t (short k)
  with_asks : {y : Tables} → y.t ≡ t → WithRules t (asks y)
  with_proposes : {y : Tables} → y.t ≡ t → WithRules t (proposes y)

settled_rules : (x : Tables) → WithRules x.t (settled x)
settled_rules x = go (seek x.store x.answers x.c x.t)
  where
    filled : (b : Built) → WithRules x.t (opened x b)
    filled full = with_short
    filled (built j y) = with_asks refl

    grown : (o : Option (List ℕ)) → WithRules x.t (proposed x o)
    grown none = with_short
    grown (some s) = with_proposes refl

    go : (r : Sought) → WithRules x.t (settled_by x r)
    go none_unknown = grown (grow (row_of x) x.s x.t)
    go (unknown c i) = filled (fill x.store (frames_of x.store c) i)

put_rules : (x : Tables) (b : Built) → WithRules x.t (put_by x b)
put_rules x full = with_short
put_rules x (built c y) = settled_rules (put_tables x x.t c y)

-- and nothing of it is read off the record in hand, the question or the acceptance
put_same : (x : Store) (w s t cs : List ℕ) (h o k q : ℕ) (a z : Bool) (b : Built) → put_by (tables x w s t cs h o a) b ≡ put_by (tables x w s t cs k q z) b
put_same x w s t cs h o k q a z full = refl
put_same x w s t cs h o k q a z (built c y) = refl

-- lists that are left with more than the transitions of the old ones
lists_ruled : (l : Lists) (i : ℕ) (y : Tables) → l.rules < length y.t → lists_of (with_rule l i) y ≡ lists_of l y
lists_ruled l i y n =
    let e = drop-set-lt (length y.t) l.t l.rules i n in
    λ j. record {
      letters = length y.store.counts;
      counts = over y.store.counts l.counts;
      accepted = cond y.accepted 1 0;
      used = length y.store.nodes;
      states = length y.s;
      s = over y.s l.s;
      rules = length y.t;
      t = y.t ++ e j;
      contexts = length y.c;
      c = over y.c l.c;
      hand = y.hand;
      asked = y.asked;
    }

ended_ruled : (ws : List ℕ) (l : Lists) (i : ℕ) (r : Result Lists Refusal) (us : List ℕ) (t : List ℕ) → l.rules < length t → (e : Ended) → WithRules t e → EndedAs ws (with_rule l i) e r us → EndedAs ws l e r us
ended_ruled ws l i r us t n (short k) w d = d
ended_ruled ws l i r us t n (asks y) (with_asks e) d = (d.0 ∙ ap Ok (lists_ruled l i y (omega (arith, ap length e))), d.1)
ended_ruled ws l i r us t n (proposes y) (with_proposes e) d = (d.0 ∙ ap Ok (lists_ruled l i y (omega (arith, ap length e))), d.1)

-- WHAT PUTTING DOWN NEEDS, along a way down from a record
pub record Putting (ws : List ℕ) (l : Lists) (ix ds : List ℕ) (h : ℕ) : Type 0 where
  pub bank : Bank ws (counts_in l) l.used ix
  pub run : Run ws l
  pub room : l.contexts < most_contexts
  pub record_row : IsRecord (tables_of ws l).store h
  pub fits : Fits (tables_of ws l).store (path_of ds (tables_of ws l).store h)

-- ONE MORE TRANSITION
module _ {ws : List ℕ} {l : Lists} {ix ds : List ℕ} {h : ℕ} (p : Putting ws l ix ds h) (long : length l.t ≡ most_rules) (room : l.rules < most_rules) (i : ℕ) where
  appended : take (l.rules + 1) (set l.t l.rules i) ≡ take l.rules l.t ++ (i ∷ [])
  appended =
      let n : l.rules + 1 ≡ suc l.rules = omega arith in
      ap (λ (k : ℕ). take k (set l.t l.rules i)) n ∙ take-suc-set l.t l.rules i (omega arith)

  ruled : IsRecord (tables_of ws l).store i → Putting ws (with_rule l i) ix ds h
  ruled z =
      let o = p.run.orderly in
      let f = lists_fit_facts l p.run.fit in
      record {
        bank = p.bank;
        run = record {
          fit = lists_fit_true (with_rule l i) (record { letters = f.letters; states = f.states; rules = omega arith; contexts = f.contexts; accepted = f.accepted });
          orderly = record {
            good = o.good;
            bound = o.bound;
            row = λ j a. go j (in_snoc (take l.rules l.t) (subst (In j) appended a));
            context = o.context;
            among = λ j a. subst (In j) (sym appended) (in_left (i ∷ []) (o.among j a));
          };
        };
        room = p.room;
        record_row = p.record_row;
        fits = p.fits;
      }
    where
      go : (j : ℕ) → In j (take l.rules l.t) ⊎ (j ≡ i) → IsRecord (tables_of ws l).store j
      go j (inl a) = p.run.orderly.row j a
      go j (inr e) = subst (IsRecord (tables_of ws l).store) (sym e) z

  few : length (take l.rules l.t) < most_rules
  few = omega (arith, length-take-le l.rules l.t (omega arith))

  more : l.rules < length (tables_of ws (with_rule l i)).t
  more = omega (arith, length-take-le (l.rules + 1) (set l.t l.rules i) (omega (arith, length-set l.t l.rules i)))

  is_put : (fs : List Frame) → searched (tables_of ws l) (at_new_transition h (record { row = i; around = fs })) ≡ put_down (tables_of ws (with_rule l i)) fs
  is_put fs =
      let x : Tables = tables_of ws l in
      ap (λ (b : Bool). cond b (short of_transitions) (put_down (tables x.store x.answers x.s (x.t ++ (i ∷ [])) x.c h 0 false) fs)) (lt-leb most_rules (length x.t) few) ∙
      ap (λ (t : List ℕ). put_down (tables x.store x.answers x.s t x.c h 0 false) fs) (sym appended) ∙
      put_same x.store x.answers x.s (tables_of ws (with_rule l i)).t x.c h 0 l.hand l.asked false x.accepted (fill x.store fs 0)

  put : (fs : List Frame) (r : Result Lists Refusal) (us : List ℕ) → Ends ws (with_rule l i) (put_down (tables_of ws (with_rule l i)) fs) r us →
      Ends ws l (searched (tables_of ws l) (at_new_transition h (record { row = i; around = fs }))) r us
  put fs r us d =
      let x : Tables = tables_of ws (with_rule l i) in
      ends_by (is_put fs) (record { ended = ended_ruled ws l i r us x.t more (put_down x fs) (put_rules x (fill x.store fs 0)) d.ended })

  -- the same of lists that are these
  module _ {l' : Lists} (e : l' ≡ with_rule l i) where
    pub rule_putting : IsRecord (tables_of ws l).store i → Putting ws l' ix ds h
    rule_putting z = subst (λ (k : Lists). Putting ws k ix ds h) (sym e) (ruled z)

    pub rule_put : (r : Result Lists Refusal) (us : List ℕ) → Ends ws l' (put_down (tables_of ws l') (path_of ds (tables_of ws l').store h)) r us →
        Ends ws l (searched (tables_of ws l) (at_new_transition h (record { row = i; around = path_of ds (tables_of ws l).store h }))) r us
    rule_put r us d = put (path_of ds (tables_of ws l).store h) r us (subst (λ (k : Lists). Ends ws k (put_down (tables_of ws k) (path_of ds (tables_of ws k).store h)) r us) e d)

-- no place for one more
pub rules_full : (ws : List ℕ) (l : Lists) → length l.t ≡ most_rules → l.rules ≡ most_rules → (h : ℕ) (p : Spot) (r : Result Lists Refusal) → r ≡ Err RulesShort →
    Ends ws l (searched (tables_of ws l) (at_new_transition h p)) r ws
rules_full ws l long e h p r z =
    let x : Tables = tables_of ws l in
    let n : most_rules ≤ length x.t = omega (arith, length-take-le l.rules l.t (omega arith)) in
    let y : Tables = tables x.store x.answers x.s (x.t ++ (p.row ∷ [])) x.c h 0 false in
    ends_by (ap (λ (b : Bool). cond b (short of_transitions) (put_down y p.around)) (le-leb most_rules (length x.t) n))
    (record { ended = (ap refused_by z, record { same_size = refl; same_rows = refl }) })

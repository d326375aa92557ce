-- How many rows a step needs: with fewer it runs short of rows, and with as many or more it ends otherwise, with just so many rows used.
-- Rows are only added, so what is used at the end was enough all along; what is chosen on the way has no room in it.
use mathlib.Core.Path.{◌≡◌, refl, sym, ap, subst, ◌∙◌}
use mathlib.Core.Logic.{◌≢◌}
use mathlib.Core.Bool.{Bool, true, false, cond}
use mathlib.Core.List.{List, [], ◌∷◌, ◌++◌}
use mathlib.Core.Option.{Option, none, some}
use Prim.Native.Nat.{ℕ, suc, ◌+◌, ◌≤◌, ◌<◌}
use native.Mathlib.Omega.{arith}
use native.Mathlib.Decide.{ℕ_discrete}
use lib.Dec.{ltb, leb, eqb}
use borrow.Author.Tests.{ltb-true, ltb-false, lt-ltb, le-ltb, leb-true, leb-false}
use lib.ListN.{length, drop, length-append}
use Rattle.model.specs.Limits.{most_rules}
use Rattle.model.specs.Base.{top}
use Rattle.model.specs.Store.{Store, used, count_of, find_row, node, added, Built, full, built, then_build, row_for, Frame, filled_kids, fill, frames_of, Spot}
use Rattle.model.specs.Terms.{store_from}
use Rattle.model.specs.Table.{Tables, tables, row_of}
use Rattle.model.specs.TableFacts.{Known}
use Rattle.model.specs.Steps.{of_rows, of_states, of_transitions, of_turns, Ended, short, asks, proposes, Search, lost, at_new_transition, at_unknown, at_difference, Sought, none_unknown, unknown, seek, grow, opened, proposed, settled_by, settled, put_tables, put_by, put_down, searched, advance, offered_tables, taken_by, answered_tables}
use Rattle.model.specs.Calls.{Call, offers, answers, refuses, end_of, done_by}
use Rattle.model.specs.Room.{roomed, with_room}
use Rattle.model.specs.Reached.{Begins, by_offer, by_answer, search_of, Settles, as_they_are, with_transition, with_difference}
use Rattle.model.proofs.Laws.Settle.{Finds, all_known, seek_is}
use Rattle.model.proofs.Laws.Step.{held_advance, none_advance}
use Rattle.model.proofs.Laws.Room.{frames_room, answers_room, search_room, seek_room}

-- ROWS: built with room r, where u rows were used
pub record BuiltNeeds (u : ℕ) (b : ℕ → Built) : Type 0 where
  pub needed : ℕ
  pub more : u ≤ needed
  pub row : ℕ
  pub store : Store
  pub all_used : used store ≡ needed
  pub too_few : (r : ℕ) → u ≤ r → r < needed → b r ≡ full
  pub enough : (r : ℕ) → needed ≤ r → b r ≡ built row (roomed r store)

nothing_added : (x : Store) (i : ℕ) → BuiltNeeds (used x) (λ (r : ℕ). built i (roomed r x))
nothing_added x i =
    record { needed = used x; more = omega arith; row = i; store = x; all_used = refl; too_few = λ r l m. absurd (omega arith); enough = λ r l. refl }

row_needs : (x : Store) (a : ℕ) (ks : List ℕ) → BuiltNeeds (used x) (λ (r : ℕ). row_for (roomed r x) a ks)
row_needs x a ks = go (eqb (find_row x a ks) 0)
  where
    go : (b : Bool) → BuiltNeeds (used x) (λ (r : ℕ). cond b (cond (ltb (used x) r) (built (used x) (added (roomed r x) a ks)) full) (built (find_row x a ks) (roomed r x)))
    go false = nothing_added x (find_row x a ks)
    go true =
        let n = length-append x.nodes (node a ks ∷ []) in
        record {
          needed = suc (used x);
          more = omega arith;
          row = used x;
          store = added x a ks;
          all_used = omega arith;
          too_few = λ r l m. ap (λ (c : Bool). cond c (built (used x) (added (roomed r x) a ks)) full) (le-ltb (used x) r (omega arith));
          enough = λ r l. ap (λ (c : Bool). cond c (built (used x) (added (roomed r x) a ks)) full) (lt-ltb (used x) r (omega arith));
        }

then_needs : (u : ℕ) (b : ℕ → Built) (f : ℕ → Store → Built) → BuiltNeeds u b → ((i : ℕ) (y : Store) → BuiltNeeds (used y) (λ (r : ℕ). f i (roomed r y))) →
    BuiltNeeds u (λ (r : ℕ). then_build (b r) f)
then_needs u b f n g =
    record {
      needed = m.needed;
      more = let a = n.more in let c = n.all_used in let d = m.more in omega arith;
      row = m.row;
      store = m.store;
      all_used = m.all_used;
      too_few = λ r l q. before r l q (ltb r n.needed) refl;
      enough = λ r l. let c = n.all_used in let d = m.more in ap (λ (v : Built). then_build v f) (n.enough r (omega arith)) ∙ m.enough r l;
    }
  where
    m : BuiltNeeds (used n.store) (λ (r : ℕ). f n.row (roomed r n.store))
    m = g n.row n.store

    before : (r : ℕ) → u ≤ r → r < m.needed → (c : Bool) → ltb r n.needed ≡ c → then_build (b r) f ≡ full
    before r l q true e = ap (λ (v : Built). then_build v f) (n.too_few r l (ltb-true r n.needed e))
    before r l q false e =
        let a = ltb-false r n.needed e in
        let c = n.all_used in
        ap (λ (v : Built). then_build v f) (n.enough r a) ∙ m.too_few r (omega arith) q

fill_needs : (fs : List Frame) (x : Store) (i : ℕ) → BuiltNeeds (used x) (λ (r : ℕ). fill (roomed r x) fs i)
unfolding fill
fill_needs [] x i = nothing_added x i
fill_needs (f ∷ fs) x i =
    then_needs (used x) (λ (r : ℕ). fill (roomed r x) fs i) (λ (j : ℕ) (y : Store). row_for y f.symbol (filled_kids f j)) (fill_needs fs x i)
    (λ j y. row_needs y f.symbol (filled_kids f j))

stack_needs : (xs : List ℕ) (x : Store) (i : ℕ) (is : List ℕ) → BuiltNeeds (used x) (λ (r : ℕ). store_from (roomed r x) xs (i ∷ is))
unfolding store_from
stack_needs [] x i is = nothing_added x i
stack_needs (a ∷ xs) x i is =
    then_needs (used x) (λ (r : ℕ). row_for (roomed r x) a (top (count_of x a) (i ∷ is))) (λ (j : ℕ) (y : Store). store_from y xs (j ∷ drop (count_of x a) (i ∷ is)))
    (row_needs x a (top (count_of x a) (i ∷ is))) (λ j y. stack_needs xs y j (drop (count_of x a) (i ∷ is)))

pub store_needs : (a : ℕ) (xs : List ℕ) (x : Store) → BuiltNeeds (used x) (λ (r : ℕ). store_from (roomed r x) (a ∷ xs) [])
unfolding store_from
store_needs a xs x =
    then_needs (used x) (λ (r : ℕ). row_for (roomed r x) a (top (count_of x a) [])) (λ (j : ℕ) (y : Store). store_from y xs (j ∷ drop (count_of x a) []))
    (row_needs x a (top (count_of x a) [])) (λ j y. stack_needs xs y j (drop (count_of x a) []))

-- SETTLING: how it ends where rows do not run out, with n rows used
pub data SettleEnds (y : Tables) (n : ℕ) : Ended → Type 0 where
  settled_asks : {z : Tables} → used z.store ≡ n → SettleEnds y n (asks z)
  settled_proposes : {z : Tables} → used z.store ≡ n → SettleEnds y n (proposes z)
  settled_states : used y.store ≡ n → Known y → grow (row_of y) y.s y.t ≡ none → SettleEnds y n (short of_states)

record SettleNeeds (x : Tables) : Type 0 where
  needed : ℕ
  more : used x.store ≤ needed
  too_few : (r : ℕ) → used x.store ≤ r → r < needed → settled (with_room r x) ≡ short of_rows
  enough : (r : ℕ) → needed ≤ r → SettleEnds (with_room r x) needed (settled (with_room r x))

none_known_law : (x : Tables) → seek x.store x.answers x.c x.t ≡ none_unknown → Known x
none_known_law x e = go (subst (Finds x.store x.answers x.c x.t) e (seek_is x.store x.answers x.c x.t))
  where
    go : Finds x.store x.answers x.c x.t none_unknown → Known x
    go (all_known f) = f

module _ (x : Tables) where
  abbrev st : Store
  st = x.store

  abbrev seeks : Store → Sought
  seeks z = seek z x.answers x.c x.t

  seeks_at : (r : ℕ) (q : Sought) → seeks st ≡ q → settled (with_room r x) ≡ settled_by (with_room r x) q
  seeks_at r q e = ap (settled_by (with_room r x)) (seek_room r st x.answers x.c x.t ∙ e)

  proposal : seeks st ≡ none_unknown → (o : Option (List ℕ)) → grow (row_of x) x.s x.t ≡ o → SettleNeeds x
  proposal e o g =
      record { needed = used st; more = omega arith; too_few = λ r l m. absurd (omega arith); enough = λ r l. subst (SettleEnds (with_room r x) (used st)) (sym (at r)) (ends r o (grown r)) }
    where
      grown : (r : ℕ) → grow (row_of (with_room r x)) x.s x.t ≡ o
      grown r = ap (λ (f : ℕ → List ℕ). grow f x.s x.t) (answers_room r st x.answers x.c) ∙ g

      at : (r : ℕ) → settled (with_room r x) ≡ proposed (with_room r x) o
      at r = seeks_at r none_unknown e ∙ ap (proposed (with_room r x)) (grown r)

      ends : (r : ℕ) (o : Option (List ℕ)) → grow (row_of (with_room r x)) x.s x.t ≡ o → SettleEnds (with_room r x) (used st) (proposed (with_room r x) o)
      ends r (some s) p = settled_proposes refl
      ends r none p = settled_states refl (none_known_law (with_room r x) (seek_room r st x.answers x.c x.t ∙ e)) p

  question : (c i : ℕ) → seeks st ≡ unknown c i → SettleNeeds x
  question c i e =
      record {
        needed = n.needed;
        more = n.more;
        too_few = λ r l m. at r ∙ ap (opened (with_room r x)) (n.too_few r l m);
        enough = λ r l. subst (SettleEnds (with_room r x) n.needed) (sym (at r ∙ ap (opened (with_room r x)) (n.enough r l))) (settled_asks n.all_used);
      }
    where
      n : BuiltNeeds (used st) (λ (r : ℕ). fill (roomed r st) (frames_of st c) i)
      n = fill_needs (frames_of st c) st i

      at : (r : ℕ) → settled (with_room r x) ≡ opened (with_room r x) (fill (roomed r st) (frames_of st c) i)
      at r = seeks_at r (unknown c i) e ∙ ap (λ (f : ℕ → List Frame). opened (with_room r x) (fill (roomed r st) (f c) i)) (frames_room r st)

  settle_needs : SettleNeeds x
  settle_needs = go (seeks st) refl
    where
      go : (q : Sought) → seeks st ≡ q → SettleNeeds x
      go none_unknown e = proposal e (grow (row_of x) x.s x.t) refl
      go (unknown c i) e = question c i e

-- PUT DOWN: the context's rows, then settled
record PutNeeds (x : Tables) (fs : List Frame) : Type 0 where
  needed : ℕ
  more : used x.store ≤ needed
  too_few : (r : ℕ) → used x.store ≤ r → r < needed → put_down (with_room r x) fs ≡ short of_rows
  context : ℕ
  store : Store
  filled : (r : ℕ) → needed ≤ r → fill (roomed r x.store) fs 0 ≡ built context (roomed r store)
  enough : (r : ℕ) → needed ≤ r → SettleEnds (put_tables (with_room r x) x.t context (roomed r store)) needed (put_down (with_room r x) fs)

put_needs : (x : Tables) (fs : List Frame) → PutNeeds x fs
put_needs x fs =
    record {
      needed = s.needed;
      more = let a = n.more in let b = n.all_used in let c = s.more in omega arith;
      too_few = λ r l q. before r l q (ltb r n.needed) refl;
      context = n.row;
      store = n.store;
      filled = λ r l. n.enough r (past l);
      enough = λ r l. subst (SettleEnds (with_room r y) s.needed) (sym (ap (put r) (n.enough r (past l)))) (s.enough r l);
    }
  where
    n : BuiltNeeds (used x.store) (λ (r : ℕ). fill (roomed r x.store) fs 0)
    n = fill_needs fs x.store 0

    y : Tables
    y = put_tables x x.t n.row n.store

    s : SettleNeeds y
    s = settle_needs y

    put : ℕ → Built → Ended
    put r b = put_by (with_room r x) b

    past : {r : ℕ} → s.needed ≤ r → n.needed ≤ r
    past l = let a = n.all_used in let b = s.more in omega arith

    before : (r : ℕ) → used x.store ≤ r → r < s.needed → (c : Bool) → ltb r n.needed ≡ c → put_down (with_room r x) fs ≡ short of_rows
    before r l q true e = ap (put r) (n.too_few r l (ltb-true r n.needed e))
    before r l q false e =
        let a = ltb-false r n.needed e in
        let b = n.all_used in
        ap (put r) (n.enough r a) ∙ s.too_few r (omega arith) q

-- A STEP from tables whose mark is stored
pub data AdvanceEnds (x : Tables) (n : ℕ) : Ended → Type 0 where
  ends_asks : {z : Tables} → used z.store ≡ n → AdvanceEnds x n (asks z)
  ends_proposes : {z : Tables} → used z.store ≡ n → AdvanceEnds x n (proposes z)
  ends_states : {y : Tables} → Settles x y → used y.store ≡ n → Known y → grow (row_of y) y.s y.t ≡ none → AdvanceEnds x n (short of_states)
  ends_transitions : {h : ℕ} {p : Spot} → used x.store ≡ n → x.hand ≢ 0 → search_of x ≡ at_new_transition h p → most_rules ≤ length x.t → AdvanceEnds x n (short of_transitions)
  ends_lost : x.hand ≢ 0 → search_of x ≡ lost → AdvanceEnds x n (short of_turns)

settles_ends : {x y : Tables} {n : ℕ} {e : Ended} → Settles x y → SettleEnds y n e → AdvanceEnds x n e
settles_ends s (settled_asks u) = ends_asks u
settles_ends s (settled_proposes u) = ends_proposes u
settles_ends s (settled_states u k g) = ends_states s u k g

pub record AdvanceNeeds (x : Tables) : Type 0 where
  pub needed : ℕ
  pub more : used x.store ≤ needed
  pub too_few : (r : ℕ) → used x.store ≤ r → r < needed → advance (with_room r x) ≡ short of_rows
  pub enough : (r : ℕ) → needed ≤ r → AdvanceEnds (with_room r x) needed (advance (with_room r x))

module _ (x : Tables) (held : x.hand ≢ 0) where
  search_at : (r : ℕ) (q : Search) → search_of x ≡ q → search_of (with_room r x) ≡ q
  search_at r q e = search_room r x.store x.answers x.s x.t x.c x.hand ∙ e

  advance_at : (r : ℕ) (q : Search) → search_of x ≡ q → advance (with_room r x) ≡ searched (with_room r x) q
  advance_at r q e = held_advance (with_room r x) held ∙ ap (searched (with_room r x)) (search_at r q e)

  -- the step ends before a row is added
  at_once : (q : Search) → search_of x ≡ q → ((r : ℕ) → AdvanceEnds (with_room r x) (used x.store) (searched (with_room r x) q)) → AdvanceNeeds x
  at_once q e f =
      record {
        needed = used x.store;
        more = omega arith;
        too_few = λ r l m. absurd (omega arith);
        enough = λ r l. subst (AdvanceEnds (with_room r x) (used x.store)) (sym (advance_at r q e)) (f r);
      }

  new_transition : (h : ℕ) (p : Spot) → search_of x ≡ at_new_transition h p → (b : Bool) → leb most_rules (length x.t) ≡ b → AdvanceNeeds x
  new_transition h p e true c =
      at_once (at_new_transition h p) e
      (λ r. subst (λ (b : Bool). AdvanceEnds (with_room r x) (used x.store) (cond b (short of_transitions) (put_down (with_room r y) p.around))) (sym c)
      (ends_transitions refl held (search_at r (at_new_transition h p) e) (leb-true most_rules (length x.t) c)))
    where
      y : Tables
      y = tables x.store x.answers x.s (x.t ++ (p.row ∷ [])) x.c h 0 false
  new_transition h p e false c =
      record {
        needed = n.needed;
        more = n.more;
        too_few = λ r l m. at r ∙ n.too_few r l m;
        enough = λ r l.
            subst (AdvanceEnds (with_room r x) n.needed) (sym (at r))
            (settles_ends (with_transition {hand = h} {context = n.context} {p = p} {y = roomed r n.store} held (search_at r (at_new_transition h p) e) (leb-false most_rules (length x.t) c) (n.filled r l)) (n.enough r l));
      }
    where
      y : Tables
      y = tables x.store x.answers x.s (x.t ++ (p.row ∷ [])) x.c h 0 false

      n : PutNeeds y p.around
      n = put_needs y p.around

      at : (r : ℕ) → advance (with_room r x) ≡ put_down (with_room r y) p.around
      at r = advance_at r (at_new_transition h p) e ∙ ap (λ (b : Bool). cond b (short of_transitions) (put_down (with_room r y) p.around)) c

  unknown_answer : (h : ℕ) (p : Spot) (rep : ℕ) → search_of x ≡ at_unknown h p rep → AdvanceNeeds x
  unknown_answer h p rep e =
      record {
        needed = n.needed;
        more = n.more;
        too_few = λ r l m. at r ∙ ap (opened (with_room r y)) (n.too_few r l m);
        enough = λ r l. subst (AdvanceEnds (with_room r x) n.needed) (sym (at r ∙ ap (opened (with_room r y)) (n.enough r l))) (ends_asks n.all_used);
      }
    where
      y : Tables
      y = tables x.store x.answers x.s x.t x.c h 0 false

      n : BuiltNeeds (used x.store) (λ (r : ℕ). fill (roomed r x.store) p.around rep)
      n = fill_needs p.around x.store rep

      at : (r : ℕ) → advance (with_room r x) ≡ opened (with_room r y) (fill (roomed r x.store) p.around rep)
      at r = advance_at r (at_unknown h p rep) e

  different_answer : (h : ℕ) (p : Spot) (rep j : ℕ) → search_of x ≡ at_difference h p rep j → AdvanceNeeds x
  different_answer h p rep j e =
      record {
        needed = n.needed;
        more = n.more;
        too_few = λ r l m. advance_at r (at_difference h p rep j) e ∙ n.too_few r l m;
        enough = λ r l.
            subst (AdvanceEnds (with_room r x) n.needed) (sym (advance_at r (at_difference h p rep j) e))
            (settles_ends (with_difference {hand = h} {rep = rep} {row = j} {context = n.context} {p = p} {y = roomed r n.store} held (search_at r (at_difference h p rep j) e) (n.filled r l)) (n.enough r l));
      }
    where
      n : PutNeeds x p.around
      n = put_needs x p.around

  held_needs : AdvanceNeeds x
  held_needs = go (search_of x) refl
    where
      go : (q : Search) → search_of x ≡ q → AdvanceNeeds x
      go lost e = at_once lost e (λ r. ends_lost held (search_at r lost e))
      go (at_new_transition h p) e = new_transition h p e (leb most_rules (length x.t)) refl
      go (at_unknown h p rep) e = unknown_answer h p rep e
      go (at_difference h p rep j) e = different_answer h p rep j e

advance_needs : (x : Tables) → AdvanceNeeds x
advance_needs x = go (ℕ_discrete x.hand 0)
  where
    s : SettleNeeds x
    s = settle_needs x

    go : Dec (x.hand ≡ 0) → AdvanceNeeds x
    go (no held) = held_needs x held
    go (yes z) =
        record {
          needed = s.needed;
          more = s.more;
          too_few = λ r l m. none_advance (with_room r x) z ∙ s.too_few r l m;
          enough = λ r l. subst (AdvanceEnds (with_room r x) s.needed) (sym (none_advance (with_room r x) z)) (settles_ends (as_they_are z) (s.enough r l));
        }

-- AN OFFER OR AN ANSWER
pub record Ends (x : Tables) (k : Call) (n : ℕ) : Type 0 where
  pub begun : Tables
  pub begins : Begins x k begun
  pub end : Ended
  pub done : done_by x k ≡ end_of end
  pub ends : AdvanceEnds begun n end

pub record StepNeeds (x : Tables) (k : Call) : Type 0 where
  pub needed : ℕ
  pub more : used x.store ≤ needed
  pub too_few : (r : ℕ) → used x.store ≤ r → r < needed → done_by (with_room r x) k ≡ refuses 34
  pub enough : (r : ℕ) → needed ≤ r → Ends (with_room r x) k needed

pub answer_needs : (x : Tables) (m : ℕ) → StepNeeds x (answers m)
answer_needs x m =
    record {
      needed = n.needed;
      more = n.more;
      too_few = λ r l q. ap end_of (n.too_few r l q);
      enough = λ r l. record { begun = with_room r y; begins = by_answer; end = advance (with_room r y); done = refl; ends = n.enough r l };
    }
  where
    y : Tables
    y = answered_tables x m

    n : AdvanceNeeds y
    n = advance_needs y

pub offer_needs : (x : Tables) (a : ℕ) (xs : List ℕ) (m : ℕ) → StepNeeds x (offers (a ∷ xs) m)
offer_needs x a xs m =
    record {
      needed = n.needed;
      more = let c = b.more in let d = b.all_used in let e = n.more in omega arith;
      too_few = λ r l q. ap end_of (before r l q (ltb r b.needed) refl);
      enough = λ r l.
          let at = b.enough r (past l) in
          record { begun = with_room r y; begins = by_offer at; end = advance (with_room r y); done = ap (λ (v : Built). end_of (taken_by (with_room r x) m v)) at; ends = n.enough r l };
    }
  where
    b : BuiltNeeds (used x.store) (λ (r : ℕ). store_from (roomed r x.store) (a ∷ xs) [])
    b = store_needs a xs x.store

    y : Tables
    y = offered_tables x m b.row b.store

    n : AdvanceNeeds y
    n = advance_needs y

    past : {r : ℕ} → n.needed ≤ r → b.needed ≤ r
    past l = let c = b.all_used in let d = n.more in omega arith

    before : (r : ℕ) → used x.store ≤ r → r < n.needed → (c : Bool) → ltb r b.needed ≡ c → taken_by (with_room r x) m (store_from (roomed r x.store) (a ∷ xs) []) ≡ short of_rows
    before r l q true e = ap (taken_by (with_room r x) m) (b.too_few r l (ltb-true r b.needed e))
    before r l q false e =
        let c = ltb-false r b.needed e in
        let d = b.all_used in
        ap (taken_by (with_room r x) m) (b.enough r c) ∙ n.too_few r (omega arith) q

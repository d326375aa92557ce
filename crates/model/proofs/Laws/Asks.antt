-- A question that a step opens is for a plugged record: the spot's context with the representative, or a context of C with a record of T.
-- The tables with the mark stored are followed to the end of the step: the search in hand, the record put down, the first unknown.
use mathlib.Core.Path.{◌≡◌, refl, sym, ap, ◌∙◌, subst}
use mathlib.Core.Logic.{◌≢◌}
use mathlib.Core.Bool.{Bool, true, false, cond}
use mathlib.Core.List.{List, [], ◌∷◌, ◌++◌}
use mathlib.Core.Option.{Option, none, some}
use Prim.Native.Nat.{ℕ}
use native.Mathlib.Omega.{arith}
use lib.Dec.{leb}
use lib.ListN.{length}
use borrow.Author.Tests.{leb-false}
use Rattle.model.specs.Limits.{most_rules}
use Rattle.model.specs.Base.{In}
use Rattle.model.specs.Store.{Store, Built, full, built, fill, frames_of, Spot}
use Rattle.model.specs.Terms.{tree_at}
use Rattle.model.specs.Table.{Tables, tables, row_of}
use Rattle.model.specs.Steps.{Shortage, of_transitions, Ended, short, asks, proposes, Search, at_new_transition, at_unknown, at_difference, Sought, none_unknown, unknown, seek, grow, opened, proposed, settled_by, settled, put_tables, put_by, searched, advance, taken_by}
use Rattle.model.specs.Facts.{IsRecord}
use Rattle.model.specs.TableFacts.{Core, SpotAt, SearchEnd, ends_new, ends_unknown, ends_different}
use Rattle.model.specs.Phase.{Sounds}
use Rattle.model.specs.Calls.{Call, offers, answers, leaves, end_of, fault_of, done_by}
use Rattle.model.specs.Reached.{Begins, by_offer, by_answer, search_of, Settles, as_they_are, with_transition, with_difference}
use Rattle.model.specs.Plug.{AsksFor, of_search, of_seek}
use Rattle.model.proofs.Laws.Down.{context_fits}
use Rattle.model.proofs.Laws.Plug.{leads_framed, fill_framed, plug_framed, plug_context}
use Rattle.model.proofs.Laws.Search.{in_hand_ends}
use Rattle.model.proofs.Laws.Settle.{Finds, all_known, first_unknown, seek_is}
use Rattle.model.proofs.Laws.Unchanged.{full_of}
use Rattle.model.proofs.Laws.Step.{held_advance, none_advance}
use Rattle.model.proofs.Laws.Begun.{Begun, in_hand, none_in_hand, begun_facts, settles_core}

-- WHERE THE MARK IS STORED what the call does is the rest of the step
begun_done : (x z : Tables) (k : Call) → Begins x k z → done_by x k ≡ end_of (advance z)
begun_done x z k (by_offer {symbols = xs} {mark = m} e) = ap (λ (b : Built). end_of (taken_by x m b)) e
begun_done x z k by_answer = refl

-- HOW A STEP ENDS: short, with a question as said, or with none
data Asking (x : Tables) : Ended → Type 0 where
  is_short : {n : Shortage} → Asking x (short n)
  asks_for : {y : Tables} → AsksFor x (tree_at y.store y.asked) → Asking x (asks y)
  asks_none : {y : Tables} → y.asked ≡ 0 → Asking x (proposes y)

-- THE FIRST UNKNOWN of the tables that are settled
module _ (x y : Tables) (way : Settles x y) (k : Core y) where
  asks_seek : (c i : ℕ) → In c y.c → In i y.t → seek y.store y.answers y.c y.t ≡ unknown c i →
      (b : Built) → fill y.store (frames_of y.store c) i ≡ b → Asking x (opened y b)
  asks_seek c i a r e full q = is_short
  asks_seek c i a r e (built j v) q =
      let g = k.good in
      let d = k.held.context c a in
      let t = fill_framed y.store g (frames_of y.store c) (context_fits y.store g c d.within d.hole) i (k.held.row i r).within j v q in
      asks_for (of_seek y way e (t ∙ sym (plug_context y.store g (tree_at y.store i) c d)))

  asks_proposed : (o : Option (List ℕ)) → Asking x (proposed y o)
  asks_proposed none = is_short
  asks_proposed (some s) = asks_none refl

  asks_settled : Asking x (settled y)
  asks_settled = go (seek y.store y.answers y.c y.t) refl (seek_is y.store y.answers y.c y.t)
    where
      go : (r : Sought) → seek y.store y.answers y.c y.t ≡ r → Finds y.store y.answers y.c y.t r → Asking x (settled_by y r)
      go none_unknown e (all_known n) = asks_proposed (grow (row_of y) y.s y.t)
      go (unknown c i) e (first_unknown r a z) = asks_seek c i a r e (fill y.store (frames_of y.store c) i) refl

-- THE SEARCH IN HAND: a new transition, a question for the representative in the spot's place, or an answer that differs
module _ (x : Tables) (n : x.hand ≢ 0) (b : Begun x) (k : Core x) where
  asks_put : (t : List ℕ) (c : ℕ) (y : Store) → Settles x (put_tables x t c y) → Asking x (settled (put_tables x t c y))
  asks_put t c y way = asks_settled x (put_tables x t c y) way (settles_core x (put_tables x t c y) b way)

  asks_new : (h : ℕ) (p : Spot) → search_of x ≡ at_new_transition h p → Asking x (searched x (at_new_transition h p))
  asks_new h p e = go (leb most_rules (length x.t)) refl (fill x.store p.around 0) refl
    where
      go : (b : Bool) → leb most_rules (length x.t) ≡ b → (v : Built) → fill x.store p.around 0 ≡ v →
          Asking x (cond b (short of_transitions) (put_by (tables x.store x.answers x.s (x.t ++ (p.row ∷ [])) x.c h 0 false) v))
      go true u v f = is_short
      go false u full f = is_short
      go false u (built c y) f = asks_put (x.t ++ (p.row ∷ [])) c y (with_transition n e (leb-false most_rules (length x.t) u) f)

  asks_unknown : (h : ℕ) (p : Spot) (rep : ℕ) → SpotAt x.store x.answers x.s x.t x.c h p → IsRecord x.store rep → search_of x ≡ at_unknown h p rep →
      Asking x (searched x (at_unknown h p rep))
  asks_unknown h p rep o r e = go (fill x.store p.around rep) refl
    where
      go : (v : Built) → fill x.store p.around rep ≡ v → Asking x (opened (tables x.store x.answers x.s x.t x.c h 0 false) v)
      go full f = is_short
      go (built j y) f =
          asks_for
          (of_search n e
          (leads_framed x.store k.good p.around p.row h o.leads ∙ sym (plug_framed x.store k.good (tree_at x.store p.row) o.fits))
          (fill_framed x.store k.good p.around o.fits rep r.within j y f ∙ sym (plug_framed x.store k.good (tree_at x.store rep) o.fits)))

  asks_different : (h : ℕ) (p : Spot) (rep j : ℕ) → search_of x ≡ at_difference h p rep j → Asking x (searched x (at_difference h p rep j))
  asks_different h p rep j e = go (fill x.store p.around 0) refl
    where
      go : (v : Built) → fill x.store p.around 0 ≡ v → Asking x (put_by x v)
      go full f = is_short
      go (built c y) f = asks_put x.t c y (with_difference n e f)

  asks_searched : (r : Search) → search_of x ≡ r → SearchEnd x.store x.answers x.s x.t x.c r → Asking x (searched x r)
  asks_searched (at_new_transition h p) e (ends_new fit o a b) = asks_new h p e
  asks_searched (at_unknown h p rep) e (ends_unknown fit o a b c d) = asks_unknown h p rep o (k.held.row rep (k.held.among rep b)) e
  asks_searched (at_difference h p rep j) e (ends_different fit o a b c l z d) = asks_different h p rep j e
  asks_searched Rattle.model.specs.Steps.lost e x3 = elim x3 [ ]

-- A STEP from the tables with the mark stored
asks_advance : (x : Tables) → Begun x → Asking x (advance x)
asks_advance x (in_hand w d f fit) =
    let some = fit.record_row.some in
    let n : x.hand ≢ 0 = λ p. omega (arith, p, some) in
    rw (held_advance x n)
    (asks_searched x n (in_hand w d f fit) w.core (search_of x) refl (in_hand_ends x.store x.answers x.s x.t x.c (full_of x w) x.hand fit))
asks_advance x (none_in_hand z k d) = rw (none_advance x z) (asks_settled x x (as_they_are z) k)

asks_end : (x y : Tables) (e : Ended) → Asking x e → end_of e ≡ leaves y → y.asked ≢ 0 → AsksFor x (tree_at y.store y.asked)
asks_end x y (short m) is_short p n = let z : ◌≡◌ {A = ℕ} 0 1 = cc in absurd (omega arith)
asks_end x y (asks v) (asks_for a) p n = let q : v ≡ y = cc in subst (λ (u : Tables). AsksFor x (tree_at u.store u.asked)) q a
asks_end x y (proposes v) (asks_none a) p n = let q : v ≡ y = cc in absurd (n (ap (λ (u : Tables). u.asked) (sym q) ∙ a))

pub asks_plugged : (x begun y : Tables) → Sounds x → (k : Call) → fault_of x k ≡ 0 → Begins x k begun → done_by x k ≡ leaves y → y.asked ≢ 0 → AsksFor begun (tree_at y.store y.asked)
asks_plugged x begun y s k f b d n = asks_end begun y (advance begun) (asks_advance begun (begun_facts x s k f begun b)) (sym (begun_done x begun k b) ∙ d) n

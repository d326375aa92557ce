-- An answer taken: what is held, pending and in hand stays so.
-- Known answers stay, and the row that gets its answer had none.
use mathlib.Core.Path.{◌≡◌, refl, sym, ap, ◌∙◌}
use mathlib.Core.Logic.{◌≢◌, ◌⊎◌, inl, inr}
use mathlib.Core.Bool.{true≢false, false, not}
use mathlib.Core.List.{List}
use mathlib.Core.Option.{Option, some}
use Prim.Native.Nat.{ℕ, ◌+◌, ◌≤◌}
use native.Mathlib.Omega.{arith}
use lib.Dec.{eqb}
use lib.ListN.{get_or, set, length-set}
use lib.Seq.{get_or-set_other}
use Rattle.model.specs.Store.{has_hole, filled_row, frames_of}
use Rattle.model.specs.Automata.{is_final}
use Rattle.model.specs.Table.{Tables, size, tables}
use Rattle.model.specs.Steps.{search, searched}
use Rattle.model.specs.Facts.{IsRecord}
use Rattle.model.specs.TableFacts.{Few, Tidy, Core, Differ, HandFits, Whole, proposed_state, proposed_verdict}
use Rattle.model.proofs.Laws.Proposal.{finals_same}
use Rattle.model.proofs.Laws.Turn.{Pending}
use Rattle.model.proofs.Laws.Flags.{tidy_with}
use Rattle.model.proofs.Laws.Settle.{Gains}
use Rattle.model.proofs.Laws.Unchanged.{full_of}
use Rattle.model.proofs.Laws.Advance.{HandOk, hand_ok}
use Rattle.model.proofs.Laws.Offer.{told_whole, told_state, told_tidy, marked_bound}

-- known answers stay where a row without one gets one
stays : (w : List ℕ) (i v : ℕ) → get_or w i 0 ≡ 0 → (n : ℕ) → get_or w n 0 ≢ 0 → get_or (set w i v) n 0 ≡ get_or w n 0
stays w i v z n d = get_or-set_other w i n v 0 (λ p. d (ap (λ (m : ℕ). get_or w m 0) p ∙ z))

-- the answers with a mark at a row
abbrev marked : Tables → (row mark : ℕ) → List ℕ
marked x i v = set x.answers i v

module _ (x : Tables) (k : Core x) (i : ℕ) (r : IsRecord x.store i) (z : get_or x.answers i 0 ≡ 0) (v : ℕ) (small-mark : v ≤ 2) where
  differ_stays : (a b : ℕ) → Differ x.store x.answers x.c a b → Differ x.store (marked x i v) x.c a b
  differ_stays a b d =
      let p = stays x.answers i v z (filled_row x.store (frames_of x.store d.0) a) d.2 in
      let q = stays x.answers i v z (filled_row x.store (frames_of x.store d.0) b) d.3 in
      (d.0, d.1, (λ u. d.2 (sym p ∙ u)), (λ u. d.3 (sym q ∙ u)), (λ u. d.4 (sym p ∙ u ∙ q)))

  pub answered_core : Core (tables x.store (marked x i v) x.s x.t x.c x.hand 0 false)
  answered_core =
      let h = k.held in
      record {
        good = k.good;
        counted = length-set x.answers i v ∙ k.counted;
        first = (let s = r.some in get_or-set_other x.answers i 0 v 0 (λ p. omega arith)) ∙ k.first;
        bound = let u = r.within in let l = k.counted in marked_bound x.answers i v (omega arith) small-mark k.bound;
        held =
            record {
              context = h.context;
              row = h.row;
              kids = h.kids;
              among = h.among;
              differ = λ a b p q n. differ_stays a b (h.differ a b p q n);
              yes = λ a p. let y = h.yes a p in (y.0, y.1, stays x.answers i v z (filled_row x.store (frames_of x.store y.0) a) (λ u. two (sym y.2 ∙ u)) ∙ y.2);
              one = h.one;
              each_one = h.each_one;
            };
      }
    where
      two : ◌≡◌ {A = ℕ} 2 0 → ⊥
      two e = omega arith

  pub answered_tidy : Tidy x → Tidy (tables x.store (marked x i v) x.s x.t x.c x.hand 0 false)
  answered_tidy d = tidy_with x d x.store (marked x i v) refl (λ n u h. get_or-set_other x.answers i n v 0 (λ p. true≢false (sym h ∙ ap (has_hole x.store) p ∙ r.clear)) ∙ d.blank n u h) x.hand 0 false

  pub answered_gains : (b : ℕ) → Gains x b → Gains (tables x.store (marked x i v) x.s x.t x.c x.hand 0 false) b
  answered_gains b g = (g.0, go g.1)
    where
      go : (b + 1 ≤ size x) ⊎ Pending x.store x.answers x.s x.t x.c → (b + 1 ≤ size x) ⊎ Pending x.store (marked x i v) x.s x.t x.c
      go (inl l) = inl l
      go (inr p) = inr (p.0, p.1, λ m a. differ_stays p.0 m (p.2 m a))

-- with a record in hand
module _ (x : Tables) (f : Whole x) (h : ℕ) (fit : HandFits x.store x.answers x.s x.t x.c h) (i : ℕ) (r : IsRecord x.store i) (z : get_or x.answers i 0 ≡ 0)
    (v : ℕ) (some-mark : v ≢ 0) (small-mark : v ≤ 2) where
  pub answered_whole : Whole (tables x.store (marked x i v) x.s x.t x.c h 0 false)
  answered_whole = told_whole x f i r v some-mark small-mark (inl z) h

  verdict_same : (o : Option ℕ) → proposed_verdict x.store (marked x i v) x.s x.t x.c o ≡ proposed_verdict x.store x.answers x.s x.t x.c o
  verdict_same o = ap (λ (fs : List ℕ). is_final fs o) (finals_same x.answers (marked x i v) x.s (λ n a. stays x.answers i v z n ((full_of x f).known n a)))

  pub answered_fits : HandFits x.store (marked x i v) x.s x.t x.c h
  answered_fits =
      let a = stays x.answers i v z h fit.known in
      record {
        record_row = fit.record_row;
        known = λ u. fit.known (sym a ∙ u);
        small = rw a fit.small;
        against_it = ap (proposed_verdict x.store (marked x i v) x.s x.t x.c) (told_state x f i r v some-mark small-mark (inl z) h h) ∙ verdict_same (proposed_state x.store x.answers x.s x.t x.c h) ∙ fit.against_it ∙
            ap (λ (n : ℕ). not (eqb n 2)) (sym a);
      }

  pub answer_hand_ok : Tidy x → Few x → HandOk (tables x.store (marked x i v) x.s x.t x.c h 0 false) (searched (tables x.store (marked x i v) x.s x.t x.c h 0 false) (search x.store (marked x i v) x.s x.t x.c h))
  answer_hand_ok d w = hand_ok (tables x.store (marked x i v) x.s x.t x.c h 0 false) answered_whole (told_tidy x f i r v some-mark small-mark (inl z) h d) w h answered_fits

-- The search turn by turn: where it ends at once, and that it goes on as the search from the exchanged record.
-- A turn leaves fewer occurrences outside S, and fuel past those makes no difference.
use mathlib.Core.Path.{◌≡◌, refl, sym, ap, ◌∙◌}
use mathlib.Core.Bool.{Bool, true, false, cond}
use mathlib.Core.List.{List}
use Prim.Native.Nat.{ℕ, zero, suc, ◌-◌, ◌≤◌, ◌<◌}
use native.Mathlib.Omega.{arith}
use lib.Dec.{eqb}
use borrow.Author.Tests.{eqb-true}
use Rattle.model.specs.Base.{In, among}
use Rattle.model.specs.Store.{Store, filled_row, outside, spot_of}
use Rattle.model.specs.Table.{answer_at}
use Rattle.model.specs.Steps.{Search, at_new_transition, at_unknown, at_difference, rep_of, against, search_from, search}
use Rattle.model.specs.Facts.{Closed, Leads}
use Rattle.model.specs.TableFacts.{Full, HandFits}
use Rattle.model.proofs.Laws.Lists.{member_in, not_in, members_in}
use Rattle.model.proofs.Laws.Fold.{earlier}
use Rattle.model.proofs.Laws.Frames.{falls}
use Rattle.model.proofs.Laws.Filled.{filled_leads}
use Rattle.model.proofs.Laws.Search.{weighs_none, weighs_some, hand_outside, spot_is, rep_is, next_fits}

module _ (x : Store) (w s t cs : List ℕ) where
  abbrev rep : (hand : ℕ) → ℕ
  rep h = rep_of x w s t cs (spot_of s x h).row

  -- the record with the representative in the spot's place
  abbrev pub after : (hand : ℕ) → ℕ
  after h = filled_row x (spot_of s x h).around (rep h)

  abbrev turned : (hand : ℕ) → Search → Search
  turned h next = cond (among (spot_of s x h).row t) (against x w s t cs h (spot_of s x h) (rep h) (after h) next) (at_new_transition h (spot_of s x h))

  from_suc : (n h : ℕ) → search_from x w s t cs (suc n) h ≡ turned h (search_from x w s t cs n (after h))
  unfolding search_from
  from_suc n h = refl

  module _ (fu : Full x w s t cs) where
    closed : Closed s x
    closed i u m = members_in s (fu.shaped.kids i (fu.shaped.among i (member_in i s m)))

    -- A TURN to an equal answer: a record that the proposal gets wrong too, with fewer occurrences outside S
    pub record Turned (h : ℕ) : Type 0 where
      pub fits : HandFits x w s t cs (after h)
      pub less : outside s x (after h) < outside s x h

    pub turns : (h : ℕ) → HandFits x w s t cs h → In (spot_of s x h).row t → answer_at w (after h) ≡ answer_at w h → Turned h
    turns h f m e =
        let g = fu.good in
        let p = spot_of s x h in
        let o = spot_is x w s t cs fu h f.record_row (hand_outside x w s t cs fu h f) in
        let r = rep_is x w s t cs fu p.row m in
        let z = (fu.clear (rep h) (fu.shaped.among (rep h) r.0)).some in
        let d : Leads x p.around (rep h) (after h) = filled_leads x g p.around o.fits (rep h) z (λ y. f.known (sym e ∙ ap (answer_at w) y ∙ fu.hole)) in
        let a = weighs_none x w s t cs fu (suc (rep h)) (rep h) (omega arith) r.0 in
        let b = weighs_some x w s t cs fu p.row o.record_row.within o.outside_s in
        let c = (falls s x (earlier x g) closed p.around p.row h (rep h) (after h) o.leads d (not_in p.row s o.outside_s)).1 in
        record { fits = next_fits x w s t cs fu h p (rep h) (after h) f o m r.0 r.1 d e; less = omega arith }

    -- a record in hand has an occurrence outside S: itself
    pub weighs : (h : ℕ) → HandFits x w s t cs h → 0 < outside s x h
    weighs h f = weighs_some x w s t cs fu h f.record_row.within (hand_outside x w s t cs fu h f)

    -- what the rest of the search is matters only where a turn goes on
    pub turned_same : (h : ℕ) (a b : Search) → (In (spot_of s x h).row t → answer_at w (after h) ≡ answer_at w h → a ≡ b) → turned h a ≡ turned h b
    turned_same h a b q = go (among (spot_of s x h).row t) refl
      where
        go : (c : Bool) → among (spot_of s x h).row t ≡ c →
            cond c (against x w s t cs h (spot_of s x h) (rep h) (after h) a) (at_new_transition h (spot_of s x h)) ≡
            cond c (against x w s t cs h (spot_of s x h) (rep h) (after h) b) (at_new_transition h (spot_of s x h))
        go false e = refl
        go true e = ap (λ (v : Search). cond (eqb (answer_at w (after h)) 0) (at_unknown h (spot_of s x h) (rep h)) v) (on (eqb (answer_at w (after h)) (answer_at w h)) refl)
          where
            on : (c : Bool) → eqb (answer_at w (after h)) (answer_at w h) ≡ c →
                cond c a (at_difference h (spot_of s x h) (rep h) (after h)) ≡ cond c b (at_difference h (spot_of s x h) (rep h) (after h))
            on true y = q (member_in (spot_of s x h).row t e) (eqb-true (answer_at w (after h)) (answer_at w h) y)
            on false y = refl

    pub search_fuel : (n m h : ℕ) → HandFits x w s t cs h → outside s x h ≤ n → outside s x h ≤ m → search_from x w s t cs n h ≡ search_from x w s t cs m h
    search_fuel zero m h f a b = let z = weighs h f in absurd (omega arith)
    search_fuel (suc n) zero h f a b = let z = weighs h f in absurd (omega arith)
    search_fuel (suc n) (suc m) h f a b =
        from_suc n h ∙
        turned_same h (search_from x w s t cs n (after h)) (search_from x w s t cs m (after h)) (λ k e. let r = turns h f k e in let l = r.less in search_fuel n m (after h) r.fits (omega arith) (omega arith)) ∙
        sym (from_suc m h)

    -- THE SEARCH, one turn
    pub search_turn : (h : ℕ) → HandFits x w s t cs h → search x w s t cs h ≡ turned h (search x w s t cs (after h))
    search_turn h f =
        let z = weighs h f in
        let e : outside s x h ≡ suc (outside s x h - 1) = omega arith in
        ap (λ (n : ℕ). search_from x w s t cs n h) e ∙ from_suc (outside s x h - 1) h ∙
        turned_same h (search_from x w s t cs (outside s x h - 1) (after h)) (search x w s t cs (after h))
        (λ k e. let r = turns h f k e in let l = r.less in search_fuel (outside s x h - 1) (outside s x (after h)) (after h) r.fits (omega arith) (omega arith))

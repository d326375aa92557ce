-- S by its places in T: grown, its members are as many as are told; written back one after the other, they stand over what S held.
-- A member written behind new contents is one more of them. S grown by places is S grown by rows, so it is what model proposes.
use mathlib.Core.Path.{◌≡◌, refl, sym, ap, subst, ◌∙◌}
use mathlib.Core.Bool.{true}
use mathlib.Core.List.{List, [], ◌∷◌, ◌++◌}
use mathlib.Core.Option as maybe
use mathlib.Core.Option.{none, some}
use Prim.Native.Nat.{ℕ, zero, suc, ◌+◌, ◌≤◌, ◌<◌}
use native.Mathlib.Numerals.{add-one}
use native.Mathlib.Omega.{arith}
use lib.ListN.{length, get_or, take, set, length-map}
use lib.Seq.{length-take-le, get_or-take}
use Rattle.std.proofs.Common.{None, Some, Result, Ok, Err}
use Rattle.model.specs.Base.{over}
use Rattle.model.specs.Entry.{Arrays, lists_fit}
use Rattle.model.specs.declared.Lists.{Lists}
use Rattle.model.specs.declared.refusal.Refusal.{Refusal}
use Rattle.model.specs.declared.refusal.Refusal.TheVariants.{StatesShort}
use Rattle.model.proofs.Laws.Lent.{lists_fit_facts}
use Rattle.run_lists.specs.Members.{states_in, rules_in}
use Rattle.run_lists.specs.Changes.{proposing}
use Rattle.run_lists.proofs.Laws.Arrays.{few_states, few_rules}
use Rattle.table.specs.Answers.{grow_at, grown_by, Placing, Placed, rows_at}
use Rattle.table.specs.declared.Places.{Places}
use Rattle.table.proofs.Laws.Tied.{grown_full, grown_rows}
use Rattle.table.proofs.Laws.InT.{places_cut}
use Rattle.step_settle.specs.Stepped.{GrownAs, ProposedAs}

-- GROWN: as many members as are told
module _ (o : maybe.Option (List ℕ)) (r : Places) (e : grown_by o (Some r)) where
  grown_count : length (take r.states r.s) ≡ r.states
  grown_count = go o e
    where
      go : (p : maybe.Option (List ℕ)) → grown_by p (Some r) → length (take r.states r.s) ≡ r.states
      go none d = cc
      go (some v) d = ap length d.0 ∙ sym d.1

  pub grown_rows_count : (t : List ℕ) → length (rows_at t (take r.states r.s)) ≡ r.states
  grown_rows_count t = length-map (take r.states r.s) (λ (p : ℕ). get_or t p 0) ∙ grown_count

-- WRITTEN: one member more
over_more : (new old : List ℕ) (v : ℕ) → length new < length old → set (over new old) (length new) v ≡ over (new ++ (v ∷ [])) old
over_more [] [] v l = absurd (omega arith)
over_more [] (o ∷ os) v l = refl
over_more (n ∷ ns) [] v l = absurd (omega arith)
over_more (n ∷ ns) (o ∷ os) v l = ap (λ (vs : List ℕ). n ∷ vs) (over_more ns os v (omega arith))

rows_more : (t ps : List ℕ) (i : ℕ) → i < length ps → rows_at t (take (suc i) ps) ≡ rows_at t (take i ps) ++ (get_or t (get_or ps i 0) 0 ∷ [])
rows_more t [] i l = absurd (omega arith)
rows_more t (p ∷ ps) zero l = refl
rows_more t (p ∷ ps) (suc i) l = ap (λ (vs : List ℕ). get_or t p 0 ∷ vs) (rows_more t ps i (omega arith))

pub states_more : (t ps s : List ℕ) (i : ℕ) → i < length ps → i < length s → {now : List ℕ} → now ≡ over (rows_at t (take i ps)) s →
    set now i (get_or t (get_or ps i 0) 0) ≡ over (rows_at t (take (i + 1) ps)) s
states_more t ps s i l h e =
    let n : length (rows_at t (take i ps)) ≡ i = length-map (take i ps) (λ (p : ℕ). get_or t p 0) ∙ length-take-le i ps (omega arith) in
    (λ k. set (e k) (sym n k) (get_or t (get_or ps i 0) 0)) ∙ over_more (rows_at t (take i ps)) s (get_or t (get_or ps i 0) 0) (omega arith) ∙
    ap (λ (vs : List ℕ). over vs s) (sym (rows_more t ps i l)) ∙ ap (λ (k : ℕ). over (rows_at t (take k ps)) s) (sym (add-one i))

-- PROPOSED: S found in T, grown by places and written back
rows_cut : (t : List ℕ) (n k : ℕ) (ps : List ℕ) → ((i : ℕ) → i < k → get_or ps i 0 < n) → rows_at (take n t) (take k ps) ≡ rows_at t (take k ps)
rows_cut t n zero ps h = refl
rows_cut t n (suc k) [] h = refl
rows_cut t n (suc k) (p ∷ ps) h =
    let first = get_or-take n t p 0 (h 0 (omega arith)) in
    let others = rows_cut t n k ps (λ i l. h (suc i) (omega arith)) in
    λ j. first j ∷ others j

module _ {l : Lists} (fit : lists_fit l ≡ true) (a : Arrays l) {ps : List ℕ} (placing : Placing ps (length (states_in l)) (length (rules_in l)))
    (placed : Placed (rules_in l) (length (rules_in l)) (states_in l) (length (states_in l)) ps) where
  found : Placing ps l.states l.rules × Placed l.t l.rules l.s l.states ps
  found = places_cut l.s l.states l.t l.rules (few_states fit a) (few_rules fit a) placing placed

  enough : l.states ≤ length ps
  enough = omega (arith, placing.long, (lists_fit_facts l fit).states)

  module _ {tb : List ℕ} (r : Result Lists Refusal) where
    pub proposes_none : grown_by (grow_at tb l.contexts l.rules (take l.states ps)) None → r ≡ Err StatesShort → ProposedAs l tb r
    proposes_none grown e x w o =
        let full = grown_full o l.s l.states ps found.1 (few_states fit a) enough (few_rules fit a) grown in
        subst (λ (k : maybe.Option (List ℕ)). GrownAs l k r) (sym full) e

    pub proposes_some : (g : Places) → grown_by (grow_at tb l.contexts l.rules (take l.states ps)) (Some g) → ((i : ℕ) → i < g.states → get_or g.s i 0 < l.rules) →
        {s : List ℕ} → s ≡ over (rows_at (rules_in l) (take g.states g.s)) l.s → r ≡ Ok (proposing l s g.states) → ProposedAs l tb r
    proposes_some g grown below {s} z d x w o =
        let rows = grown_rows o l.s l.states ps found.1 (few_states fit a) enough (few_rules fit a) g grown in
        let whole = z ∙ ap (λ (new : List ℕ). over new l.s) (rows_cut l.t l.rules g.states g.s below) in
        let count = grown_rows_count (grow_at tb l.contexts l.rules (take l.states ps)) g grown l.t in
        subst (λ (k : maybe.Option (List ℕ)). GrownAs l k r) (sym rows) (d ∙ (λ i. Ok (proposing l (whole i) (sym count i))))

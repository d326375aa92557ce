-- A record in hand is asked about, or put down with something gained: a transition more, or a context that separates one from its representative.
-- The search ends in one of three ways; each makes the rows of one filled context, and rows that are added change no answer.
use mathlib.Core.Path.{◌≡◌, refl, sym, ap, subst, ◌∙◌}
use mathlib.Core.Logic.{◌≢◌, ◌⊎◌, inl, inr}
use mathlib.Core.Bool.{Bool, true, false, not, cond}
use mathlib.Core.List.{List, [], ◌∷◌, ◌++◌}
use mathlib.Core.Option.{Option}
use Prim.Native.Nat.{ℕ, ◌+◌, ◌-◌, ◌≤◌}
use native.Mathlib.Omega.{arith}
use borrow.Author.Tests.{leb-false}
use lib.Dec.{leb, eqb}
use lib.ListN.{get_or-append, length, get_or, length-append}
use Rattle.model.specs.Limits.{most_rules}
use Rattle.model.specs.Base.{Distinct, In, among, same}
use Rattle.model.specs.Store.{filled_row, Spot, Built, Extends, Frame, Store, built, fill, full, used}
use Rattle.model.specs.Automata.{Rule, is_final, row_state}
use Rattle.model.specs.Table.{Tables, answers_of, rules_of, size, tables}
use Rattle.model.specs.Steps.{with_context, Shortage, of_transitions, Ended, Search, asks, at_difference, at_new_transition, at_unknown, blanked, opened, put_tables, put_by, search, searched, short}
use Rattle.model.specs.Reached.{Settles, as_they_are, with_transition, with_difference}
use Rattle.model.specs.Facts.{Leads, Fits, Good, IsRecord}
use Rattle.model.specs.TableFacts.{SpotAt, Few, Tidy, Core, HandFits, Held, SearchEnd, Whole, ends_different, ends_new, ends_unknown, proposed_state, proposed_verdict}
use Rattle.model.proofs.Laws.Lists.{some_in, in_last, member_in, in_not, distinct_snoc}
use Rattle.model.proofs.Laws.Rows.{record_ext}
use Rattle.model.proofs.Laws.Frames.{leads_within}
use Rattle.model.proofs.Laws.Fill.{fill_is}
use Rattle.model.proofs.Laws.Verdict.{state_ext}
use Rattle.model.proofs.Laws.Proposal.{finals_same}
use Rattle.model.proofs.Laws.Search.{in_hand_ends}
use Rattle.model.proofs.Laws.Held.{Blank, answer_ext}
use Rattle.model.proofs.Laws.Turn.{Pending, With, had, put, put_adds, put_parts, answers_same, with_length}
use Rattle.model.proofs.Laws.Flags.{core_flags, tidy_flags}
use Rattle.model.proofs.Laws.Settle.{Gains, SettledOk, settled_ok, blank_is, past, blanked_length, Keeps, keeps_blanked, blank_keeps, ShortOk, short_rows, short_rules, AskedEnd, opened_end}
use Rattle.model.proofs.Laws.Unchanged.{full_of, rules_same, stored_whole}

-- T7 is kept where rows were added
pub hand_ext : (x y : Store) → Good x → Good y → Extends x y → (w w' s t cs : List ℕ) → ((i : ℕ) → get_or w' i 0 ≡ get_or w i 0) → Blank x w w' → Held x w s t cs → (h : ℕ) → HandFits x w s t cs h → HandFits y w' s t cs h
hand_ext x y g g' e w w' s t cs p b hd h f =
    let same : (i : ℕ) → IsRecord x i → answers_of y w' cs i ≡ answers_of x w cs i =
    λ i q. answers_same x y w w' cs i (λ c v. answer_ext x y g g' e w w' b c i (hd.context c v) q) in
    let rs : rules_of y (answers_of y w' cs) s t ≡ rules_of x (answers_of x w cs) s t =
    rules_same x y e (answers_of x w cs) (answers_of y w' cs) s (λ k a. same k (hd.row k (hd.among k a))) t (λ i a. ((hd.row i a).within, same i (hd.row i a))) in
    let st : proposed_state y w' s t cs h ≡ proposed_state x w s t cs h =
    ap (λ (ds : List Rule). row_state ds y h) rs ∙
    sym (state_ext (rules_of x (answers_of x w cs) s t) x y g e h f.record_row.within) in
    record {
      record_row = record_ext x y g e h f.record_row;
      known = λ z. f.known (sym (p h) ∙ z);
      small = rw (p h) f.small;
      against_it = ap (proposed_verdict y w' s t cs) st ∙ verdict (proposed_state x w s t cs h) ∙ f.against_it ∙ ap (λ (v : ℕ). not (eqb v 2)) (sym (p h));
    }
  where
    verdict : (o : Option ℕ) → proposed_verdict y w' s t cs o ≡ proposed_verdict x w s t cs o
    verdict o = ap (λ (fs : List ℕ). is_final fs o) (finals_same w w' s (λ n a. p n))

-- C with the context, as `put_by` makes it
chosen : (c : ℕ) (cs : List ℕ) → With c cs (cond (among c cs) cs (cs ++ (c ∷ [])))
chosen c cs = go (among c cs) refl
  where
    go : (b : Bool) → among c cs ≡ b → With c cs (cond b cs (cs ++ (c ∷ [])))
    go true e = had (member_in c cs e)
    go false e = put (in_not c cs e)

-- PUT DOWN: rows kept, the context in C, and something to be gained
pub record PutDown (x z : Tables) : Type 0 where
  pub core : Core z
  pub tidy : Tidy z
  pub keeps : Keeps x z
  pub same_s : z.s ≡ x.s
  pub empty : z.hand ≡ 0
  pub few_more : length z.c ≤ length x.c + 1
  pub gains : (b : ℕ) → b ≤ size x → Gains z b
  pub gains_first : size x ≡ 0 → Gains z 1

-- THE END of a record in hand: short; asked about, still in hand; or put down, and then settled
pub data HandOk (x : Tables) : Ended → Type 0 where
  hand_short : {n : Shortage} → ShortOk n → HandOk x (short n)
  hand_asks : {y : Tables} → AskedEnd x y → Whole y → HandFits y.store y.answers y.s y.t y.c y.hand → 1 ≤ length x.t → HandOk x (asks y)
  hand_down : {z : Tables} {e : Ended} → PutDown x z → SettledOk z e → HandOk x e

with_distinct : {c : ℕ} {cs cs' : List ℕ} → With c cs cs' → Distinct cs → Distinct cs'
with_distinct (had a) d = d
with_distinct {c} (put n) d = distinct_snoc c n d

with_first : {c : ℕ} {cs cs' : List ℕ} → With c cs cs' → 1 ≤ length cs → (1 ≤ length cs') × (get_or cs' 0 1 ≡ get_or cs 0 1)
with_first (had a) l = (l, refl)
with_first {c} {cs} (put n) l = let e = length-append cs (c ∷ []) in (omega arith, get_or-append cs (c ∷ []) 1 0 l)

module _ (x : Tables) (f : Whole x) (td : Tidy x) (fw : Few x) where
  abbrev st : Store
  st = x.store

  abbrev w : List ℕ
  w = x.answers

  k : Core x
  k = f.core

  -- the tables with the record put down: T as given, C with the context
  module _ (t' : List ℕ) (y : Store) (c : ℕ) (fs : List Frame) (e : fill st fs 0 ≡ built c y) (q : Fits st fs) where
    abbrev down : Tables
    down = tables y (blanked st y w) x.s t' (with_context c x.c) 0 0 false

    down_keeps : Keeps x down
    down_keeps = keeps_blanked x y (fill_is fs st k.good q 0 k.good.start c y e).ext x.s t' (with_context c x.c) 0 0

    down_core : Held y (blanked st y w) x.s t' (with_context c x.c) → Core down
    down_core h =
        let m = fill_is fs st k.good q 0 k.good.start c y e in
        record {
          good = m.good;
          counted = blanked_length st y w k.counted m.ext.more;
          first = past w (used y - used st) 0 ∙ k.first;
          bound = λ n. rw (past w (used y - used st) n) (k.bound n);
          held = h;
        }

    down_tidy : length t' ≤ most_rules → length x.c ≤ length x.s + length t' → Tidy down
    down_tidy l m =
        let ex = (fill_is fs st k.good q 0 k.good.start c y e).ext in
        let fi = with_first (chosen c x.c) td.some_c in
        let longer = with_length (chosen c x.c) in
        record {
          alphabet = rw ex.counts td.alphabet;
          blank = blank_keeps x down k down_keeps td.blank;
          few_t = l;
          few_s = td.few_s;
          some_c = fi.0;
          hole_first_law = fi.1 ∙ td.hole_first_law;
          one_c = with_distinct (chosen c x.c) td.one_c;
          few_c = omega arith;
        }

  few_size : 1 ≤ size x → length x.c ≤ size x
  few_size l = go fw
    where
      go : (length x.c ≤ 1) ⊎ (length x.c ≤ size x) → length x.c ≤ size x
      go (inl a) = omega arith
      go (inr a) = a

  few_grown : length x.c ≤ size x + 1
  few_grown = go fw
    where
      go : (length x.c ≤ 1) ⊎ (length x.c ≤ size x) → length x.c ≤ size x + 1
      go (inl a) = omega arith
      go (inr a) = omega arith

  pub new_core : (h : ℕ) (p : Spot) (fit : HandFits st w x.s x.t x.c h) (o : SpotAt st w x.s x.t x.c h p) → (In p.row x.t → ⊥) → get_or w h 0 ≡ 2 →
      (c : ℕ) (y : Store) (q : fill st p.around 0 ≡ built c y) → Core (down (x.t ++ (p.row ∷ [])) y c p.around q o.fits)
  new_core h p fit o n e c y q =
      down_core (x.t ++ (p.row ∷ [])) y c p.around q o.fits
      (put_adds st w x.s x.t x.c k.good k.held h p o fit c y q (blanked st y w) (blank_is st y w k.counted k.first) (with_context c x.c) (chosen c x.c) n e)

  new_transition : (h : ℕ) (p : Spot) → HandFits st w x.s x.t x.c h → SpotAt st w x.s x.t x.c h p → (In p.row x.t → ⊥) → get_or w h 0 ≡ 2 →
      HandOk x (searched x (at_new_transition h p))
  new_transition h p fit o n e = go (leb most_rules (length x.t)) refl (fill st p.around 0) refl
    where
      none_of : (ks : List ℕ) → length ks ≡ 0 → (v : ℕ) → In v ks → ⊥
      none_of ks z v a = let u = some_in a in omega arith

      go : (b : Bool) → leb most_rules (length x.t) ≡ b → (r : Built) → fill st p.around 0 ≡ r →
          HandOk x (cond b (short of_transitions) (put_by (tables st w x.s (x.t ++ (p.row ∷ [])) x.c h 0 false) r))
      go true u r q = hand_short short_rules
      go false u full q = hand_short short_rows
      go false u (built c y) q =
          let its-core = new_core h p fit o n e c y q in
          let l = length-append x.t (p.row ∷ []) in
          let few_contexts = few_grown in
          let lt = leb-false most_rules (length x.t) u in
          let its-tidy = down_tidy (x.t ++ (p.row ∷ [])) y c p.around q o.fits (omega arith) (omega arith) in
          hand_down
          (record {
            core = its-core;
            tidy = its-tidy;
            keeps = down_keeps (x.t ++ (p.row ∷ [])) y c p.around q o.fits;
            same_s = refl;
            empty = refl;
            few_more = with_length (chosen c x.c);
            gains = λ b u. (omega arith, inl (omega arith));
            gains_first = λ z. (omega arith, inr (p.row, in_last x.t p.row, λ v a. absurd (none_of x.s (omega arith) v a)));
          })
          (settled_ok _ its-core its-tidy)

  unknown_answer : (h : ℕ) (p : Spot) (rep : ℕ) → HandFits st w x.s x.t x.c h → SpotAt st w x.s x.t x.c h p → In p.row x.t → In rep x.s →
      get_or w (filled_row st p.around rep) 0 ≡ 0 → HandOk x (searched x (at_unknown h p rep))
  unknown_answer h p rep fit o m n z = go (fill st p.around rep) refl
    where
      go : (r : Built) → fill st p.around rep ≡ r → HandOk x (opened (tables st w x.s x.t x.c h 0 false) r)
      go full q = hand_short short_rows
      go (built j y) q =
          let rep-record = k.held.row rep (k.held.among rep n) in
          let a = opened_end (tables st w x.s x.t x.c h 0 false) (core_flags x k h 0 false) p.around o.fits rep rep-record z j y q (tidy_flags x td h 0 false) in
          let made = fill_is p.around st k.good o.fits rep rep-record.within j y q in
          let whole-now = stored_whole x f y made.good made.ext h in
          hand_asks
          (record {
            core = a.core;
            tidy = a.tidy;
            keeps = record { ext = a.keeps.ext; answers = a.keeps.answers };
            opens = a.opens;
            same_s = refl;
            same_t = refl;
            same_c = refl;
            running = refl;
          })
          (record { core = a.core; known = whole-now.known; shaped = whole-now.shaped; hole_in = whole-now.hole_in })
          (hand_ext st y k.good made.good made.ext w (blanked st y w) x.s x.t x.c (past w (used y - used st)) (blank_is st y w k.counted k.first) k.held h fit)
          (some_in m)

  parted : (h : ℕ) (p : Spot) (rep j : ℕ) → HandFits st w x.s x.t x.c h → (o : SpotAt st w x.s x.t x.c h p) → In p.row x.t → In rep x.s →
      answers_of st w x.c p.row ≡ answers_of st w x.c rep → Leads st p.around rep j → get_or w j 0 ≢ 0 → get_or w j 0 ≢ get_or w h 0 → (c : ℕ) (y : Store) (q : fill st p.around 0 ≡ built c y) →
      Core (down x.t y c p.around q o.fits) × Pending y (blanked st y w) x.s x.t (with_context c x.c)
  parted h p rep j fit o m n e l z d c y q =
      let rep-record = k.held.row rep (k.held.among rep n) in
      let j-within = leads_within st p.around rep j rep-record.within l in
      let b = blank_is st y w k.counted k.first in
      let r = put_parts st w x.s x.t x.c k.good k.held h p o fit c y q (blanked st y w) b (with_context c x.c) (chosen c x.c) m rep j n e l j-within z d in
      (down_core x.t y c p.around q o.fits r.0, r.1)

  different_answer : (h : ℕ) (p : Spot) (rep j : ℕ) → HandFits st w x.s x.t x.c h → SpotAt st w x.s x.t x.c h p → In p.row x.t → In rep x.s →
      answers_of st w x.c p.row ≡ answers_of st w x.c rep → Leads st p.around rep j → get_or w j 0 ≢ 0 → get_or w j 0 ≢ get_or w h 0 → HandOk x (searched x (at_difference h p rep j))
  different_answer h p rep j fit o m n e l z d = go (fill st p.around 0) refl
    where
      go : (r : Built) → fill st p.around 0 ≡ r → HandOk x (put_by x r)
      go full q = hand_short short_rows
      go (built c y) q =
          let r = parted h p rep j fit o m n e l z d c y q in
          let its-core = r.0 in
          let some-rule = some_in m in
          let few = few_size (omega arith) in
          let its-tidy = down_tidy x.t y c p.around q o.fits td.few_t few in
          hand_down
          (record {
            core = its-core;
            tidy = its-tidy;
            keeps = down_keeps x.t y c p.around q o.fits;
            same_s = refl;
            empty = refl;
            few_more = with_length (chosen c x.c);
            gains = λ b u. (omega arith, inr r.1);
            gains_first = λ v. absurd (omega arith);
          })
          (settled_ok _ its-core its-tidy)

  by_hand : (r : Search) → SearchEnd st w x.s x.t x.c r → HandOk x (searched x r)
  by_hand (at_new_transition h p) (ends_new fit o n e) = new_transition h p fit o n e
  by_hand (at_unknown h p rep) (ends_unknown fit o m n e z) = unknown_answer h p rep fit o m n z
  by_hand (at_difference h p rep j) (ends_different fit o m n e l z d) = different_answer h p rep j fit o m n e l z d
  by_hand Rattle.model.specs.Steps.lost x'' = elim x'' [ ]

  -- on every full table with a record in hand that the proposal gets wrong
  pub hand_ok : (h : ℕ) → HandFits st w x.s x.t x.c h → HandOk x (searched x (search st w x.s x.t x.c h))
  hand_ok h fit = by_hand (search st w x.s x.t x.c h) (in_hand_ends st w x.s x.t x.c (full_of x f) h fit)

  -- the tables that a step settles with the record put down
  pub down_settles : (y : Tables) → HandFits st w x.s x.t x.c x.hand → Settles x y → Core y
  down_settles y fit (as_they_are z) = k
  down_settles y fit (with_transition {hand = h} {context = c} {p = p} {y = v} held e l q) =
      go (subst (SearchEnd st w x.s x.t x.c) e (in_hand_ends st w x.s x.t x.c (full_of x f) x.hand fit))
    where
      go : SearchEnd st w x.s x.t x.c (at_new_transition h p) → Core (put_tables x (x.t ++ (p.row ∷ [])) c v)
      go (ends_new fits o n a) = new_core h p fits o n a c v q
  down_settles y fit (with_difference {hand = h} {rep = rep} {row = j} {context = c} {p = p} {y = v} held e q) =
      go (subst (SearchEnd st w x.s x.t x.c) e (in_hand_ends st w x.s x.t x.c (full_of x f) x.hand fit))
    where
      go : SearchEnd st w x.s x.t x.c (at_difference h p rep j) → Core (put_tables x x.t c v)
      go (ends_different fits o m n a l z d) = (parted h p rep j fits o m n a l z d c v q).0

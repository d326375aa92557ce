-- Settling: the first unknown answer is asked for, and where none is unknown S grows and whatever was to be gained is gained.
-- The question's rows change no answer; the proposal has the row of each transition, among them of one that was pending.
use native.Mathlib.Decide.{ℕ_discrete}
use mathlib.Core.Path.{◌≡◌, refl, sym, ap, ◌∙◌}
use mathlib.Core.Logic.{◌≢◌, ◌⊎◌, inl, inr}
use mathlib.Core.Bool.{Bool, true, false, cond}
use mathlib.Core.List.{List, [], ◌∷◌, ◌++◌}
use mathlib.Core.Option.{Option, none, some}
use Prim.Native.Nat.{ℕ, zero, suc, ◌+◌, ◌-◌, ◌≤◌, ◌<◌}
use native.Mathlib.Omega.{arith}
use lib.Dec.{ltb, eqb}
use borrow.Author.Tests.{ltb-false, ltb-true, eqb-true, eqb-false}
use lib.ListN.{length, get_or, replicate, length-append, length-replicate, get_or-eq_default}
use Rattle.model.specs.Base.{In, here, later}
use Rattle.model.specs.Store.{Extends, has_hole, Built, Frame, Store, built, fill, filled_row, frames_of, full, used}
use Rattle.model.specs.Table.{answer_at, row_of, Tables, answer_in, size, tables}
use Rattle.model.specs.Steps.{of_states, of_rows, of_transitions, Shortage, Ended, Sought, asks, blanked, grow, none_unknown, opened, proposed, proposes, seek, seek_in, settled, settled_by, short, unknown}
use Rattle.model.specs.Facts.{IsContext, Filled, Fits, IsRecord}
use Rattle.model.specs.TableFacts.{Missing, Tidy, Open, Whole, Known, Core, Held}
use Rattle.model.proofs.Laws.Lists.{no_in, in_cons, first_in, zeros}
use Rattle.model.proofs.Laws.Rows.{hole_ext}
use Rattle.model.proofs.Laws.Fill.{fill_is, ext_refl}
use Rattle.model.proofs.Laws.Filled.{leads_filled, answers_kept}
use Rattle.model.proofs.Laws.Down.{context_fits}
use Rattle.model.proofs.Laws.Held.{answer_ext, Blank, held_ext, differ_ext, fits_ext}
use Rattle.model.proofs.Laws.Grow.{grown}
use Rattle.model.proofs.Laws.Turn.{Pending, Gain, gained, grown_held, grown_shaped}
use Rattle.model.proofs.Laws.Flags.{tidy_with}

-- SEEKING
pub data Finds (x : Store) (w cs ts : List ℕ) : Sought → Type 0 where
  all_known : ((i c : ℕ) → In i ts → In c cs → answer_in x w c i ≢ 0) → Finds x w cs ts none_unknown
  first_unknown : {c i : ℕ} → In i ts → In c cs → answer_in x w c i ≡ 0 → Finds x w cs ts (unknown c i)

row_seeks : (x : Store) (w : List ℕ) (i : ℕ) (next : Sought) (cs : List ℕ) →
    (((c : ℕ) → In c cs → answer_in x w c i ≢ 0) × (seek_in x w cs i next ≡ next)) ⊎ ((c : ℕ) × In c cs × (answer_in x w c i ≡ 0) × (seek_in x w cs i next ≡ unknown c i))
unfolding seek_in
row_seeks x w i next [] = inl ((λ c h. absurd (no_in h)), refl)
row_seeks x w i next (c ∷ cs) = go (row_seeks x w i next cs) (eqb (answer_in x w c i) 0) refl
  where
    Rest : List ℕ → Sought → Type 0
    Rest ds r = (((d : ℕ) → In d ds → answer_in x w d i ≢ 0) × (r ≡ next)) ⊎ ((d : ℕ) × In d ds × (answer_in x w d i ≡ 0) × (r ≡ unknown d i))

    go : Rest cs (seek_in x w cs i next) → (b : Bool) → eqb (answer_in x w c i) 0 ≡ b → Rest (c ∷ cs) (cond b (unknown c i) (seek_in x w cs i next))
    go r true e = inr (c, here, eqb-true (answer_in x w c i) 0 e, refl)
    go (inl r) false e = inl (in_cons {P = λ (d : ℕ). answer_in x w d i ≢ 0} (eqb-false (answer_in x w c i) 0 e) r.0, r.1)
    go (inr r) false e = inr (r.0, later r.1, r.2, r.3)

pub seek_is : (x : Store) (w cs ts : List ℕ) → Finds x w cs ts (seek x w cs ts)
unfolding seek
seek_is x w cs [] = all_known (λ i c h. absurd (no_in h))
seek_is x w cs (i ∷ ts) = go (seek x w cs ts) (seek_is x w cs ts) (row_seeks x w i (seek x w cs ts) cs)
  where
    more : (r : Sought) → ((c : ℕ) → In c cs → answer_in x w c i ≢ 0) → Finds x w cs ts r → Finds x w cs (i ∷ ts) r
    more none_unknown k (all_known f) = all_known (λ j c h d. in_cons {P = λ (j : ℕ). (c : ℕ) → In c cs → answer_in x w c j ≢ 0} k (λ l m b q. f l b m q) j h c d)
    more (unknown c j) k (first_unknown a b e) = first_unknown (later a) b e

    go : (r : Sought) → Finds x w cs ts r →
        (((c : ℕ) → In c cs → answer_in x w c i ≢ 0) × (seek_in x w cs i r ≡ r)) ⊎ ((c : ℕ) × In c cs × (answer_in x w c i ≡ 0) × (seek_in x w cs i r ≡ unknown c i)) →
        Finds x w cs (i ∷ ts) (seek_in x w cs i r)
    go r f (inl k) = rw k.1 (more r k.0 f)
    go r f (inr k) = rw k.3 (first_unknown here k.1 k.2)

-- ANSWERS of rows past the end
pub past : (w : List ℕ) (n i : ℕ) → get_or (w ++ replicate n 0) i 0 ≡ get_or w i 0
past [] n i = zeros n i
past (v ∷ w) n zero = refl
past (v ∷ w) n (suc i) = past w n i

pub blank_is : (x y : Store) (w : List ℕ) → length w ≡ used x → get_or w 0 0 ≡ 0 → Blank x w (blanked x y w)
blank_is x y w l z =
    record { first = z; new = λ i u. past w (used y - used x) i ∙ get_or-eq_default w 0 (omega arith); old = λ i u. past w (used y - used x) i }

abbrev pub Gains : Tables → ℕ → Type 0
Gains x b = Gain x.store x.answers x.s x.t x.c b

-- WHAT A STEP KEEPS: the rows and their answers
pub record Keeps (x y : Tables) : Type 0 where
  pub ext : Extends x.store y.store
  pub answers : (i : ℕ) → answer_at y.answers i ≡ answer_at x.answers i

pub keeps_blanked : (x : Tables) (y : Store) → Extends x.store y → (s t c : List ℕ) (h o : ℕ) → Keeps x (tables y (blanked x.store y x.answers) s t c h o false)
keeps_blanked x y e s t c h o = record { ext = e; answers = past x.answers (used y - used x.store) }

-- a row with an answer is a used one
pub answered_used : (x : Tables) → Core x → (i : ℕ) → answer_at x.answers i ≢ 0 → i < used x.store
answered_used x k i n = go (ltb i (used x.store)) refl
  where
    go : (b : Bool) → ltb i (used x.store) ≡ b → i < used x.store
    go true p = ltb-true i (used x.store) p
    go false p = let u = ltb-false i (used x.store) p in let l = k.counted in absurd (n (get_or-eq_default x.answers 0 (omega arith)))

-- rows with a hole stay unanswered
pub blank_keeps : (x y : Tables) → Core x → Keeps x y → ((i : ℕ) → i < used x.store → has_hole x.store i ≡ true → answer_at x.answers i ≡ 0) →
    (i : ℕ) → i < used y.store → has_hole y.store i ≡ true → answer_at y.answers i ≡ 0
blank_keeps x y k e b i u h = e.answers i ∙ go (ℕ_discrete (answer_at x.answers i) 0)
  where
    go : Dec (answer_at x.answers i ≡ 0) → answer_at x.answers i ≡ 0
    go (yes z) = z
    go (no n) = let v = answered_used x k i n in b i v (hole_ext x.store y.store k.good e.ext i v ∙ h)

-- WHAT MAY RUN SHORT in a step: rows, states and transitions, and never the search's turns (Promises/Due says when each does)
pub data ShortOk : Shortage → Type 0 where
  short_rows : ShortOk of_rows
  short_states : ShortOk of_states
  short_rules : ShortOk of_transitions

-- A QUESTION OPENED: T1 to T5 still, one unknown record open
pub record AskedEnd (x y : Tables) : Type 0 where
  pub core : Core y
  pub tidy : Tidy y
  pub keeps : Keeps x y
  pub opens : Open y
  pub same_s : y.s ≡ x.s
  pub same_t : y.t ≡ x.t
  pub same_c : y.c ≡ x.c
  pub running : y.accepted ≡ false

-- A PROPOSAL: T1 to T6, nothing missing, open or in hand
pub record ProposedEnd (x y : Tables) : Type 0 where
  pub whole : Whole y
  pub tidy : Tidy y
  pub keeps : Keeps x y
  pub same_t : y.t ≡ x.t
  pub same_c : y.c ≡ x.c
  pub idle : y.asked ≡ 0
  pub empty : y.hand ≡ 0
  pub running : y.accepted ≡ false

pub blanked_length : (x y : Store) (w : List ℕ) → length w ≡ used x → used x ≤ used y → length (blanked x y w) ≡ used y
blanked_length x y w l m = let a = length-append w (replicate (used y - used x) 0) in let b = length-replicate {A = ℕ} (used y - used x) 0 in omega arith

-- a question opened
module _ (x : Tables) (k : Core x) (fs : List Frame) (q : Fits x.store fs) (i : ℕ) (r : IsRecord x.store i) (z : get_or x.answers (filled_row x.store fs i) 0 ≡ 0)
    (j : ℕ) (y : Store) (e : fill x.store fs i ≡ built j y) where
  m : Filled x.store fs i j y
  m = fill_is fs x.store k.good q i r.within j y e

  abbrev w' : List ℕ
  w' = blanked x.store y x.answers

  b : Blank x.store x.answers w'
  b = blank_is x.store y x.answers k.counted k.first

  pub core_after : Core (tables y w' x.s x.t x.c x.hand j false)
  core_after =
      record {
        good = m.good;
        counted = blanked_length x.store y x.answers k.counted m.ext.more;
        first = past x.answers (used y - used x.store) 0 ∙ k.first;
        bound = λ n. rw (past x.answers (used y - used x.store) n) (k.bound n);
        held = held_ext x.store y k.good m.good m.ext x.answers w' b x.s x.t x.c k.held;
      }

  pub opened_open : Open (tables y w' x.s x.t x.c x.hand j false)
  opened_open =
      let g' = m.good in
      let f = leads_filled y g' fs (fits_ext x.store y k.good m.ext q) i j r.some m.leads in
      let a = answers_kept x.store y k.good g' m.ext (λ n. get_or x.answers n 0) (λ n. get_or w' n 0) k.first (b.old 0 k.good.start ∙ k.first) b.new b.old fs q i r.some r.within in
      (record { some = f.1; within = m.within; clear = m.hole ∙ r.clear }, ap (λ (n : ℕ). get_or w' n 0) (sym f.0) ∙ a ∙ z)

  pub opened_end : Tidy x → AskedEnd x (tables y w' x.s x.t x.c x.hand j false)
  opened_end d =
      let e' = keeps_blanked x y m.ext x.s x.t x.c x.hand j in
      record {
        core = core_after;
        tidy = tidy_with x d y w' m.ext.counts (blank_keeps x (tables y w' x.s x.t x.c x.hand j false) k e' d.blank) x.hand j false;
        keeps = e';
        opens = opened_open;
        same_s = refl;
        same_t = refl;
        same_c = refl;
        running = refl;
      }

  pub gains_after : (n : ℕ) → Gains x n → Gains (tables y w' x.s x.t x.c x.hand j false) n
  gains_after n g = (g.0, go g.1)
    where
      h : Held x.store x.answers x.s x.t x.c
      h = k.held

      go : (n + 1 ≤ size x) ⊎ Pending x.store x.answers x.s x.t x.c → (n + 1 ≤ size x) ⊎ Pending y w' x.s x.t x.c
      go (inl l) = inl l
      go (inr p) =
          inr (p.0, p.1, λ v a. differ_ext x.store y k.good m.good m.ext x.answers w' b x.c h.context p.0 v (h.row p.0 p.1) (h.row v (h.among v a)) (p.2 v a))

-- SETTLED: short; a question for an answer that is missing; or a proposal, in which whatever was to be gained is gained
pub data SettledOk (x : Tables) : Ended → Type 0 where
  ok_short : {n : Shortage} → ShortOk n → SettledOk x (short n)
  ok_asks : {y : Tables} → AskedEnd x y → y.hand ≡ x.hand → Missing y → ((n : ℕ) → Gains x n → Gains y n) → SettledOk x (asks y)
  ok_proposes : {y : Tables} → ProposedEnd x y → ((n : ℕ) → Gains x n → n + 1 ≤ size y) → SettledOk x (proposes y)

module _ (x : Tables) (k : Core x) (d : Tidy x) where
  h : Held x.store x.answers x.s x.t x.c
  h = k.held

  proposed_end : Known x → (s' : List ℕ) → grow (row_of x) x.s x.t ≡ some s' → ProposedEnd x (tables x.store x.answers s' x.t x.c 0 0 false)
  proposed_end n s' e =
      let gr = grown (row_of x) x.s x.t s' e in
      let l = gr.longer in
      let f = d.few_c in
      record {
        whole =
            record {
              core = record { good = k.good; counted = k.counted; first = k.first; bound = k.bound; held = grown_held x.store x.answers x.s x.t x.c s' h n e };
              known = n;
              shaped = grown_shaped x.store x.answers x.s x.t x.c s' h n e;
              hole_in = first_in x.c d.hole_first_law;
            };
        tidy =
            record {
              alphabet = d.alphabet;
              blank = d.blank;
              few_t = d.few_t;
              few_s = gr.few d.few_s;
              some_c = d.some_c;
              hole_first_law = d.hole_first_law;
              one_c = d.one_c;
              few_c = omega arith;
            };
        keeps = record { ext = ext_refl x.store; answers = λ i. refl };
        same_t = refl;
        same_c = refl;
        idle = refl;
        empty = refl;
        running = refl;
      }

  propose : Known x → (o : Option (List ℕ)) → grow (row_of x) x.s x.t ≡ o → SettledOk x (proposed x o)
  propose n none e = ok_short short_states
  propose n (some s') e = ok_proposes (proposed_end n s' e) (gained x.store x.answers x.s x.t x.c s' h n e)

  open_at : (c i : ℕ) → In i x.t → In c x.c → answer_in x.store x.answers c i ≡ 0 → (b : Built) → fill x.store (frames_of x.store c) i ≡ b → SettledOk x (opened x b)
  open_at c i a v z b e = go b e
    where
      hc : IsContext x.store c
      hc = h.context c v

      hi : IsRecord x.store i
      hi = h.row i a

      q : Fits x.store (frames_of x.store c)
      q = context_fits x.store k.good c hc.within hc.hole

      go : (b : Built) → fill x.store (frames_of x.store c) i ≡ b → SettledOk x (opened x b)
      go full e = ok_short short_rows
      go (built j y) e =
          let m = fill_is (frames_of x.store c) x.store k.good q i hi.within j y e in
          let b = blank_is x.store y x.answers k.counted k.first in
          ok_asks (opened_end x k (frames_of x.store c) q i hi z j y e d) refl
          (i, c, a, v, answer_ext x.store y k.good m.good m.ext x.answers (blanked x.store y x.answers) b c i hc hi ∙ z)
          (gains_after x k (frames_of x.store c) q i hi z j y e)

  pub settled_ok : SettledOk x (settled x)
  settled_ok = go (seek x.store x.answers x.c x.t) (seek_is x.store x.answers x.c x.t)
    where
      go : (r : Sought) → Finds x.store x.answers x.c x.t r → SettledOk x (settled_by x r)
      go none_unknown (all_known n) = propose n (grow (row_of x) x.s x.t) refl
      go (unknown c i) (first_unknown a v z) = open_at c i a v z (fill x.store (frames_of x.store c) i) refl

-- Down to a spot: its frames lead back up, fit, and the spot is innermost; and a context is its frames, to and fro.
-- Each step goes to the first child with the property, an earlier row; a context has one hole, so its frames are the only ones that lead to it.
use mathlib.Core.Path.{◌≡◌, refl, sym, ap, ◌∙◌, subst}
use mathlib.Core.Bool.{Bool, true, false, ◌||◌, true≢false, cond}
use mathlib.Core.List.{List, [], ◌∷◌, ◌++◌, map}
use Prim.Native.Nat.{ℕ, zero, suc, ◌+◌, ◌≤◌, ◌<◌}
use native.Mathlib.Omega.{arith}
use lib.Dec.{eqb}
use borrow.Author.Tests.{eqb-true}
use lib.ListN.{length, length-append}
use Rattle.model.specs.Base.{Below, any_true, count_true}
use Rattle.model.specs.Store.{down_by, Frame, Split, Spot, Store, down, down_from, fold_from, frame, frames_of, has_hole, holes_in, kids_at, nowhere, push, split_at, symbol_at, there, under, used}
use Rattle.model.specs.Facts.{Fits, FrameFits, Good, GoodRow, Leads, Link, None, fits_cons, fits_nil, none_cons, none_nil}
use Rattle.model.proofs.Laws.Tests.{neither, no_bit, clear_any}
use Rattle.model.proofs.Laws.Lists.{wider, below_split}
use Rattle.model.proofs.Laws.Fold.{earlier, hole_eq}
use Rattle.model.proofs.Laws.Fill.{ones_filled, link_hole}
use Rattle.model.proofs.Laws.Filled.{link_some}

-- what a split says of the list
pub data Splits (p : ℕ → Bool) : List ℕ → Split → Type 0 where
  no_one : {ks : List ℕ} → None p ks → Splits p ks nowhere
  at_one : {bs : List ℕ} {k : ℕ} {cs : List ℕ} → None p bs → p k ≡ true → Splits p (bs ++ (k ∷ cs)) (there bs k cs)

pub split_is : (p : ℕ → Bool) (ks : List ℕ) → Splits p ks (split_at p ks)
unfolding split_at
split_is p [] = no_one none_nil
split_is p (k ∷ ks) = go (p k) refl ks (split_at p ks) (split_is p ks)
  where
    go : (b : Bool) → p k ≡ b → (ls : List ℕ) (s : Split) → Splits p ls s → Splits p (k ∷ ls) (cond b (there [] k ls) (push k s))
    go true e ls s h = at_one none_nil e
    go false e ls nowhere (no_one n) = no_one (none_cons e n)
    go false e ls (there bs m cs) (at_one n t) = at_one (none_cons e n) t

pub split_at_law : (p : ℕ → Bool) {bs : List ℕ} (k : ℕ) (cs : List ℕ) → None p bs → p k ≡ true → split_at p (bs ++ (k ∷ cs)) ≡ there bs k cs
unfolding split_at
split_at_law p k cs none_nil e = rw e
split_at_law p k cs (none_cons {k = b} {ks = bs} n ns) e = rw (n, split_at_law p k cs ns e)

-- what going down gives
pub record Found (p : ℕ → Bool) (x : Store) (i : ℕ) (s : Spot) : Type 0 where
  pub leads : Leads x s.around s.row i
  pub inner : None p (kids_at x s.row)
  pub within : s.row < used x
  pub has : p i ≡ true → p s.row ≡ true

module _ (p : ℕ → Bool) (x : Store) (g : Good x) where
  pub down_is : (n i : ℕ) → i < used x → i < n → Found p x i (down_from p n x i)
  unfolding down_from Leads
  down_is zero i u l = absurd (omega arith)
  down_is (suc n) i u l = go (λ k b. down_is n k (omega arith) (omega arith)) (kids_at x i) refl (split_at p (kids_at x i)) (split_is p (kids_at x i))
    where
      go : ((k : ℕ) → k < i → Found p x k (down_from p n x k)) → (ks : List ℕ) → kids_at x i ≡ ks → (s : Split) → Splits p ks s →
          Found p x i (down_by (down_from p n x) i (symbol_at x i) s)
      go ih ks e nowhere (no_one h) = record { leads = refl; inner = rw e h; within = u; has = λ t. t }
      go ih ks e (there bs k cs) (at_one h t) =
          let b = below_split i bs k cs (rw e at (earlier x g i u)) in
          let f = ih k b.1 in
          record {
            leads = (k, f.leads, record { within = u; head = refl; tail = e });
            inner = f.inner;
            within = f.within;
            has = λ w. f.has t;
          }

  -- fuel past the row's number makes no difference
  pub down_fuel : (n m i : ℕ) → i < used x → i < n → i < m → down_from p n x i ≡ down_from p m x i
  unfolding down_from
  down_fuel zero m i u a b = absurd (omega arith)
  down_fuel (suc n) zero i u a b = absurd (omega arith)
  down_fuel (suc n) (suc m) i u a b = go (λ k l. down_fuel n m k (omega arith) (omega arith) (omega arith)) (kids_at x i) (earlier x g i u) (split_at p (kids_at x i)) (split_is p (kids_at x i))
    where
      go : ((k : ℕ) → k < i → down_from p n x k ≡ down_from p m x k) → (ks : List ℕ) → Below i ks → (s : Split) → Splits p ks s →
          down_by (down_from p n x) i (symbol_at x i) s ≡ down_by (down_from p m x) i (symbol_at x i) s
      go ih ks b nowhere (no_one h) = refl
      go ih ks b (there bs k cs) (at_one h t) = ap (under (frame (symbol_at x i) bs cs)) (ih k (below_split i bs k cs b).1)

-- clear frames: of a context, and of a record
pub none_clear : (x : Store) {ks : List ℕ} → None (has_hole x) ks → holes_in x ks ≡ 0
unfolding count_true
none_clear x none_nil = refl
none_clear x (none_cons e n) = rw e (let r = none_clear x n in omega arith)

pub clear_none : (x : Store) (ks : List ℕ) → holes_in x ks ≡ 0 → None (has_hole x) ks
unfolding count_true
clear_none x [] e = none_nil
clear_none x (k ∷ ks) e = go (clear_none x ks) (has_hole x k) refl e
  where
    go : (holes_in x ks ≡ 0 → None (has_hole x) ks) → (b : Bool) → has_hole x k ≡ b → cond b 1 0 + holes_in x ks ≡ 0 → None (has_hole x) (k ∷ ks)
    go ih true r s = absurd (omega arith)
    go ih false r s = none_cons r (ih (omega arith))

-- row 0 has a hole, so a row without one is another
pub hole_has : (x : Store) → has_hole x 0 ≡ true
unfolding fold_from
hole_has x = refl

pub clear_some : (x : Store) (i : ℕ) → has_hole x i ≡ false → 0 < i
clear_some x zero e = absurd (true≢false (sym (hole_has x) ∙ e))
clear_some x (suc i) e = omega arith

-- the frame around a child fits where its siblings have no hole
split_frame : (x : Store) → Good x → (i : ℕ) → 0 < i → i < used x → (bs : List ℕ) (k : ℕ) (cs : List ℕ) → kids_at x i ≡ bs ++ (k ∷ cs) → holes_in x bs ≡ 0 → holes_in x cs ≡ 0 →
    FrameFits x (frame (symbol_at x i) bs cs)
split_frame x g i z u bs k cs e p q =
    let r = g.row i z u in
    let b = below_split i bs k cs (rw e at r.below) in
    record {
      known = r.known;
      arity = sym (length-append bs (k ∷ cs)) ∙ ap length (sym e) ∙ r.arity;
      left = wider {n = i} (omega arith) b.0;
      right = wider {n = i} (omega arith) b.2;
      clear = (p, q);
    }

-- a context's frames fit, and lead from the hole to it
fits_context : (x : Store) → Good x → (n i : ℕ) → i < used x → i < n → has_hole x i ≡ true → Fits x (down_from (has_hole x) n x i).around
unfolding down_from
fits_context x g zero i u l h = absurd (omega arith)
fits_context x g (suc n) zero u l h = go (kids_at x 0) (earlier x g 0 u) (split_at (has_hole x) (kids_at x 0)) (split_is (has_hole x) (kids_at x 0))
  where
    go : (ks : List ℕ) → Below 0 ks → (s : Split) → Splits (has_hole x) ks s → Fits x (down_by (down_from (has_hole x) n x) 0 (symbol_at x 0) s).around
    go ks b nowhere (no_one q) = fits_nil
    go ks b (there bs k cs) (at_one q t) = let r = (below_split 0 bs k cs b).1 in absurd (omega arith)
fits_context x g (suc n) (suc i) u l h =
    go (λ k b t. fits_context x g n k (omega arith) (omega arith) t) (kids_at x (suc i)) refl (split_at (has_hole x) (kids_at x (suc i))) (split_is (has_hole x) (kids_at x (suc i)))
  where
    r : GoodRow x (suc i)
    r = g.row (suc i) (omega arith) u

    go : ((k : ℕ) → k < suc i → has_hole x k ≡ true → Fits x (down_from (has_hole x) n x k).around) → (ks : List ℕ) → kids_at x (suc i) ≡ ks → (s : Split) → Splits (has_hole x) ks s →
        Fits x (down_by (down_from (has_hole x) n x) (suc i) (symbol_at x (suc i)) s).around
    go ih ks e nowhere (no_one q) = fits_nil
    go ih ks e (there bs k cs) (at_one q t) =
        let b = below_split (suc i) bs k cs (rw e at r.below) in
        let o : holes_in x (bs ++ (k ∷ cs)) ≡ holes_in x bs + (1 + holes_in x cs) = ones_filled x (frame (symbol_at x (suc i)) bs cs) k ∙ rw t in
        let a = none_clear x q in
        let m : holes_in x (bs ++ (k ∷ cs)) ≤ 1 = rw (← e) r.holes in
        fits_cons (split_frame x g (suc i) (omega arith) u bs k cs e a (omega arith)) (ih k b.1 t)

pub context_fits : (x : Store) → Good x → (c : ℕ) → c < used x → has_hole x c ≡ true → Fits x (frames_of x c)
context_fits x g c u h = fits_context x g (suc c) c u (omega arith) h

-- its spot is row 0
any_none : (x : Store) {ks : List ℕ} → None (has_hole x) ks → any_true (map (has_hole x) ks) ≡ false
unfolding any_true
any_none x none_nil = refl
any_none x (none_cons e n) = rw (e, any_none x n)

pub context_leads : (x : Store) → Good x → (c : ℕ) → c < used x → has_hole x c ≡ true → Leads x (frames_of x c) 0 c
context_leads x g c u h = go (down (has_hole x) x c) (down_is (has_hole x) x g (suc c) c u (omega arith))
  where
    go : (s : Spot) → Found (has_hole x) x c s → Leads x s.around 0 c
    go s f =
        let t = f.has h in
        let e = hole_eq x (earlier x g) s.row f.within in
        let n = any_none x f.inner in
        let z : s.row ≡ 0 = zero_by (eqb s.row 0) refl (sym t ∙ e ∙ ap (λ (b : Bool). eqb s.row 0 || b) n) in
        subst (λ (i : ℕ). Leads x s.around i c) z f.leads
      where
        zero_by : (b : Bool) → eqb s.row 0 ≡ b → true ≡ b || false → s.row ≡ 0
        zero_by true q w = eqb-true s.row 0 q
        zero_by false q w = absurd (true≢false w)

-- A RECORD'S frames fit, down to whatever row
pub clear_kids : (x : Store) → Good x → (i : ℕ) → i < used x → has_hole x i ≡ false → holes_in x (kids_at x i) ≡ 0
clear_kids x g i u h = clear_any (map (has_hole x) (kids_at x i)) (neither (eqb i 0) (any_true (map (has_hole x) (kids_at x i))) (sym (hole_eq x (earlier x g) i u) ∙ h)).1

pub fits_record : (p : ℕ → Bool) (x : Store) → Good x → (n i : ℕ) → i < used x → i < n → has_hole x i ≡ false → Fits x (down_from p n x i).around
unfolding down_from
fits_record p x g zero i u l h = absurd (omega arith)
fits_record p x g (suc n) i u l h = go (λ k b t. fits_record p x g n k (omega arith) (omega arith) t) (kids_at x i) refl (split_at p (kids_at x i)) (split_is p (kids_at x i))
  where
    go : ((k : ℕ) → k < i → has_hole x k ≡ false → Fits x (down_from p n x k).around) → (ks : List ℕ) → kids_at x i ≡ ks → (s : Split) → Splits p ks s →
        Fits x (down_by (down_from p n x) i (symbol_at x i) s).around
    go ih ks e nowhere (no_one q) = fits_nil
    go ih ks e (there bs k cs) (at_one q t) =
        let b = below_split i bs k cs (rw e at (earlier x g i u)) in
        let o = ones_filled x (frame (symbol_at x i) bs cs) k in
        let m : holes_in x (bs ++ (k ∷ cs)) ≡ 0 = ap (holes_in x) (sym e) ∙ clear_kids x g i u h in
        fits_cons (split_frame x g i (clear_some x i h) u bs k cs e (omega arith) (omega arith)) (ih k b.1 (no_bit (has_hole x k) (omega arith)))

-- ROUND TRIP: frames that lead from the hole to a row are that row's frames
pub lead_hole : (x : Store) → Good x → (fs : List Frame) → Fits x fs → (i j : ℕ) → Leads x fs i j → has_hole x j ≡ has_hole x i
unfolding Leads
lead_hole x g [] q i j l = ap (has_hole x) (sym l)
lead_hole x g (f ∷ fs) (fits_cons q qs) i j l = link_hole x g f q l.0 j (link_some x g f q l.0 j l.2) l.2 ∙ lead_hole x g fs qs i l.0 l.1

pub round_trip : (x : Store) → Good x → (fs : List Frame) → Fits x fs → (c : ℕ) → c < used x → Leads x fs 0 c → frames_of x c ≡ fs
unfolding Leads down_from
round_trip x g [] q c u l = go (kids_at x c) (rw (← l) (earlier x g 0 g.start)) (split_at (has_hole x) (kids_at x c)) (split_is (has_hole x) (kids_at x c))
  where
    go : (ks : List ℕ) → Below 0 ks → (s : Split) → Splits (has_hole x) ks s → (down_by (down_from (has_hole x) c x) c (symbol_at x c) s).around ≡ []
    go ks b nowhere (no_one w) = refl
    go ks b (there bs k cs) (at_one w t) = let r = (below_split 0 bs k cs b).1 in absurd (omega arith)
round_trip x g (f ∷ fs) (fits_cons q qs) c u l =
    let k : ℕ = l.0 in
    let w : Link x f k c = l.2 in
    let b = below_split c f.before k f.behind (rw w.tail at (earlier x g c u)) in
    let ih = round_trip x g fs qs k (omega (arith, b.1)) l.1 in
    let h : has_hole x k ≡ true = lead_hole x g fs qs 0 k l.1 ∙ hole_has x in
    let s : split_at (has_hole x) (kids_at x c) ≡ there f.before k f.behind =
    ap (split_at (has_hole x)) w.tail ∙ split_at_law (has_hole x) k f.behind (clear_none x f.before q.clear.0) h in
    let e = down_fuel (has_hole x) x g c (suc k) k (omega (arith, b.1)) b.1 (omega arith) in
    ap (λ (v : Split). (down_by (down_from (has_hole x) c x) c (symbol_at x c) v).around) s ∙
    ap (λ (v : Spot). frame (symbol_at x c) f.before f.behind ∷ v.around) e ∙
    ap (λ (a : ℕ). frame a f.before f.behind ∷ frames_of x k) w.head ∙ ap (λ (r : List Frame). f ∷ r) ih

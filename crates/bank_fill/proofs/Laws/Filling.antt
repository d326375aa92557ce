-- Filling along an array of places: how the fill from the child ended, the row above put, and how that ends.
-- The store built so far extends the first, so rows and frames of the first stand in it as they were.
use mathlib.Core.Path.{◌≡◌, refl, sym, ap, subst, ◌∙◌}
use mathlib.Core.List.{List, ◌∷◌}
use Prim.Native.Nat.{ℕ, suc, ◌-◌, ◌<◌}
use native.Mathlib.Omega.{arith}
use lib.ListN.{get_or, set, take, drop}
use Rattle.model.specs.Store.{Store, Frame, frame, Built, full, built, used, symbol_at, kids_at, filled_kids, row_for, then_build, fill}
use Rattle.model.specs.Facts.{Good, FrameFits, Fits, Filled}
use Rattle.model.specs.Entry.{store_of}
use Rattle.model.proofs.Laws.Rows.{kids_ext, symbol_ext}
use Rattle.model.proofs.Laws.Fill.{fill_is, frame_ext, frame_asks}
use Rattle.bank.specs.Rows.{symbol_in, kid_in, places_in}
use Rattle.bank.specs.Bank.{Bank, Lent, frame_at, path_of}
use Rattle.bank.proofs.Laws.Words.{used_of}
use Rattle.bank.proofs.Laws.Children.{bank_stored, row_beyond, row_kid}
use Rattle.std.specs.Prelude.{Option, None}
use Rattle.bank_fill.specs.declared.add.Added.{Added}
use Rattle.bank_fill.specs.Adding.{added_row, hole_above, Put, FramesAsked}
use Rattle.bank_fill.proofs.Laws.Coming.{Comes, comes_by, comes_same, comes_row, Stage, stage, not_full}
use Rattle.bank_fill.proofs.Laws.Adding.{lent_of}
use Rattle.bank_fill.proofs.Laws.Above.{frame_place, frame_four, above_comes}
use Rattle.bank_fill.proofs.Laws.Paths.{fits_head, fits_tail, path_none, path_step, kid_before}

-- the store that some frames were filled into
pub record Reached (ws ns : List ℕ) (n : ℕ) (fs : List Frame) (i j u : ℕ) (ws' xs : List ℕ) : Type 0 where
  pub y : Store
  pub is : fill (store_of ws ns n) fs i ≡ built j y
  pub filled : Filled (store_of ws ns n) fs i j y
  pub stands : Stage ws ns n j y u ws' xs

pub reached : (ws ns : List ℕ) (n : ℕ) (fs : List Frame) (i : ℕ) → Good (store_of ws ns n) → Fits (store_of ws ns n) fs → i < n →
    {j u : ℕ} {ws' xs : List ℕ} → Comes ws ns n (fill (store_of ws ns n) fs i) (added_row j u) ws' xs → Reached ws ns n fs i j u ws' xs
reached ws ns n fs i g q l {j} {u} {ws'} {xs} c = go (fill (store_of ws ns n) fs i) refl c
  where
    go : (b : Built) → fill (store_of ws ns n) fs i ≡ b → Comes ws ns n b (added_row j u) ws' xs → Reached ws ns n fs i j u ws' xs
    go full e d = absurd (not_full d)
    go (built k y) e d =
        let f = fill_is fs (store_of ws ns n) g q i (omega (arith, used_of ws ns n)) k y e in
        let s = stage ws ns n y f.ext f.good d in
        let p = sym s.0 in
        record {
          y = y;
          is = e ∙ ap (λ (t : ℕ). built t y) p;
          filled = subst (λ (t : ℕ). Filled (store_of ws ns n) fs i t y) p f;
          stands = s.1;
        }

-- THE ROW ABOVE: row `row` of the first store with the filled row at place k
module _ {ws ns : List ℕ} {n : ℕ} {fs : List Frame} {i j u : ℕ} {ws' xs : List ℕ} (g : Good (store_of ws ns n)) (d : Reached ws ns n fs i j u ws' xs)
    (row k : ℕ) (l : row < n) (q : FrameFits (store_of ws ns n) (frame_at (store_of ws ns n) row k)) where
  frame_same : frame_at (store_of ws ns n) row k ≡ frame_at d.y row k
  frame_same =
      let v : row < used (store_of ws ns n) = omega (arith, used_of ws ns n) in
      let e = d.filled.ext in
      ap (λ (a : ℕ). frame a (take k (kids_at (store_of ws ns n) row)) (drop (suc k) (kids_at (store_of ws ns n) row))) (symbol_ext (store_of ws ns n) d.y e row v) ∙
      ap (λ (ks : List ℕ). frame (symbol_at d.y row) (take k ks) (drop (suc k) ks)) (kids_ext (store_of ws ns n) d.y e row v)

  store_same : frame_at (store_of ws' ns u) row k ≡ frame_at (store_of ws ns n) row k
  store_same = ap (λ (x : Store). frame_at x row k) d.stands.store ∙ sym frame_same

  fit_y : FrameFits d.y (frame_at (store_of ws ns n) row k)
  fit_y = frame_ext (store_of ws ns n) d.y g d.filled.ext (frame_at (store_of ws ns n) row k) q

  next_fits : FrameFits (store_of ws' ns u) (frame_at (store_of ws' ns u) row k)
  next_fits =
      subst (λ (f : Frame). FrameFits (store_of ws' ns u) f) (sym store_same)
      (subst (λ (x : Store). FrameFits x (frame_at (store_of ws ns n) row k)) (sym d.stands.store) fit_y)

  next_row : row < u
  next_row = let a = d.filled.ext.more in let b = d.stands.count in omega (arith, used_of ws ns n)

  next_kid : j < u
  next_kid = let a = d.filled.within in let b = d.stands.count in omega arith

  next_comes : {r : Option Added} {vs xs' : List ℕ} →
      Comes ws' ns u (row_for (store_of ws' ns u) (symbol_at (store_of ws' ns u) row) (filled_kids (frame_at (store_of ws' ns u) row k) j)) r vs xs' →
      Comes ws ns n (fill (store_of ws ns n) (frame_at (store_of ws ns n) row k ∷ fs) i) r vs xs'
  unfolding fill
  next_comes c =
      let f : Frame = frame_at (store_of ws ns n) row k in
      let a = frame_asks d.y d.filled.good f fit_y j d.filled.within in
      let e : row_for (store_of ws' ns u) f.symbol (filled_kids f j) ≡ row_for (store_of ws' ns u) (symbol_at (store_of ws' ns u) row) (filled_kids (frame_at (store_of ws' ns u) row k) j) =
      ap (λ (h : Frame). row_for (store_of ws' ns u) h.symbol (filled_kids h j)) (sym store_same) in
      comes_by (ap (λ (b : Built). then_build b (λ (t : ℕ) (z : Store). row_for z f.symbol (filled_kids f t))) d.is)
      (comes_row ws ns n d.y d.filled.ext d.filled.good d.stands f.symbol (filled_kids f j) a (comes_by e c))

-- ROWS RAN OUT: one fill is full where another is, and the first rows are kept
full_on : {ws ns : List ℕ} {n : ℕ} {b c : Built} {vs xs : List ℕ} → (b ≡ full → c ≡ full) → Comes ws ns n b None vs xs → Comes ws ns n c None vs xs
full_on {ws} {ns} {n} {b} {c} {vs} {xs} f d = go b refl d
  where
    go : (a : Built) → b ≡ a → Comes ws ns n a None vs xs → Comes ws ns n c None vs xs
    go full e k = comes_by (f e) (record { came = k.came })
    go (built i y) e k = let p = k.came.0 in let z : ◌≡◌ {A = ℕ} 0 1 = cc in absurd (omega arith)

-- NO FRAME: a row whose entry names no place
pub fill_none : {ws ns : List ℕ} {n : ℕ} {xs : List ℕ} → Bank ws ns n xs → (ds : List ℕ) (row i : ℕ) → get_or ds row 0 ≡ 0 →
    Comes ws ns n (fill (store_of ws ns n) (path_of ds (store_of ws ns n) row) i) (added_row i n) ws xs
unfolding fill
fill_none {ws} {ns} {n} r ds row i e = comes_by (ap (λ (fs : List Frame). fill (store_of ws ns n) fs i) (path_none ds (store_of ws ns n) r.good row e)) (comes_same r i)

-- FRAMES from a row whose entry names a place, which is that of a child
module _ {ws ns : List ℕ} {n : ℕ} {xs ds : List ℕ} {row i : ℕ} (q : FramesAsked ws ns n xs ds row i) where
  low : row < used (store_of ws ns n)
  low = omega (arith, used_of ws ns n, q.row_used)

  step : path_of ds (store_of ws ns n) row ≡ frame_at (store_of ws ns n) row (get_or ds row 0 - 1) ∷ path_of ds (store_of ws ns n) (get_or (kids_at (store_of ws ns n) row) (get_or ds row 0 - 1) 0)
  step = path_step ds (store_of ws ns n) q.bank.good row low q.named q.fits

  both : Fits (store_of ws ns n) (frame_at (store_of ws ns n) row (get_or ds row 0 - 1) ∷ path_of ds (store_of ws ns n) (get_or (kids_at (store_of ws ns n) row) (get_or ds row 0 - 1) 0))
  both = subst (λ (fs : List Frame). Fits (store_of ws ns n) fs) step q.fits

  frame_fits : FrameFits (store_of ws ns n) (frame_at (store_of ws ns n) row (get_or ds row 0 - 1))
  frame_fits = fits_head both

  pub down_four : get_or ds row 0 - 1 < 4
  down_four = frame_four (store_of ws ns n) q.bank.good row (get_or ds row 0 - 1) low frame_fits

  module _ (kid : ℕ) (e : kid ≡ kid_in ws row (get_or ds row 0 - 1)) where
    kid_is : kid ≡ get_or (kids_at (store_of ws ns n) row) (get_or ds row 0 - 1) 0
    kid_is =
        let b = bank_stored q.bank in
        let k = frame_place (store_of ws ns n) q.bank.good row (get_or ds row 0 - 1) low frame_fits in
        e ∙ row_kid b row q.row_used (row_beyond b row q.row_used (get_or ds row 0 - 1) k) (get_or ds row 0 - 1) k

    pub down_falls : kid < row
    down_falls = let k = kid_before ds (store_of ws ns n) q.bank.good row (get_or ds row 0 - 1) low frame_fits in omega (arith, kid_is)

    kid_fits : Fits (store_of ws ns n) (path_of ds (store_of ws ns n) kid)
    kid_fits = subst (λ (k : ℕ). Fits (store_of ws ns n) (path_of ds (store_of ws ns n) k)) (sym kid_is) (fits_tail both)

    pub down_asked : (get_or ds kid 0 ≡ 0 → ⊥) → FramesAsked ws ns n xs ds kid i
    down_asked z =
        record {
          bank = q.bank;
          places_long = q.places_long;
          row_used = omega (arith, down_falls, q.row_used);
          with_used = q.with_used;
          named = z;
          fits = kid_fits;
        }

    path_is : path_of ds (store_of ws ns n) row ≡ frame_at (store_of ws ns n) row (get_or ds row 0 - 1) ∷ path_of ds (store_of ws ns n) kid
    path_is = step ∙ ap (λ (k : ℕ). frame_at (store_of ws ns n) row (get_or ds row 0 - 1) ∷ path_of ds (store_of ws ns n) k) (sym kid_is)

    -- rows ran out inside
    full_above : fill (store_of ws ns n) (path_of ds (store_of ws ns n) kid) i ≡ full → fill (store_of ws ns n) (path_of ds (store_of ws ns n) row) i ≡ full
    unfolding fill
    full_above p =
        let h : Frame = frame_at (store_of ws ns n) row (get_or ds row 0 - 1) in
        ap (λ (fs : List Frame). fill (store_of ws ns n) fs i) path_is ∙ ap (λ (b : Built). then_build b (λ (j : ℕ) (y : Store). row_for y h.symbol (filled_kids h j))) p

    pub up_full : {vs xs' : List ℕ} → Comes ws ns n (fill (store_of ws ns n) (path_of ds (store_of ws ns n) kid) i) None vs xs' →
        Comes ws ns n (fill (store_of ws ns n) (path_of ds (store_of ws ns n) row) i) None vs xs'
    up_full c = full_on full_above c

    -- what is below gave a row: the row above put
    module _ {j u : ℕ} {ws' xs' : List ℕ} (c : Comes ws ns n (fill (store_of ws ns n) (path_of ds (store_of ws ns n) kid) i) (added_row j u) ws' xs') where
      inside : Reached ws ns n (path_of ds (store_of ws ns n) kid) i j u ws' xs'
      inside = reached ws ns n (path_of ds (store_of ws ns n) kid) i q.bank.good kid_fits q.with_used c

      pub up_lent : Lent ws' u xs'
      up_lent = lent_of inside.stands.bank

      pub up_row : row < u
      up_row = next_row q.bank.good inside row (get_or ds row 0 - 1) q.row_used frame_fits

      pub up_kid : j < u
      up_kid = next_kid q.bank.good inside row (get_or ds row 0 - 1) q.row_used frame_fits

      pub up_comes : {r : Option Added} {vs xs'' : List ℕ} →
          Put ws' u xs' (symbol_in ws' row) (set (places_in ws' row) (get_or ds row 0 - 1) j) (hole_above xs' j (get_or ds row 0 - 1)) r vs xs'' →
          Comes ws ns n (fill (store_of ws ns n) (path_of ds (store_of ws ns n) row) i) r vs xs''
      up_comes p =
          comes_by (ap (λ (fs : List Frame). fill (store_of ws ns n) fs i) path_is)
          (next_comes q.bank.good inside row (get_or ds row 0 - 1) q.row_used frame_fits
          (above_comes inside.stands.bank row (get_or ds row 0 - 1) j up_row up_kid (next_fits q.bank.good inside row (get_or ds row 0 - 1) q.row_used frame_fits) p))

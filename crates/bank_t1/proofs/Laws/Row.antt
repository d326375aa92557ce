-- A row as the pass judges it: the marks of holes before it, its children, its node and its answer, against T1's tests of a row (§2.3).
-- Where the children are earlier rows, the marks say of them what the store does.
use mathlib.Core.Path.{◌≡◌, refl, sym, ap, ◌∙◌}
use mathlib.Core.Bool.{Bool, true, false, ◌&&◌, ◌||◌, not, cond}
use mathlib.Core.List.{List, [], ◌∷◌, map}
use Prim.Native.Nat.{ℕ, zero, suc, ◌+◌, ◌≤◌, ◌<◌}
use native.Mathlib.Omega.{arith}
use lib.Dec.{ltb, leb, eqb}
use borrow.Author.Tests.{lt-ltb, le-ltb, le-leb, lt-leb, eq-eqb, ne_eqb}
use lib.ListN.{length, get_or, take}
use Rattle.model.specs.Base.{Below, none_below, one_below, all, same, any_true, count_true}
use Rattle.model.specs.Store.{Store, padded, node_at, symbol_at, kids_at, has_hole, holes_in}
use Rattle.model.specs.Table.{answer_at}
use Rattle.model.specs.Sound.{node_fits, answer_fits}
use Rattle.model.specs.Entry.{store_of, answers_in}
use Rattle.model.proofs.Laws.Lists.{map_below}
use Rattle.model.proofs.Laws.FirstRows.{FirstEarlier, hole_first_law}
use Rattle.model.proofs.Laws.ReflectRows.{below_of}
use Rattle.model.proofs.Laws.Tests.{both_true, by_equal}
use Rattle.bank.specs.Rows.{symbol_in, answer_in, places_in}
use Rattle.bank.specs.Bank.{one_further, place_code, Holed}
use Rattle.bank_t1.specs.Pass.{hole_by, unused_zero, kids_say, kids_in, row_says, Reached}
use Rattle.std.proofs.Common.{Option, Some, None}
use Rattle.bank.proofs.Laws.Words.{symbol_in_law, places_in_law, kids_in_law, answer_in_law}
use Rattle.bank_t1.proofs.Laws.Kids.{pads, and_false, kids_say_law}

-- MARKS: one other than 0 says that a child has a hole
pub code_any : (p : ℕ → Bool) (ks : List ℕ) → not (eqb (place_code p ks) 0) ≡ any_true (map p ks)
unfolding place_code any_true
code_any p [] = refl
code_any p (k ∷ ks) = go (p k) (place_code p ks) (code_any p ks)
  where
    go : (b : Bool) (m : ℕ) → not (eqb m 0) ≡ any_true (map p ks) → not (eqb (cond b 1 (one_further m)) 0) ≡ (b || any_true (map p ks))
    go true m h = refl
    go false zero h = h
    go false (suc m) h = ap not (ne_eqb (suc (suc m)) 0 (λ e. omega arith) ∙ sym (ne_eqb (suc m) 0 (λ e. omega arith))) ∙ h

pub code_below : (p q : ℕ → Bool) (i : ℕ) → ((j : ℕ) → j < i → p j ≡ q j) → {ks : List ℕ} → Below i ks → place_code p ks ≡ place_code q ks
unfolding place_code
code_below p q i e none_below = refl
code_below p q i e (one_below {k = k} l b) =
    let f = e k l in
    let g = code_below p q i e b in
    λ t. cond (f t) 1 (one_further (g t))

-- those of the first rows are right
pub mark_is : (x : Store) (hs : List ℕ) (m : ℕ) → FirstEarlier x m → Holed x hs m → (j : ℕ) → j < m → hole_by hs j ≡ has_hole x j
mark_is x hs m w h j l =
    ap (λ (c : ℕ). eqb j 0 || not (eqb c 0)) (h j l) ∙ ap (λ (b : Bool). eqb j 0 || b) (code_any (has_hole x) (kids_at x j)) ∙ sym (hole_first_law x m w j l)

-- THE CHILDREN of row i, by marks that are right before it
module _ (x : Store) (ws hs : List ℕ) (i n : ℕ) (marks : (j : ℕ) → j < i → hole_by hs j ≡ has_hole x j) where
  abbrev kids : List ℕ
  kids = take n (places_in ws i)

  abbrev early : Bool
  early = all (λ (j : ℕ). ltb j i) kids

  kids_mean : kids_in ws hs i n ≡ cond ((unused_zero ws i n && early) && leb (holes_in x kids) 1) (Some (place_code (has_hole x) kids)) None
  kids_mean = go (unused_zero ws i n) early refl
    where
      go : (u b : Bool) → early ≡ b →
          cond u (kids_say (hole_by hs) i 0 0 kids) None ≡ cond ((u && b) && leb (holes_in x kids) 1) (Some (place_code (has_hole x) kids)) None
      go false b e = refl
      go true false e =
          kids_say_law (hole_by hs) i kids ∙
          ap (λ (b : Bool). cond (b && leb (count_true (map (hole_by hs) kids)) 1) (Some (place_code (hole_by hs) kids)) None) e
      go true true e =
          let b = below_of i kids e in
          let c = map_below (hole_by hs) (has_hole x) i marks b in
          let d = code_below (hole_by hs) (has_hole x) i marks b in
          kids_say_law (hole_by hs) i kids ∙ (λ t. cond (e t && leb (count_true (c t)) 1) (Some (d t)) None)

-- what was told, read back
pub told_broken : (b : Bool) (c : ℕ) → None ≡ cond b (Some c) None → b ≡ false
told_broken true c e = let z : ◌≡◌ {A = ℕ} 0 1 = cc in absurd (omega arith)
told_broken false c e = refl

pub told_hole : (b : Bool) (c h : ℕ) → Some h ≡ cond b (Some c) None → (b ≡ true) × (h ≡ c)
told_hole true c h e = (refl, cc)
told_hole false c h e = let z : ◌≡◌ {A = ℕ} 0 1 = cc in absurd (omega arith)

or_true : (a : Bool) → a || true ≡ true
or_true true = refl
or_true false = refl

not_not : (a : Bool) → not (not a) ≡ a
not_not true = refl
not_not false = refl

-- ROW i, reached
module _ {ws ns : List ℕ} {n : ℕ} {hs : List ℕ} {i : ℕ} (r : Reached ws ns n hs i) (u : i < n) where
  abbrev x : Store
  x = store_of ws ns n

  abbrev count : ℕ
  count = get_or ns (symbol_in ws i) 0

  abbrev kids_read : List ℕ
  kids_read = take (get_or ns (symbol_in ws i) 0) (places_in ws i)

  abbrev code : ℕ
  code = place_code (has_hole (store_of ws ns n)) (kids_at (store_of ws ns n) i)

  pub small : get_or ns (symbol_in ws i) 0 ≤ 4
  small = r.wide (symbol_in ws i)

  kids_are : kids_at (store_of ws ns n) i ≡ take (get_or ns (symbol_in ws i) 0) (places_in ws i)
  kids_are = kids_in_law ws ns n i u r.room

  -- its node, with the symbol's test apart
  abbrev node_test : (known : Bool) → Bool
  node_test b = ((b && unused_zero ws i count) && all (λ (j : ℕ). ltb j i) kids_read) && leb (holes_in x kids_read) 1

  node_test_law : node_fits (store_of ws ns n) i ≡ node_test (ltb (symbol_in ws i) (length ns))
  node_test_law =
      let a = symbol_in_law ws ns n i u in
      let p = places_in_law ws ns n i u r.room in
      let k = kids_are in
      (λ t. ((ltb (a t) (length ns) && same (p t) (padded (k t))) && all (λ (j : ℕ). ltb j i) (k t)) && leb (holes_in x (k t)) 1) ∙
      ap (λ (b : Bool). ((ltb (symbol_in ws i) (length ns) && b) && all (λ (j : ℕ). ltb j i) kids_read) && leb (holes_in x kids_read) 1) (pads ws i count small)

  kids_tell : symbol_in ws i < length ns → kids_in ws hs i (get_or ns (symbol_in ws i) 0) ≡ cond (node_fits (store_of ws ns n) i) (Some code) None
  kids_tell l =
      let e = node_test_law ∙ ap node_test (lt-ltb (symbol_in ws i) (length ns) l) in
      kids_mean x ws hs i count (mark_is x hs i r.earlier r.holed) ∙ sym (λ t. cond (e t) (Some (place_code (has_hole x) (kids_are t))) None)

  -- with it the first rows are one more
  abbrev node_head : Bool
  node_head = ltb (symbol_at (store_of ws ns n) i) (length ns) && same (node_at (store_of ws ns n) i).kids (padded (kids_at (store_of ws ns n) i))

  pub earlier_more : node_fits (store_of ws ns n) i ≡ true → FirstEarlier (store_of ws ns n) (i + 1)
  earlier_more e j l =
      let p = both_true (node_head && all (λ (m : ℕ). ltb m i) (kids_at x i)) (leb (holes_in x (kids_at x i)) 1) e in
      let q = both_true node_head (all (λ (m : ℕ). ltb m i) (kids_at x i)) p.0 in
      by_equal j i (λ s. rw s (below_of i (kids_at x i) q.1)) (λ s. r.earlier j (omega arith))

  hole_is : node_fits (store_of ws ns n) i ≡ true → has_hole (store_of ws ns n) i ≡ not (eqb code 0)
  hole_is e =
      let z = r.some in
      hole_first_law x (i + 1) (earlier_more e) i (omega arith) ∙ (λ t. ne_eqb i 0 (λ s. omega arith) t || sym (code_any (has_hole x) (kids_at x i)) t)

  -- its answer
  answer_is : answer_at (answers_in n ws) i ≡ answer_in ws i
  answer_is = answer_in_law n i ws u

  -- WHAT IT SAYS
  abbrev says : (node answer : Bool) → Option ℕ
  says b c = cond (b && c) (Some code) None

  abbrev answer_test : Bool
  answer_test = answer_fits (store_of ws ns n) (answers_in n ws) i

  pub says_unknown : length ns ≤ symbol_in ws i → None ≡ row_says ws ns n i
  says_unknown l = let e = node_test_law ∙ ap node_test (le-ltb (symbol_in ws i) (length ns) l) in sym (ap (λ (b : Bool). says b answer_test) e)

  pub says_answered : 2 < answer_in ws i → None ≡ row_says ws ns n i
  says_answered l =
      let a : leb (answer_at (answers_in n ws) i) 2 ≡ false = lt-leb (answer_at (answers_in n ws) i) 2 (omega (arith, answer_is)) in
      let c : answer_test ≡ false = ap (λ (b : Bool). b && (not (has_hole x i) || eqb (answer_at (answers_in n ws) i) 0)) a in
      sym (ap (λ (b : Bool). says (node_fits x i) b) c ∙ ap (λ (b : Bool). cond b (Some code) None) (and_false (node_fits x i)))

  module _ (known : symbol_in ws i < length ns) where
    pub says_broken : None ≡ kids_in ws hs i (get_or ns (symbol_in ws i) 0) → None ≡ row_says ws ns n i
    says_broken e = sym (ap (λ (b : Bool). says b answer_test) (told_broken (node_fits x i) code (e ∙ kids_tell known)))

    module _ (fine : answer_in ws i ≤ 2) (h : ℕ) (e : Some h ≡ kids_in ws hs i (get_or ns (symbol_in ws i) 0)) where
      told : (node_fits (store_of ws ns n) i ≡ true) × (h ≡ code)
      told = told_hole (node_fits x i) code h (e ∙ kids_tell known)

      -- the answer's test comes down to the place of the hole and the answer
      answer_test_law : answer_test ≡ (eqb h 0 || eqb (answer_in ws i) 0)
      answer_test_law =
          let a : leb (answer_at (answers_in n ws) i) 2 ≡ true = le-leb (answer_at (answers_in n ws) i) 2 (omega (arith, answer_is)) in
          (λ t. a t && (not (hole_is told.0 t) || eqb (answer_is t) 0)) ∙ ap (λ (c : ℕ). not (not (eqb c 0)) || eqb (answer_in ws i) 0) (sym told.1) ∙
          ap (λ (b : Bool). b || eqb (answer_in ws i) 0) (not_not (eqb h 0))

      pub says_blotted : (h ≡ 0 → ⊥) → (answer_in ws i ≡ 0 → ⊥) → None ≡ row_says ws ns n i
      says_blotted p q =
          let f = answer_test_law ∙ (λ t. ne_eqb h 0 p t || ne_eqb (answer_in ws i) 0 q t) in
          sym (λ t. says (told.0 t) (f t))

      says_fits : (eqb h 0 || eqb (answer_in ws i) 0) ≡ true → Some h ≡ row_says ws ns n i
      says_fits q = ap Some told.1 ∙ sym (λ t. says (told.0 t) ((answer_test_law ∙ q) t))

      pub says_record : h ≡ 0 → Some h ≡ row_says ws ns n i
      says_record p = says_fits (ap (λ (b : Bool). b || eqb (answer_in ws i) 0) (eq-eqb h 0 p))

      pub says_blank : answer_in ws i ≡ 0 → Some h ≡ row_says ws ns n i
      says_blank p = says_fits (ap (λ (b : Bool). eqb h 0 || b) (eq-eqb (answer_in ws i) 0 p) ∙ or_true (eqb h 0))

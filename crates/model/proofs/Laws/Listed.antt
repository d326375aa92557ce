-- A record stored from its symbols: its row has the value that the symbols have in every algebra, and it was known or is new.
-- By induction on the symbols, with a stack of rows beside the stack of values; a row above a new row is new.
use mathlib.Core.Path.{◌≡◌, refl, sym, ap, ◌∙◌, subst}
use mathlib.Core.Logic.{◌⊎◌, inl, inr}
use mathlib.Core.Bool.{Bool, true, false, ◌||◌, cond}
use mathlib.Core.List.{List, [], ◌∷◌, map}
use Prim.Native.Nat.{ℕ, suc, ◌+◌, ◌-◌, ◌≤◌, ◌<◌}
use native.Mathlib.Omega.{arith}
use lib.Dec.{ltb, eqb}
use borrow.Author.Tests.{ne_eqb}
use lib.ListN.{length, get_or, take, drop, length-drop}
use lib.Seq.{length-take-le}
use Rattle.model.specs.Base.{Below, Each, In, any_true, count_true, each_cons, each_nil, here, later, none_below, one_below, top}
use Rattle.model.specs.Store.{fold, then_build, Built, Extends, Store, added, built, count_of, find_row, full, has_hole, holes_in, kids_at, row_for, used}
use Rattle.model.specs.Terms.{eval_from, known_from, store_from}
use Rattle.model.specs.Facts.{Good, IsRecord, Parses, RowAsked, RowBuilt, parsed, parses}
use Rattle.model.proofs.Laws.Tests.{any_clear}
use Rattle.model.proofs.Laws.Lists.{in_cases, below_in, map_below, each_weaker, no_in}
use Rattle.model.proofs.Laws.Stack.{length_backwards, map_drop, map_top, each_backwards, each_take, each_drop, in_backwards, in_parts}
use Rattle.model.proofs.Laws.Fold.{fold_eq, earlier, hole_eq}
use Rattle.model.proofs.Laws.Rows.{fold_ext, record_ext}
use Rattle.model.proofs.Laws.Fill.{row_is, ext_refl, ext_trans}

-- a list that parses with k trees ready, by its first symbol
pub parts : {ns : List ℕ} {k a : ℕ} {xs : List ℕ} → Parses ns k (a ∷ xs) → (a < length ns) × (get_or ns a 0 ≤ k) × Parses ns (k - get_or ns a 0 + 1) xs
parts (parses la ln ps) = (la, ln, ps)

-- RECORDS as children
records_below : (x : Store) {ks : List ℕ} → Each (IsRecord x) ks → Below (used x) ks
records_below x each_nil = none_below
records_below x (each_cons p ps) = one_below p.within (records_below x ps)

records_clear : (x : Store) {ks : List ℕ} → Each (IsRecord x) ks → holes_in x ks ≡ 0
unfolding count_true
records_clear x each_nil = refl
records_clear x (each_cons {k = k} p ps) = rw p.clear (let r = records_clear x ps in omega arith)

pub records_up : (x y : Store) → Good x → Extends x y → {ks : List ℕ} → Each (IsRecord x) ks → Each (IsRecord y) ks
records_up x y g e hs = each_weaker (record_ext x y g e) hs

-- one symbol: its row
module _ (x : Store) (g : Good x) (a : ℕ) (is : List ℕ) (hs : Each (IsRecord x) is) (la : a < length x.counts) (ln : count_of x a ≤ length is) where
  abbrev ks : List ℕ
  ks = top (count_of x a) is

  kids_records : Each (IsRecord x) ks
  kids_records = each_backwards (take (count_of x a) is) [] (each_take (count_of x a) is hs) each_nil

  pub kids_ask : RowAsked x a ks
  kids_ask =
      let z = records_clear x kids_records in
      let l = length_backwards (take (count_of x a) is) [] in
      let m = length-take-le (count_of x a) is ln in
      record { known = la; arity = omega arith; below = records_below x kids_records; holes = omega arith }

  pub symbol_row : (j : ℕ) (y : Store) → row_for x a ks ≡ built j y → RowBuilt x a ks j y × IsRecord y j
  symbol_row j y e =
      let r = row_is x g a ks kids_ask j y e in
      let z = records_clear y (records_up x y g r.ext kids_records) in
      let c : has_hole y j ≡ false =
      hole_eq y (earlier y r.good) j r.within ∙
      ap (λ (b : Bool). b || any_true (map (has_hole y) (kids_at y j))) (ne_eqb j 0 (λ p. omega (arith, p, r.some))) ∙
      ap (λ (l : List ℕ). any_true (map (has_hole y) l)) r.tail ∙ any_clear (map (has_hole y) ks) z in
      (r, record { some = r.some; within = r.within; clear = c })

  -- with it on the stack in its children's place, the stack is ready for the symbols left
  pub stack_next : (k : ℕ) → length is ≡ k → (xs : List ℕ) → Parses x.counts (k - count_of x a + 1) xs → (j : ℕ) (y : Store) → row_for x a ks ≡ built j y →
      Each (IsRecord y) (j ∷ drop (count_of x a) is) × (length (j ∷ drop (count_of x a) is) ≡ k - count_of x a + 1) × Parses y.counts (k - count_of x a + 1) xs
  stack_next k e xs ps j y f =
      let w = symbol_row j y f in
      let l = length-drop (count_of x a) is in
      let u = w.0.ext in
      (each_cons w.1 (records_up x y g u (each_drop (count_of x a) is hs)), omega arith, subst (λ (ns : List ℕ). Parses ns (k - count_of x a + 1) xs) (sym u.counts) ps)

-- what storing gives, for every algebra
pub record Stored (x : Store) (xs is : List ℕ) (i : ℕ) (y : Store) : Type 1 where
  pub good : Good y
  pub ext : Extends x y
  pub is_record_law : IsRecord y i
  pub value : {A : Type 0} (h : ℕ → List A → A) (z : A) →
      fold (λ (j a : ℕ) (vs : List A). h a vs) z y i ≡ eval_from h z x.counts xs (map (fold (λ (j a : ℕ) (vs : List A). h a vs) z x) is)

pub stored : (xs : List ℕ) (x : Store) → Good x → (k : ℕ) (is : List ℕ) → Each (IsRecord x) is → length is ≡ k → Parses x.counts k xs → (i : ℕ) (y : Store) →
    store_from x xs is ≡ built i y → Stored x xs is i y
unfolding store_from eval_from
stored [] x g k [] hs e p i y q = let z : ◌≡◌ {A = ℕ} 0 1 = cc in absurd (omega arith)
stored [] x g k (j ∷ is) (each_cons h hs) e p i y q =
    let a : j ≡ i = cc in
    let b : x ≡ y = cc in
    subst (λ (v : Store). Stored x [] (j ∷ is) i v) b (subst (λ (m : ℕ). Stored x [] (j ∷ is) m x) a (record { good = g; ext = ext_refl x; is_record_law = h; value = λ al z. refl }))
stored (a ∷ xs) x g k is hs e (parses la ln ps) i y q =
    go (λ v gv j. stored xs v gv (k - count_of x a + 1) (j ∷ drop (count_of x a) is)) (row_for x a (top (count_of x a) is)) refl q
  where
    len : count_of x a ≤ length is
    len = omega arith

    go : ((v : Store) → Good v → (j : ℕ) → Each (IsRecord v) (j ∷ drop (count_of x a) is) → length (j ∷ drop (count_of x a) is) ≡ k - count_of x a + 1 → Parses v.counts (k - count_of x a + 1) xs →
        (m : ℕ) (u : Store) → store_from v xs (j ∷ drop (count_of x a) is) ≡ built m u → Stored v xs (j ∷ drop (count_of x a) is) m u) →
        (b : Built) → row_for x a (top (count_of x a) is) ≡ b → then_build b (λ (j : ℕ) (v : Store). store_from v xs (j ∷ drop (count_of x a) is)) ≡ built i y → Stored x (a ∷ xs) is i y
    go ih full r s = let z : ◌≡◌ {A = ℕ} 0 1 = cc in absurd (omega arith)
    go ih (built j v) r s =
        let w = symbol_row x g a is hs la len j v r in
        let new_row = w.0 in
        let n = stack_next x g a is hs la len k e xs ps j v r in
        let t = ih v new_row.good j n.0 n.1 n.2 i y s in
        record {
          good = t.good;
          ext = ext_trans x v y new_row.ext t.ext;
          is_record_law = t.is_record_law;
          value = λ h z.
              let f : Store → ℕ → _ = λ u. fold (λ (m b : ℕ) (vs : List _). h b vs) z u in
              let drops : map (f v) (drop (count_of x a) is) ≡ drop (count_of x a) (map (f x) is) =
              sym (map_below (f x) (f v) (used x) (λ m l. fold_ext (λ (n b : ℕ) (vs : List _). h b vs) z x v g new_row.ext m l) (records_below x (each_drop (count_of x a) is hs))) ∙ map_drop (f x) (count_of x a) is in
              let tops : map (f v) (top (count_of x a) is) ≡ top (count_of x a) (map (f x) is) =
              sym (map_below (f x) (f v) (used x) (λ m l. fold_ext (λ (n b : ℕ) (vs : List _). h b vs) z x v g new_row.ext m l) (records_below x (kids_records x g a is hs la len))) ∙ map_top (f x) (count_of x a) is in
              let head : f v j ≡ h a (top (count_of x a) (map (f x) is)) =
              fold_eq (λ (m b : ℕ) (vs : List _). h b vs) z v (earlier v new_row.good) j new_row.within ∙ ap (λ (b : ℕ). h b (map (f v) (kids_at v j))) new_row.head ∙
              ap (λ (l : List ℕ). h a (map (f v) l)) new_row.tail ∙ ap (h a) tops in
              t.value h z ∙ ap (λ (ns : List ℕ). eval_from h z ns xs (map (f v) (j ∷ drop (count_of x a) is))) new_row.ext.counts ∙
              ap (λ (o : _). eval_from h z x.counts xs (o ∷ map (f v) (drop (count_of x a) is))) head ∙
              ap (λ (l : List _). eval_from h z x.counts xs (h a (top (count_of x a) (map (f x) is)) ∷ l)) drops;
        }

-- a row from N on that is on the stack is in the record: the root is from N on
pub reaches : (n : ℕ) (xs : List ℕ) (x : Store) → Good x → (k : ℕ) (is : List ℕ) → Each (IsRecord x) is → length is ≡ k → Parses x.counts k xs → (i : ℕ) (y : Store) →
    store_from x xs is ≡ built i y → (j : ℕ) → In j is → n ≤ j → n ≤ i
unfolding store_from
reaches n [] x g k [] hs e p i y q j h l = let z : ◌≡◌ {A = ℕ} 0 1 = cc in absurd (omega arith)
reaches n [] x g k (m ∷ is) hs e parsed i y q j h l = go is e (in_cases h)
  where
    a : m ≡ i
    a = cc

    go : (ls : List ℕ) → suc (length ls) ≡ 1 → (j ≡ m) ⊎ In j ls → n ≤ i
    go ls d (inl b) = rw (← a, ← b) l
    go [] d (inr b) = absurd (no_in b)
    go (b ∷ ls) d (inr c) = absurd (omega arith)
reaches n (a ∷ xs) x g k is hs e (parses la ln ps) i y q j h l =
    go (λ v gv m. reaches n xs v gv (k - count_of x a + 1) (m ∷ drop (count_of x a) is)) (row_for x a (top (count_of x a) is)) refl q
  where
    len : count_of x a ≤ length is
    len = omega arith

    go : ((v : Store) → Good v → (m : ℕ) → Each (IsRecord v) (m ∷ drop (count_of x a) is) → length (m ∷ drop (count_of x a) is) ≡ k - count_of x a + 1 → Parses v.counts (k - count_of x a + 1) xs →
        (o : ℕ) (u : Store) → store_from v xs (m ∷ drop (count_of x a) is) ≡ built o u → (c : ℕ) → In c (m ∷ drop (count_of x a) is) → n ≤ c → n ≤ o) →
        (b : Built) → row_for x a (top (count_of x a) is) ≡ b → then_build b (λ (m : ℕ) (v : Store). store_from v xs (m ∷ drop (count_of x a) is)) ≡ built i y → n ≤ i
    go ih full r s = let z : ◌≡◌ {A = ℕ} 0 1 = cc in absurd (omega arith)
    go ih (built m v) r s =
        let w = symbol_row x g a is hs la len m v r in
        let new_row = w.0 in
        let ready = stack_next x g a is hs la len k e xs ps m v r in
        place (ih v new_row.good m ready.0 ready.1 ready.2 i y s) new_row (in_parts (count_of x a) is h)
      where
        place : ((c : ℕ) → In c (m ∷ drop (count_of x a) is) → n ≤ c → n ≤ i) → RowBuilt x a (top (count_of x a) is) m v → In j (take (count_of x a) is) ⊎ In j (drop (count_of x a) is) → n ≤ i
        place next new_row (inr d) = next j (later d) l
        place next new_row (inl d) =
            let b = subst (Below m) new_row.tail (new_row.good.row m new_row.some new_row.within).below in
            let u = below_in b (in_backwards (take (count_of x a) is) [] d) in
            next m here (omega arith)

-- the row was known, and nothing is added; or it is new
pub known_or_new : (xs : List ℕ) (x : Store) → Good x → (k : ℕ) (is : List ℕ) → Each (IsRecord x) is → length is ≡ k → Parses x.counts k xs → (i : ℕ) (y : Store) →
    store_from x xs is ≡ built i y → ((y ≡ x) × (i ≡ known_from x xs is)) ⊎ ((known_from x xs is ≡ 0) × (used x ≤ i))
unfolding store_from known_from
known_or_new [] x g k [] hs e p i y q = let z : ◌≡◌ {A = ℕ} 0 1 = cc in absurd (omega arith)
known_or_new [] x g k (j ∷ is) hs e p i y q = let a : i ≡ j = cc in let b : y ≡ x = cc in inl (b, a)
known_or_new (a ∷ xs) x g k is hs e (parses la ln ps) i y q =
    go (λ j. known_or_new xs x g (k - count_of x a + 1) (j ∷ drop (count_of x a) is)) (eqb (find_row x a ks) 0) refl (ltb (used x) x.room) refl q
  where
    len : count_of x a ≤ length is
    len = omega arith

    ks : List ℕ
    ks = top (count_of x a) is

    rest : List ℕ
    rest = drop (count_of x a) is

    next : ℕ → Store → Built
    next j v = store_from v xs (j ∷ rest)

    go : ((j : ℕ) → Each (IsRecord x) (j ∷ rest) → length (j ∷ rest) ≡ k - count_of x a + 1 → Parses x.counts (k - count_of x a + 1) xs → (m : ℕ) (u : Store) → store_from x xs (j ∷ rest) ≡ built m u →
        ((u ≡ x) × (m ≡ known_from x xs (j ∷ rest))) ⊎ ((known_from x xs (j ∷ rest) ≡ 0) × (used x ≤ m))) →
        (b : Bool) → eqb (find_row x a ks) 0 ≡ b → (c : Bool) → ltb (used x) x.room ≡ c →
        then_build (cond b (cond c (built (used x) (added x a ks)) full) (built (find_row x a ks) x)) next ≡ built i y →
        ((y ≡ x) × (i ≡ cond b 0 (known_from x xs (find_row x a ks ∷ rest)))) ⊎ ((cond b 0 (known_from x xs (find_row x a ks ∷ rest)) ≡ 0) × (used x ≤ i))
    go ih false r c t s =
        let w = symbol_row x g a is hs la len (find_row x a ks) x (ap (λ (b : Bool). cond b (cond (ltb (used x) x.room) (built (used x) (added x a ks)) full) (built (find_row x a ks) x)) r) in
        let l = length-drop (count_of x a) is in
        ih (find_row x a ks) (each_cons w.1 (each_drop (count_of x a) is hs)) (omega arith) ps i y s
    go ih true r false t s = let z : ◌≡◌ {A = ℕ} 0 1 = cc in absurd (omega arith)
    go ih true r true t s =
        let v : Store = added x a ks in
        let f : row_for x a ks ≡ built (used x) v =
        ap (λ (b : Bool). cond b (cond (ltb (used x) x.room) (built (used x) v) full) (built (find_row x a ks) x)) r ∙
        ap (λ (c : Bool). cond c (built (used x) v) full) t in
        let w = symbol_row x g a is hs la len (used x) v f in
        let n = stack_next x g a is hs la len k e xs ps (used x) v f in
        (inr (refl, reaches (used x) xs v w.0.good (k - count_of x a + 1) (used x ∷ rest) n.0 n.1 n.2 i y s (used x) here (omega arith)))

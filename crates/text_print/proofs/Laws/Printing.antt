-- The text of a stored row by its letter and its children's texts, as the words give them; and how long it is at most.
-- Children are earlier rows: a row's text is made from theirs. Each symbol takes its letter and at most two signs, and a record two signs less.
use mathlib.Core.Path.{◌≡◌, refl, sym, ap, ◌∙◌}
use mathlib.Core.List.{List, [], ◌∷◌, ◌++◌, map}
use Prim.Native.Nat.{ℕ, zero, suc, ◌+◌, ◌*◌, ◌≤◌, ◌<◌}
use native.Mathlib.Numerals.{add-one}
use native.Mathlib.Omega.{arith}
use lib.ListN.{length, get_or, drop, length-append}
use Rattle.model.specs.Base.{sum, Below, none_below, one_below}
use Rattle.model.specs.Store.{Store, used, kids_at}
use Rattle.model.specs.Facts.{Good}
use Rattle.model.specs.Entry.{store_of}
use Rattle.model.specs.Terms.{size_of}
use Rattle.model.proofs.Laws.Fold.{fold_eq, earlier}
use Rattle.bank.specs.Rows.{symbol_in, kid_in}
use Rattle.bank.specs.Bank.{Stored}
use Rattle.bank.proofs.Laws.Children.{row_used, row_symbol, count_kids, row_beyond, row_kid, word_early}
use Rattle.text.specs.Bytes.{comma, opening, closing}
use Rattle.text.specs.Written.{letter_of, others, bracketed, written, row_text}

-- within a list it makes no difference what stands for what is past its end
pub get_d_within : (l : List ℕ) (d e i : ℕ) → i < length l → get_or l i d ≡ get_or l i e
get_d_within [] d e i h = absurd (omega arith)
get_d_within (a ∷ l) d e zero h = refl
get_d_within (a ∷ l) d e (suc i) h = get_d_within l d e i (omega arith)

-- CHILDREN'S TEXTS, one by one
none_bracketed : (f : ℕ → List ℕ) (ks : List ℕ) → length ks ≡ 0 → bracketed (map f ks) ≡ []
unfolding bracketed
none_bracketed f [] e = refl
none_bracketed f (k ∷ ks) e = absurd (omega arith)

some_bracketed : (f : ℕ → List ℕ) (ks : List ℕ) → 0 < length ks → bracketed (map f ks) ≡ opening ∷ (f (get_or ks 0 0) ++ others (drop 1 (map f ks)))
unfolding bracketed
some_bracketed f [] l = absurd (omega arith)
some_bracketed f (k ∷ ks) l = refl

others_end : (f : ℕ → List ℕ) (ks : List ℕ) (k : ℕ) → k ≡ length ks → others (drop k (map f ks)) ≡ closing ∷ []
unfolding others
others_end f [] zero e = refl
others_end f [] (suc k) e = absurd (omega arith)
others_end f (j ∷ ks) zero e = absurd (omega arith)
others_end f (j ∷ ks) (suc k) e = others_end f ks k (omega arith)

others_more : (f : ℕ → List ℕ) (ks : List ℕ) (k : ℕ) → k < length ks → others (drop k (map f ks)) ≡ comma ∷ (f (get_or ks k 0) ++ others (drop (suc k) (map f ks)))
unfolding others
others_more f [] k l = absurd (omega arith)
others_more f (j ∷ ks) zero l = refl
others_more f (j ∷ ks) (suc k) l = others_more f ks k (omega arith)

abbrev pub texts : (letters : List ℕ) → Store → (row : ℕ) → List (List ℕ)
texts ls x i = map (row_text ls x) (kids_at x i)

-- A ROW AMONG THE WORDS
module _ {ws ns : List ℕ} {n : ℕ} (s : Stored ws ns n) (i : ℕ) (l : i < n) where
  pub count_is : length (kids_at (store_of ws ns n) i) ≡ get_or ns (symbol_in ws i) 0
  count_is = sym (count_kids s i l)

  -- its text
  row_text_law : (ls : List ℕ) → row_text ls (store_of ws ns n) i ≡ written ls (symbol_in ws i) (texts ls (store_of ws ns n) i)
  row_text_law ls =
      fold_eq (λ (j a : ℕ) (ts : List (List ℕ)). written ls a ts) [] (store_of ws ns n) (earlier (store_of ws ns n) s.good) i (row_used s i l) ∙
      ap (λ (a : ℕ). written ls a (texts ls (store_of ws ns n) i)) (sym (row_symbol s i l))

  pub text_some : (ls : List ℕ) → 0 < length (row_text ls (store_of ws ns n) i)
  text_some ls = omega (arith, ap length (row_text_law ls))

  pub text_leaf : (ls : List ℕ) → get_or ns (symbol_in ws i) 0 ≡ 0 → row_text ls (store_of ws ns n) i ≡ letter_of ls (symbol_in ws i) ∷ []
  text_leaf ls e =
      row_text_law ls ∙ ap (λ (t : List ℕ). letter_of ls (symbol_in ws i) ∷ t) (none_bracketed (row_text ls (store_of ws ns n)) (kids_at (store_of ws ns n) i) (count_is ∙ e))

  pub list_end : (ls : List ℕ) (k : ℕ) → k ≡ get_or ns (symbol_in ws i) 0 → others (drop k (texts ls (store_of ws ns n) i)) ≡ closing ∷ []
  list_end ls k e = others_end (row_text ls (store_of ws ns n)) (kids_at (store_of ws ns n) i) k (e ∙ sym count_is)

  -- the child at place k
  module _ (k : ℕ) (h : k < get_or ns (symbol_in ws i) 0) (kid : ℕ) (e : kid ≡ kid_in ws i k) where
    has : k < length (kids_at (store_of ws ns n) i)
    has = omega (arith, count_is)

    kid_is : get_or (kids_at (store_of ws ns n) i) k 0 ≡ kid
    kid_is = sym (e ∙ row_kid s i l (row_beyond s i l k has) k has)

    pub kid_early : kid < i
    kid_early = omega (arith, word_early s i l (row_beyond s i l k has) k has)

    pub list_more : (ls : List ℕ) →
        others (drop k (texts ls (store_of ws ns n) i)) ≡ comma ∷ (row_text ls (store_of ws ns n) kid ++ others (drop (k + 1) (texts ls (store_of ws ns n) i)))
    list_more ls =
        others_more (row_text ls (store_of ws ns n)) (kids_at (store_of ws ns n) i) k has ∙
        (λ t. comma ∷ (row_text ls (store_of ws ns n) (kid_is t) ++ others (drop (sym (add-one k) t) (texts ls (store_of ws ns n) i))))

    pub more_long : (ls : List ℕ) →
        length (others (drop k (texts ls (store_of ws ns n) i))) ≡ 1 + (length (row_text ls (store_of ws ns n) kid) + length (others (drop (k + 1) (texts ls (store_of ws ns n) i))))
    more_long ls =
        let a = length-append (row_text ls (store_of ws ns n) kid) (others (drop (k + 1) (texts ls (store_of ws ns n) i))) in
        omega (arith, ap length (list_more ls))

  -- the first child
  module _ (h : 0 < get_or ns (symbol_in ws i) 0) (kid : ℕ) (e : kid ≡ kid_in ws i 0) where
    pub text_node : (ls : List ℕ) →
        row_text ls (store_of ws ns n) i ≡ letter_of ls (symbol_in ws i) ∷ opening ∷ (row_text ls (store_of ws ns n) kid ++ others (drop 1 (texts ls (store_of ws ns n) i)))
    text_node ls =
        row_text_law ls ∙ ap (λ (t : List ℕ). letter_of ls (symbol_in ws i) ∷ t) (some_bracketed (row_text ls (store_of ws ns n)) (kids_at (store_of ws ns n) i) (omega (arith, count_is))) ∙
        ap (λ (j : ℕ). letter_of ls (symbol_in ws i) ∷ opening ∷ (row_text ls (store_of ws ns n) j ++ others (drop 1 (texts ls (store_of ws ns n) i)))) (kid_is 0 h kid e)

    pub node_long : (ls : List ℕ) →
        length (row_text ls (store_of ws ns n) i) ≡ 2 + (length (row_text ls (store_of ws ns n) kid) + length (others (drop 1 (texts ls (store_of ws ns n) i))))
    node_long ls =
        let a = length-append (row_text ls (store_of ws ns n) kid) (others (drop 1 (texts ls (store_of ws ns n) i))) in
        omega (arith, ap length (text_node ls))

-- HOW LONG IT IS: a letter and two signs for each symbol, but for the two that stand around a record
module _ (ls : List ℕ) (x : Store) (g : Good x) where
  abbrev Short : ℕ → Type 0
  Short i = length (row_text ls x i) + 2 ≤ 3 * size_of x i

  others_short : (i : ℕ) (ks : List ℕ) → ((k : ℕ) → k < i → Short k) → Below i ks → length (others (map (row_text ls x) ks)) ≤ 1 + 3 * sum (map (size_of x) ks)
  unfolding others sum
  others_short i [] h none_below = omega arith
  others_short i (k ∷ ks) h (one_below l b) =
      let a = length-append (row_text ls x k) (others (map (row_text ls x) ks)) in
      omega (arith, h k l, others_short i ks h b)

  bracketed_short : (i : ℕ) (ks : List ℕ) → ((k : ℕ) → k < i → Short k) → Below i ks → length (bracketed (map (row_text ls x) ks)) ≤ 3 * sum (map (size_of x) ks)
  unfolding bracketed sum
  bracketed_short i [] h none_below = omega arith
  bracketed_short i (k ∷ ks) h (one_below l b) =
      let a = length-append (row_text ls x k) (others (map (row_text ls x) ks)) in
      omega (arith, h k l, others_short i ks h b)

  short_below : (m i : ℕ) → i < m → i < used x → Short i
  short_below zero i l u = absurd (omega arith)
  short_below (suc m) i l u =
      let w = earlier x g in
      let b = bracketed_short i (kids_at x i) (λ k h. short_below m k (omega arith) (omega arith)) (w i u) in
      let t = ap length (fold_eq (λ (j a : ℕ) (ts : List (List ℕ)). written ls a ts) [] x w i u) in
      let z = fold_eq (λ (j a : ℕ) (ns : List ℕ). suc (sum ns)) 0 x w i u in
      omega arith

  pub text_short : (i : ℕ) → i < used x → length (row_text ls x i) + 2 ≤ 3 * size_of x i
  text_short i u = short_below (suc i) i (omega arith) u

-- Rows among the lent words: read as the store's nodes and answers, and written behind them with the rows before left as they were.
-- By induction on the rows read, and at the seams of `++`.
use mathlib.Core.Path.{◌≡◌, refl, sym, ap, ◌∙◌}
use mathlib.Core.List.{List, [], ◌∷◌, ◌++◌, append_assoc, append-nil}
use Prim.Native.Nat.{ℕ, zero, suc, ◌+◌, ◌*◌, ◌-◌, ◌/◌, ◌≤◌, ◌<◌}
use native.Mathlib.Omega.{arith}
use lib.ListN.{length, get_or, take, drop, replicate, length-append, length-drop, length-replicate, take-append-drop}
use borrow.Rule.Slice.PartMut.{put_mid}
use lib.Seq.{get_or-drop, get_or-take, drop-drop, get_or-append-add, sets-eq, length-sets, take_at, drop_at, length-take-le, ext_get_or, drop-append-le}
use Rattle.model.specs.Limits.{row_width, most_children}
use Rattle.model.specs.Store.{Node, Store, Extends, hole_node, node, padded, used, node_at, symbol_at, kids_at, added}
use Rattle.model.specs.Table.{answer_at}
use Rattle.model.specs.Entry.{nodes_in, answers_in, row_words, store_of}
use Rattle.model.proofs.Laws.Lent.{FourPlaces, length_row_words, nodes_in_row_words, answers_in_row_words, row_words_same, length_nodes_in, length_answers_in}
use Rattle.bank.specs.Rows.{symbol_in, answer_in, kid_in, places_in, node_in, with_row, Within}
use Rattle.bank.specs.Bank.{with_rows}

-- ROWS READ
abbrev front : List ℕ → Node
front ws = record { symbol = get_or ws 0 0; kids = take most_children (drop 2 ws) }

front_in : (n i : ℕ) (ws : List ℕ) → i < n → get_or (nodes_in n ws) i hole_node ≡ front (drop (row_width * i) ws)
unfolding nodes_in
front_in zero i ws h = absurd (omega arith)
front_in (suc n) zero ws h = refl
front_in (suc n) (suc i) ws h =
    let e : row_width + row_width * i ≡ row_width * suc i = omega arith in
    front_in n i (drop row_width ws) (omega arith) ∙ ap front (drop-drop (row_width * i) row_width ws ∙ ap (λ (k : ℕ). drop k ws) e)

take_four : (l : List ℕ) → 4 ≤ length l → take 4 l ≡ get_or l 0 0 ∷ get_or l 1 0 ∷ get_or l 2 0 ∷ get_or l 3 0 ∷ []
take_four [] h = absurd (omega arith)
take_four (a ∷ []) h = absurd (omega arith)
take_four (a ∷ b ∷ []) h = absurd (omega arith)
take_four (a ∷ b ∷ c ∷ []) h = absurd (omega arith)
take_four (a ∷ b ∷ c ∷ d ∷ l) h = refl

word : (ws : List ℕ) (i k : ℕ) → get_or (drop 2 (drop (row_width * i) ws)) k 0 ≡ kid_in ws i k
word ws i k =
    let e : row_width * i + (2 + k) ≡ row_width * i + 2 + k = omega arith in
    get_or-drop 2 (drop (row_width * i) ws) k 0 ∙ get_or-drop (row_width * i) ws (2 + k) 0 ∙ ap (λ (j : ℕ). get_or ws j 0) e

pub used_of : (ws ns : List ℕ) (n : ℕ) → used (store_of ws ns n) ≡ n
used_of ws ns n = length_nodes_in n ws

module _ (ws ns : List ℕ) (n i : ℕ) (h : i < n) where
  pub symbol_in_law : symbol_at (store_of ws ns n) i ≡ symbol_in ws i
  symbol_in_law =
      let e : row_width * i + 0 ≡ row_width * i = omega arith in
      ap (λ (r : Node). r.symbol) (front_in n i ws h) ∙ get_or-drop (row_width * i) ws 0 0 ∙ ap (λ (j : ℕ). get_or ws j 0) e

  pub places_in_law : row_width * n ≤ length ws → (node_at (store_of ws ns n) i).kids ≡ places_in ws i
  places_in_law l =
      ap (λ (r : Node). r.kids) (front_in n i ws h) ∙ take_four (drop 2 (drop (row_width * i) ws)) (simp length-drop (omega arith)) ∙
      (λ t. word ws i 0 t ∷ word ws i 1 t ∷ word ws i 2 t ∷ word ws i 3 t ∷ [])

  pub node_in_law : row_width * n ≤ length ws → node_at (store_of ws ns n) i ≡ node_in ws i
  node_in_law l = λ t. record { symbol = symbol_in_law t; kids = places_in_law l t }

  pub kids_in_law : row_width * n ≤ length ws → kids_at (store_of ws ns n) i ≡ take (get_or ns (symbol_in ws i) 0) (places_in ws i)
  kids_in_law l = λ t. take (get_or ns (symbol_in_law t) 0) (places_in_law l t)

pub answer_in_law : (n i : ℕ) (ws : List ℕ) → i < n → answer_at (answers_in n ws) i ≡ answer_in ws i
unfolding answers_in
answer_in_law zero i ws h = absurd (omega arith)
answer_in_law (suc n) zero ws h = refl
answer_in_law (suc n) (suc i) ws h =
    let e : row_width + (row_width * i + 1) ≡ row_width * suc i + 1 = omega arith in
    answer_in_law n i (drop row_width ws) (omega arith) ∙ get_or-drop row_width ws (row_width * i + 1) 0 ∙ ap (λ (k : ℕ). get_or ws k 0) e

-- a row's six words stored in their part of the words
pub row_stored : (ws : List ℕ) (i a : ℕ) (ps : List ℕ) → Within ws i →
    put_mid (row_width * i) (row_width * i + row_width - row_width * i) ws (a ∷ 0 ∷ get_or ps 0 0 ∷ get_or ps 1 0 ∷ get_or ps 2 0 ∷ get_or ps 3 0 ∷ []) ≡ with_row ws i a ps
row_stored ws i a ps within =
    let m : ℕ = row_width * i in
    let vs : List ℕ = a ∷ 0 ∷ get_or ps 0 0 ∷ get_or ps 1 0 ∷ get_or ps 2 0 ∷ get_or ps 3 0 ∷ [] in
    let e : m + row_width - m ≡ row_width = omega arith in
    ap (λ (k : ℕ). put_mid m k ws vs) e ∙ ap (λ (l : List ℕ). take m ws ++ (vs ++ l)) (drop-drop row_width m ws) ∙ sym (append_assoc (take m ws) vs (drop (m + row_width) ws)) ∙ sym (sets-eq vs ws m within)

-- THE FIRST n ROWS, as they were
abbrev pub SameRows : (words : List ℕ) → (n : ℕ) → (after : List ℕ) → Type 0
SameRows ws n vs = take (row_width * n) vs ≡ take (row_width * n) ws

module _ (ws vs : List ℕ) (n : ℕ) (same : SameRows ws n vs) where
  pub word_kept : (j : ℕ) → j < row_width * n → get_or vs j 0 ≡ get_or ws j 0
  word_kept j h = sym (get_or-take (row_width * n) vs j 0 h) ∙ ap (λ (l : List ℕ). get_or l j 0) same ∙ get_or-take (row_width * n) ws j 0 h

  module _ (i : ℕ) (h : i < n) where
    pub symbol_kept : symbol_in vs i ≡ symbol_in ws i
    symbol_kept = word_kept (row_width * i) (omega arith)

    pub answer_kept : answer_in vs i ≡ answer_in ws i
    answer_kept = word_kept (row_width * i + 1) (omega arith)

    pub kid_kept : (k : ℕ) → k < 4 → kid_in vs i k ≡ kid_in ws i k
    kid_kept k l = word_kept (row_width * i + 2 + k) (omega arith)

    pub places_kept : places_in vs i ≡ places_in ws i
    places_kept = λ t. kid_kept 0 (omega arith) t ∷ kid_kept 1 (omega arith) t ∷ kid_kept 2 (omega arith) t ∷ kid_kept 3 (omega arith) t ∷ []

  pub answers_kept : answers_in n vs ≡ answers_in n ws
  answers_kept =
      ext_get_or 0 (answers_in n vs) (answers_in n ws) (length_answers_in n vs ∙ sym (length_answers_in n ws))
      (λ i u. let h : i < n = omega (arith, length_answers_in n vs) in answer_in_law n i vs h ∙ answer_kept i h ∙ sym (answer_in_law n i ws h))

  module _ (long : length vs ≡ length ws) (within : row_width * n ≤ length ws) where
    pub node_kept : (ns : List ℕ) (i : ℕ) → i < n → node_at (store_of vs ns n) i ≡ node_at (store_of ws ns n) i
    node_kept ns i h =
        node_in_law vs ns n i h (omega arith) ∙ (λ t. record { symbol = symbol_kept i h t; kids = places_kept i h t }) ∙ sym (node_in_law ws ns n i h within)

    pub nodes_kept : nodes_in n vs ≡ nodes_in n ws
    nodes_kept =
        ext_get_or hole_node (nodes_in n vs) (nodes_in n ws) (length_nodes_in n vs ∙ sym (length_nodes_in n ws))
        (λ i u. node_kept [] i (omega (arith, length_nodes_in n vs)))

-- ROWS WRITTEN behind the first n
row_words_zeros : (ms : List Node) (k : ℕ) → row_words ms [] ≡ row_words ms (replicate k 0)
unfolding row_words
row_words_zeros [] k = refl
row_words_zeros (m ∷ ms) zero = refl
row_words_zeros (m ∷ ms) (suc k) = ap (λ (l : List ℕ). (m.symbol ∷ 0 ∷ m.kids) ++ l) (row_words_zeros ms k)

row_words_append : (ls ms : List Node) (us vs : List ℕ) → length us ≡ length ls → row_words (ls ++ ms) (us ++ vs) ≡ row_words ls us ++ row_words ms vs
unfolding row_words
row_words_append [] ms [] vs e = refl
row_words_append [] ms (u ∷ us) vs e = absurd (omega arith)
row_words_append (l ∷ ls) ms [] vs e = absurd (omega arith)
row_words_append (l ∷ ls) ms (u ∷ us) vs e =
    ap (λ (r : List ℕ). (l.symbol ∷ u ∷ l.kids) ++ r) (row_words_append ls ms us vs (omega arith)) ∙
    sym (append_assoc (l.symbol ∷ u ∷ l.kids) (row_words ls us) (row_words ms vs))

-- the store with more rows is the old nodes and the ones behind
pub nodes_split : (x y : Store) → Extends x y → x.nodes ++ drop (used x) y.nodes ≡ y.nodes
nodes_split x y e =
    ap (λ (l : List Node). l ++ drop (used x) y.nodes) (sym first) ∙ take-append-drop (used x) y.nodes
  where
    long : length (take (used x) y.nodes) ≡ used x
    long = length-take-le (used x) y.nodes e.more

    first : take (used x) y.nodes ≡ x.nodes
    first =
        ext_get_or hole_node (take (used x) y.nodes) x.nodes long
        (λ i u. let h : i < used x = omega (arith, long) in get_or-take (used x) y.nodes i hole_node h ∙ sym (e.kept i h))

-- as words, the nodes with the old answers, and none behind
abbrev pub answers_more : (words : List ℕ) → (n m : ℕ) → List ℕ
answers_more ws n m = answers_in n ws ++ replicate (m - n) 0

four_drop : (n : ℕ) (ms : List Node) → FourPlaces ms → FourPlaces (drop n ms)
four_drop n ms f i h =
    let l = length-drop n ms in
    rw (get_or-drop n ms i hole_node) (f (n + i) (omega arith))

module _ (ws ns : List ℕ) (n : ℕ) (y : Store) (ext : Extends (store_of ws ns n) y) (four : FourPlaces y.nodes) (fits : row_width * used y ≤ length ws) where
  more : n ≤ used y
  more = let m = ext.more in let u = used_of ws ns n in omega arith

  parts : nodes_in n ws ++ drop n y.nodes ≡ y.nodes
  parts = ap (λ (k : ℕ). nodes_in n ws ++ drop k y.nodes) (sym (used_of ws ns n)) ∙ nodes_split (store_of ws ns n) y ext

  four_rest : FourPlaces (drop n y.nodes)
  four_rest = four_drop n y.nodes four

  long_front : length (take (row_width * n) ws) ≡ row_width * n
  long_front = length-take-le (row_width * n) ws (omega (arith, more))

  long_rest : length (row_words (drop n y.nodes) []) ≡ row_width * (used y - n)
  long_rest = length_row_words (drop n y.nodes) [] four_rest ∙ ap (λ (k : ℕ). row_width * k) (length-drop n y.nodes)

  long_rows : length (take (row_width * n) ws ++ row_words (drop n y.nodes) []) ≡ row_width * used y
  long_rows = rw length-append (omega (arith, long_front, long_rest, more))

  rows_answered : take (row_width * n) ws ++ row_words (drop n y.nodes) [] ≡ row_words y.nodes (answers_more ws n (used y))
  rows_answered =
      let a = sym (row_words_same n ws (omega (arith, more))) in
      let b = row_words_zeros (drop n y.nodes) (used y - n) in
      let c = row_words_append (nodes_in n ws) (drop n y.nodes) (answers_in n ws) (replicate (used y - n) 0) (length_answers_in n ws ∙ sym (length_nodes_in n ws)) in
      (λ t. a t ++ b t) ∙ sym c ∙ ap (λ (l : List Node). row_words l (answers_more ws n (used y))) parts

  long_answers : length (answers_more ws n (used y)) ≡ used y
  long_answers = simp (length-append, length_answers_in, length-replicate) (omega (arith, more))

  pub length_with_rows : length (with_rows ws n y) ≡ length ws
  length_with_rows = simp (length-append, length-drop) (omega (arith, long_front, long_rest, more))

  pub store_with_rows : store_of (with_rows ws n y) ns (used y) ≡ y
  store_with_rows =
      let a = ap (λ (l : List ℕ). nodes_in (used y) (l ++ drop (row_width * used y) ws)) rows_answered ∙
      nodes_in_row_words y.nodes (answers_more ws n (used y)) (drop (row_width * used y) ws) four in
      λ t. record { counts = sym ext.counts t; room = (ap (λ (k : ℕ). k / row_width) length_with_rows ∙ sym ext.room) t; nodes = a t }

  pub answers_with_rows : answers_in (used y) (with_rows ws n y) ≡ answers_more ws n (used y)
  answers_with_rows =
      ap (λ (l : List ℕ). answers_in (used y) (l ++ drop (row_width * used y) ws)) rows_answered ∙
      answers_in_row_words y.nodes (answers_more ws n (used y)) (drop (row_width * used y) ws) four long_answers

  pub front_with_rows : SameRows ws n (with_rows ws n y)
  front_with_rows =
      ap (take (row_width * n)) (append_assoc (take (row_width * n) ws) (row_words (drop n y.nodes) []) (drop (row_width * used y) ws)) ∙
      take_at (take (row_width * n) ws) (row_words (drop n y.nodes) [] ++ drop (row_width * used y) ws) (row_width * n) long_front

  pub rows_with_rows : take (row_width * used y) (with_rows ws n y) ≡ take (row_width * n) ws ++ row_words (drop n y.nodes) []
  rows_with_rows = take_at (take (row_width * n) ws ++ row_words (drop n y.nodes) []) (drop (row_width * used y) ws) (row_width * used y) long_rows

  pub behind_with_rows : drop (row_width * used y) (with_rows ws n y) ≡ drop (row_width * used y) ws
  behind_with_rows = drop_at (take (row_width * n) ws ++ row_words (drop n y.nodes) []) (drop (row_width * used y) ws) (row_width * used y) long_rows

  -- more rows behind these: as if written at once
  module _ (z : Store) (later : Extends y z) where
    behind : drop (row_width * used z) (with_rows ws n y) ≡ drop (row_width * used z) ws
    behind =
        let m = later.more in
        let e : row_width * used y + row_width * (used z - used y) ≡ row_width * used z = omega arith in
        ap (λ (k : ℕ). drop k (with_rows ws n y)) (sym e) ∙ sym (drop-drop (row_width * (used z - used y)) (row_width * used y) (with_rows ws n y)) ∙
        ap (drop (row_width * (used z - used y))) behind_with_rows ∙ drop-drop (row_width * (used z - used y)) (row_width * used y) ws ∙ ap (λ (k : ℕ). drop k ws) e

    both_parts : drop n y.nodes ++ drop (used y) z.nodes ≡ drop n z.nodes
    both_parts = sym (drop-append-le n y.nodes (drop (used y) z.nodes) more) ∙ ap (drop n) (nodes_split y z later)

    both_rows : row_words (drop n y.nodes) [] ++ row_words (drop (used y) z.nodes) [] ≡ row_words (drop n z.nodes) []
    both_rows =
        let k = length (drop n y.nodes) in
        let a = row_words_zeros (drop n y.nodes) k in
        let b = row_words_append (drop n y.nodes) (drop (used y) z.nodes) (replicate k 0) (replicate 0 0) (length-replicate k 0) in
        let c = ap (λ (us : List ℕ). row_words (drop n y.nodes ++ drop (used y) z.nodes) us) (append-nil (replicate k 0)) in
        let d = sym (row_words_zeros (drop n y.nodes ++ drop (used y) z.nodes) k) in
        let e = ap (λ (ms : List Node). row_words ms []) both_parts in
        ap (λ (l : List ℕ). l ++ row_words (drop (used y) z.nodes) []) a ∙ sym b ∙ c ∙ d ∙ e

    pub with_rows_twice : with_rows (with_rows ws n y) (used y) z ≡ with_rows ws n z
    with_rows_twice =
        let a = append_assoc (take (row_width * n) ws) (row_words (drop n y.nodes) []) (row_words (drop (used y) z.nodes) []) in
        (λ t. (rows_with_rows t ++ row_words (drop (used y) z.nodes) []) ++ behind t) ∙ ap (λ (l : List ℕ). l ++ drop (row_width * used z) ws) (a ∙ ap (λ (l : List ℕ). take (row_width * n) ws ++ l) both_rows)

-- ONE ROW written
four_is : (l : List ℕ) → length l ≡ 4 → get_or l 0 0 ∷ get_or l 1 0 ∷ get_or l 2 0 ∷ get_or l 3 0 ∷ [] ≡ l
four_is [] h = absurd (omega arith)
four_is (a ∷ []) h = absurd (omega arith)
four_is (a ∷ b ∷ []) h = absurd (omega arith)
four_is (a ∷ b ∷ c ∷ []) h = absurd (omega arith)
four_is (a ∷ b ∷ c ∷ d ∷ []) h = refl
four_is (a ∷ b ∷ c ∷ d ∷ e ∷ l) h = absurd (omega arith)

pub length_with_row : (ws : List ℕ) (n a : ℕ) (ps : List ℕ) → length (with_row ws n a ps) ≡ length ws
length_with_row ws n a ps = length-sets ws (row_width * n) (a ∷ 0 ∷ get_or ps 0 0 ∷ get_or ps 1 0 ∷ get_or ps 2 0 ∷ get_or ps 3 0 ∷ [])

module _ (ws : List ℕ) (n a : ℕ) (ps : List ℕ) (within : Within ws n) where
  with_row_parts : with_row ws n a ps ≡ take (row_width * n) ws ++ (a ∷ 0 ∷ get_or ps 0 0 ∷ get_or ps 1 0 ∷ get_or ps 2 0 ∷ get_or ps 3 0 ∷ []) ++ drop (row_width * n + row_width) ws
  with_row_parts = sets-eq (a ∷ 0 ∷ get_or ps 0 0 ∷ get_or ps 1 0 ∷ get_or ps 2 0 ∷ get_or ps 3 0 ∷ []) ws (row_width * n) within

  long_before : length (take (row_width * n) ws) ≡ row_width * n
  long_before = length-take-le (row_width * n) ws (omega arith)

  pub front_with_row : SameRows ws n (with_row ws n a ps)
  front_with_row =
      ap (take (row_width * n)) (with_row_parts ∙ append_assoc (take (row_width * n) ws) (a ∷ 0 ∷ get_or ps 0 0 ∷ get_or ps 1 0 ∷ get_or ps 2 0 ∷ get_or ps 3 0 ∷ []) (drop (row_width * n + row_width) ws)) ∙
      take_at (take (row_width * n) ws) ((a ∷ 0 ∷ get_or ps 0 0 ∷ get_or ps 1 0 ∷ get_or ps 2 0 ∷ get_or ps 3 0 ∷ []) ++ drop (row_width * n + row_width) ws) (row_width * n) long_before

  written : (k : ℕ) → get_or (with_row ws n a ps) (row_width * n + k) 0 ≡ get_or ((a ∷ 0 ∷ get_or ps 0 0 ∷ get_or ps 1 0 ∷ get_or ps 2 0 ∷ get_or ps 3 0 ∷ []) ++ drop (row_width * n + row_width) ws) k 0
  written k =
      ap (λ (l : List ℕ). get_or l (row_width * n + k) 0) (with_row_parts ∙ append_assoc (take (row_width * n) ws) (a ∷ 0 ∷ get_or ps 0 0 ∷ get_or ps 1 0 ∷ get_or ps 2 0 ∷ get_or ps 3 0 ∷ []) (drop (row_width * n + row_width) ws)) ∙
      ap (λ (m : ℕ). get_or (take (row_width * n) ws ++ ((a ∷ 0 ∷ get_or ps 0 0 ∷ get_or ps 1 0 ∷ get_or ps 2 0 ∷ get_or ps 3 0 ∷ []) ++ drop (row_width * n + row_width) ws)) (m + k) 0) (sym long_before) ∙
      get_or-append-add (take (row_width * n) ws) ((a ∷ 0 ∷ get_or ps 0 0 ∷ get_or ps 1 0 ∷ get_or ps 2 0 ∷ get_or ps 3 0 ∷ []) ++ drop (row_width * n + row_width) ws) k 0

  at_word : (k m : ℕ) → row_width * n + k ≡ m → get_or (with_row ws n a ps) m 0 ≡ get_or ((a ∷ 0 ∷ get_or ps 0 0 ∷ get_or ps 1 0 ∷ get_or ps 2 0 ∷ get_or ps 3 0 ∷ []) ++ drop (row_width * n + row_width) ws) k 0
  at_word k m e = ap (λ (j : ℕ). get_or (with_row ws n a ps) j 0) (sym e) ∙ written k

  pub symbol_written : symbol_in (with_row ws n a ps) n ≡ a
  symbol_written = at_word 0 (row_width * n) (omega arith)

  pub places_written : length ps ≡ 4 → places_in (with_row ws n a ps) n ≡ ps
  places_written l =
      (λ t. at_word 2 (row_width * n + 2 + 0) (omega arith) t ∷ at_word 3 (row_width * n + 2 + 1) (omega arith) t ∷ at_word 4 (row_width * n + 2 + 2) (omega arith) t ∷
      at_word 5 (row_width * n + 2 + 3) (omega arith) t ∷ []) ∙ four_is ps l

  pub one_row : (ns ks : List ℕ) → ps ≡ padded ks → length ps ≡ 4 → with_row ws n a ps ≡ with_rows ws n (added (store_of ws ns n) a ks)
  unfolding row_words
  one_row ns ks e l =
      let d : drop n (nodes_in n ws ++ (node a ks ∷ [])) ≡ node a ks ∷ [] = drop_at (nodes_in n ws) (node a ks ∷ []) n (length_nodes_in n ws) in
      let r : row_words (drop n (nodes_in n ws ++ (node a ks ∷ []))) [] ≡ a ∷ 0 ∷ ps = ap (λ (ms : List Node). row_words ms []) d ∙ ap (λ (l : List ℕ). a ∷ 0 ∷ l) (append-nil (padded ks) ∙ sym e) in
      let u : row_width * n + row_width ≡ row_width * used (added (store_of ws ns n) a ks) = rw length-append (omega (arith, length_nodes_in n ws)) in
      let f : a ∷ 0 ∷ get_or ps 0 0 ∷ get_or ps 1 0 ∷ get_or ps 2 0 ∷ get_or ps 3 0 ∷ [] ≡ a ∷ 0 ∷ ps = ap (λ (l : List ℕ). a ∷ 0 ∷ l) (four_is ps l) in
      with_row_parts ∙ (λ t. take (row_width * n) ws ++ (f ∙ sym r) t ++ drop (u t) ws)

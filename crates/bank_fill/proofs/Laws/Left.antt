-- Steps leave words that the definitions name: one after the other, with rows added, with an answer set.
-- Words are their used rows, which are read back as nodes and answers, and what stands behind them.
use mathlib.Core.Path.{◌≡◌, refl, sym, ap, subst, ◌∙◌}
use mathlib.Core.List.{List, [], ◌∷◌, ◌++◌}
use Prim.Native.Nat.{ℕ, ◌+◌, ◌*◌, ◌-◌, ◌/◌, ◌≤◌, ◌<◌}
use native.Mathlib.Omega.{arith}
use lib.ListN.{length, get_or, take, drop, set, replicate, length-set, length-drop, take-append-drop}
use lib.Seq.{drop-drop, get_or-drop, get_or-set_other, get_or-set_same, ext_get_or, length-take-le}
use Rattle.model.specs.Limits.{row_width, most_rows}
use Rattle.model.specs.Store.{Store, hole_node, used, node_at, Extends}
use Rattle.model.specs.Table.{Tables}
use Rattle.model.specs.Steps.{blanked}
use Rattle.model.specs.Entry.{store_of, nodes_in, answers_in, row_words, words_of}
use Rattle.model.specs.Facts.{Good}
use Rattle.model.proofs.Laws.Lent.{FourPlaces, row_words_same, length_nodes_in, length_answers_in}
use Rattle.model.proofs.Laws.Tests.{by_equal}
use Rattle.bank.specs.Rows.{symbol_in, answer_in, kid_in, places_in, with_answer}
use Rattle.bank.specs.Bank.{Holed, Bank, with_rows}
use Rattle.bank.proofs.Laws.Words.{used_of, node_in_law, answer_in_law, length_with_rows, store_with_rows, answers_with_rows, behind_with_rows}
use Rattle.bank.proofs.Laws.Trees.{indexed_same}
use Rattle.bank_fill.specs.Left.{Left}

-- words that are left are those of the definition
pub left_words : (ws ns us : List ℕ) (y : Tables) → Left ws ns us y.store y.answers → row_width * used y.store ≤ length ws → us ≡ words_of ws y
left_words ws ns us y l h =
    let u : ℕ = used y.store in
    let n : nodes_in u us ≡ y.store.nodes = ap (λ (x : Store). x.nodes) l.store in
    let rows : row_words y.store.nodes y.answers ≡ take (row_width * u) us =
    sym (λ i. row_words (n i) (l.answered i)) ∙ row_words_same u us (omega (arith, l.same_size)) in
    let long : length (row_words y.store.nodes y.answers) ≡ row_width * u = ap length rows ∙ length-take-le (row_width * u) us (omega (arith, l.same_size)) in
    sym (take-append-drop (row_width * u) us) ∙ (λ i. sym rows i ++ l.behind i) ∙ ap (λ (k : ℕ). row_words y.store.nodes y.answers ++ drop k ws) (sym long)

pub left_same : (ws ns : List ℕ) (n : ℕ) → Left ws ns ws (store_of ws ns n) (answers_in n ws)
left_same ws ns n =
    record {
      same_size = refl;
      store = ap (store_of ws ns) (used_of ws ns n);
      answered = ap (λ (k : ℕ). answers_in k ws) (used_of ws ns n);
      behind = refl;
    }

-- one step after the other
pub left_then : (ws ns us vs : List ℕ) (x y : Store) (w v : List ℕ) → Left ws ns us x w → Left us ns vs y v → used x ≤ used y → Left ws ns vs y v
left_then ws ns us vs x y w v a b h =
    let e : row_width * used x + row_width * (used y - used x) ≡ row_width * used y = omega arith in
    let d : drop (row_width * used y) us ≡ drop (row_width * used y) ws =
    ap (λ (k : ℕ). drop k us) (sym e) ∙ sym (drop-drop (row_width * (used y - used x)) (row_width * used x) us) ∙ ap (drop (row_width * (used y - used x))) a.behind ∙
    drop-drop (row_width * (used y - used x)) (row_width * used x) ws ∙ ap (λ (k : ℕ). drop k ws) e in
    record { same_size = b.same_size ∙ a.same_size; store = b.store; answered = b.answered; behind = b.behind ∙ d }

-- ROWS ADDED
pub left_rows : (ws ns : List ℕ) (n : ℕ) (y : Store) → Extends (store_of ws ns n) y → FourPlaces y.nodes → row_width * used y ≤ length ws →
    Left ws ns (with_rows ws n y) y (blanked (store_of ws ns n) y (answers_in n ws))
left_rows ws ns n y e f h =
    record {
      same_size = length_with_rows ws ns n y e f h;
      store = store_with_rows ws ns n y e f h;
      answered = answers_with_rows ws ns n y e f h ∙ ap (λ (k : ℕ). answers_in n ws ++ replicate (used y - k) 0) (sym (used_of ws ns n));
      behind = behind_with_rows ws ns n y e f h;
    }

-- AN ANSWER SET: the answers with that one, the rows as they were
module _ (ws ns : List ℕ) (n i v : ℕ) (l : i < n) (h : row_width * n ≤ length ws) where
  word_other : (j : ℕ) → (j ≡ row_width * i + 1 → ⊥) → get_or (with_answer ws i v) j 0 ≡ get_or ws j 0
  word_other j d = get_or-set_other ws (row_width * i + 1) j v 0 d

  same_symbol : (j : ℕ) → symbol_in (with_answer ws i v) j ≡ symbol_in ws j
  same_symbol j = word_other (row_width * j) (λ e. absurd (omega (arith, e)))

  same_kid : (j k : ℕ) → k < 4 → kid_in (with_answer ws i v) j k ≡ kid_in ws j k
  same_kid j k b = word_other (row_width * j + 2 + k) (λ e. absurd (omega (arith, e)))

  same_places : (j : ℕ) → places_in (with_answer ws i v) j ≡ places_in ws j
  same_places j = λ t. same_kid j 0 (omega arith) t ∷ same_kid j 1 (omega arith) t ∷ same_kid j 2 (omega arith) t ∷ same_kid j 3 (omega arith) t ∷ []

  long : length (with_answer ws i v) ≡ length ws
  long = length-set ws (row_width * i + 1) v

  same_node : (j : ℕ) → j < n → node_at (store_of (with_answer ws i v) ns n) j ≡ node_at (store_of ws ns n) j
  same_node j b =
      node_in_law (with_answer ws i v) ns n j b (omega (arith, long)) ∙ (λ t. record { symbol = same_symbol j t; kids = same_places j t }) ∙ sym (node_in_law ws ns n j b h)

  same_nodes : nodes_in n (with_answer ws i v) ≡ nodes_in n ws
  same_nodes =
      ext_get_or hole_node (nodes_in n (with_answer ws i v)) (nodes_in n ws) (length_nodes_in n (with_answer ws i v) ∙ sym (length_nodes_in n ws))
      (λ j b. same_node j (omega (arith, length_nodes_in n (with_answer ws i v))))

  pub answered_store : store_of (with_answer ws i v) ns n ≡ store_of ws ns n
  answered_store = λ t. record { counts = ns; room = long t / row_width; nodes = same_nodes t }

  pub answered_answers : answers_in n (with_answer ws i v) ≡ set (answers_in n ws) i v
  answered_answers = ext_get_or 0 (answers_in n (with_answer ws i v)) (set (answers_in n ws) i v) sizes at
    where
      sizes : length (answers_in n (with_answer ws i v)) ≡ length (set (answers_in n ws) i v)
      sizes = length_answers_in n (with_answer ws i v) ∙ sym (length_answers_in n ws) ∙ sym (length-set (answers_in n ws) i v)

      here : get_or (with_answer ws i v) (row_width * i + 1) 0 ≡ v
      here = get_or-set_same ws (row_width * i + 1) v 0 (omega arith)

      at : (j : ℕ) → j < length (answers_in n (with_answer ws i v)) → get_or (answers_in n (with_answer ws i v)) j 0 ≡ get_or (set (answers_in n ws) i v) j 0
      at j b =
          let k : j < n = omega (arith, length_answers_in n (with_answer ws i v)) in
          answer_in_law n j (with_answer ws i v) k ∙
          by_equal j i
          (λ e. ap (λ (m : ℕ). answer_in (with_answer ws i v) m) e ∙ here ∙ sym (get_or-set_same (answers_in n ws) i v 0 (omega (arith, length_answers_in n ws))) ∙
          ap (λ (m : ℕ). get_or (set (answers_in n ws) i v) m 0) (sym e))
          (λ d. word_other (row_width * j + 1) (λ e. d (omega (arith, e))) ∙ sym (answer_in_law n j ws k) ∙ sym (get_or-set_other (answers_in n ws) i j v 0 d))

  behind_answer : drop (row_width * n) (with_answer ws i v) ≡ drop (row_width * n) ws
  behind_answer =
      ext_get_or 0 (drop (row_width * n) (with_answer ws i v)) (drop (row_width * n) ws)
      (length-drop (row_width * n) (with_answer ws i v) ∙ ap (λ (k : ℕ). k - row_width * n) long ∙ sym (length-drop (row_width * n) ws))
      (λ j b. get_or-drop (row_width * n) (with_answer ws i v) j 0 ∙ word_other (row_width * n + j) (λ e. absurd (omega (arith, e))) ∙ sym (get_or-drop (row_width * n) ws j 0))

  pub left_answer : Left ws ns (with_answer ws i v) (store_of ws ns n) (set (answers_in n ws) i v)
  left_answer =
      let u = used_of ws ns n in
      record {
        same_size = long;
        store = ap (store_of (with_answer ws i v) ns) u ∙ answered_store;
        answered = ap (λ (k : ℕ). answers_in k (with_answer ws i v)) u ∙ answered_answers;
        behind = ap (λ (k : ℕ). drop (row_width * k) (with_answer ws i v)) u ∙ behind_answer ∙ ap (λ (k : ℕ). drop (row_width * k) ws) (sym u);
      }

  -- the index and the marks do not look at answers
  pub ready_answered : {ix : List ℕ} → Bank ws ns n ix → Bank (with_answer ws i v) ns n ix
  ready_answered {ix = ix} r =
      record {
        good = subst Good (sym answered_store) r.good;
        lent = subst (λ (k : ℕ). k / row_width ≤ most_rows) (sym long) r.lent;
        finding = record {
          some = r.finding.some;
          few = r.finding.few;
          room = omega (arith, long);
          roomy = record { some = r.finding.roomy.some; few = r.finding.roomy.few; long = omega (arith, long, r.finding.roomy.long) };
          indexed = indexed_same (with_answer ws i v) (λ j b. same_symbol j) (λ j b. same_places j) r.finding.indexed;
          no_twins = λ a b z p q e f. r.finding.no_twins a b z p q (sym (same_symbol a) ∙ e ∙ same_symbol b) (sym (same_places a) ∙ f ∙ same_places b);
        };
        holed = subst (λ (x : Store). Holed x ix n) (sym answered_store) r.holed;
      }

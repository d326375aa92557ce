-- What is read was written: where a reader gives symbols and a rest, the text before the rest is the written form of a record with those symbols.
-- By induction on the readers' fuel; the table gives only symbols that have the letter and the count read.
use mathlib.Core.Path.{◌≡◌, refl, sym, ap, ◌∙◌}
use mathlib.Core.Bool.{Bool, true, false, ◌&&◌, cond}
use mathlib.Core.List.{List, [], ◌∷◌, ◌++◌, append_assoc}
use Prim.Native.Nat.{ℕ, zero, suc, ◌+◌, ◌*◌, ◌≤◌, ◌<◌}
use native.Mathlib.Omega.{arith}
use lib.Dec.{ltb, eqb}
use lib.ListN.{length, drop}
use borrow.Author.Tests.{ltb-true, eqb-true, eqb-false}
use Rattle.model.specs.Limits.{most_children}
use Rattle.model.specs.Terms.{Tree, tree, Forest, leaf, grove, child_count, Over, over_tree, AllOver, over_leaf, over_grove, eval_tree, eval_forest, listed, symbols_of}
use Rattle.model.proofs.Laws.Tests.{both_true}
use Rattle.model.proofs.Laws.Records.{lists_of}
use Rattle.text.specs.Bytes.{comma, opening, closing}
use Rattle.text.specs.Written.{others, bracketed, text_of}
use Rattle.text.specs.Reading.{Reading, unread, read, no_symbol, known_of, symbol_in, closed, opens, after_child, record_from, list_from, record_at}
use Rattle.text.proofs.Known.{Names, symbol_names}
use Rattle.text.proofs.Forwards.{texts_of}

-- READ AS A RECORD, and as a child and the others behind it
pub record Record (letters counts symbols text after rest : List ℕ) : Type 0 where
  pub self : Tree
  pub over : Over counts self
  pub form : text ≡ text_of letters self ++ rest
  pub gives : after ≡ symbols ++ symbols_of self

record Children (letters counts : List ℕ) (letter child : ℕ) (symbols text after rest : List ℕ) : Type 0 where
  first : Tree
  more : Forest
  parent : ℕ
  names : Names letters counts letter (child + child_count more) parent
  over : Over counts first
  overs : AllOver counts more
  form : text ≡ (text_of letters first ++ others (texts_of letters more)) ++ rest
  gives : after ≡ symbols ++ listed parent (symbols_of first ∷ lists_of more)

-- a record's end
record End (letters counts : List ℕ) (letter count : ℕ) (symbols text after rest : List ℕ) : Type 0 where
  parent : ℕ
  names : Names letters counts letter count parent
  form : text ≡ rest
  gives : after ≡ symbols ++ (parent ∷ [])

bracket : (bs : List ℕ) → opens bs ≡ true → bs ≡ opening ∷ drop 1 bs
bracket [] e = let z : ◌≡◌ {A = ℕ} 0 1 = cc in absurd (omega arith)
bracket (b ∷ bs) e = ap (λ (c : ℕ). c ∷ bs) (eqb-true b opening e)

module _ (ls ns : List ℕ) (paired : length ls ≡ length ns) where
  ended : (b k : ℕ) → k ≤ most_children → (xs bs ys rest : List ℕ) → closed (known_of ls ns) b k xs bs ≡ read ys rest → End ls ns b k xs bs ys rest
  ended b k m xs bs ys rest e = go (eqb (symbol_in (known_of ls ns) b k) no_symbol) refl e
    where
      go : (z : Bool) → eqb (symbol_in (known_of ls ns) b k) no_symbol ≡ z → cond z unread (read (xs ++ (symbol_in (known_of ls ns) b k ∷ [])) bs) ≡ read ys rest →
          End ls ns b k xs bs ys rest
      go true p q = let z : ◌≡◌ {A = ℕ} 0 1 = cc in absurd (omega arith)
      go false p q =
          record {
            parent = symbol_in (known_of ls ns) b k;
            names = symbol_names ls ns b k m (eqb-false (symbol_in (known_of ls ns) b k) no_symbol p);
            form = cc;
            gives = cc;
          }

  -- THE LAST CHILD, and one before others
  last_child : (b k : ℕ) (xs bs zs cs ys rest : List ℕ) → Record ls ns xs bs zs (closing ∷ cs) → End ls ns b k zs cs ys rest → Children ls ns b k xs bs ys rest
  unfolding eval_forest others listed child_count
  last_child b k xs bs zs cs ys rest r d =
      let t : Tree = r.self in
      record {
        first = t;
        more = leaf;
        parent = d.parent;
        names = let e : k ≡ k + 0 = omega arith in rw e at d.names;
        over = r.over;
        overs = over_leaf;
        form = r.form ∙ sym (append_assoc (text_of ls t) (closing ∷ []) cs) ∙ ap (λ (v : List ℕ). (text_of ls t ++ (closing ∷ [])) ++ v) d.form;
        gives = d.gives ∙ ap (λ (v : List ℕ). v ++ (d.parent ∷ [])) r.gives ∙ append_assoc xs (symbols_of t) (d.parent ∷ []);
      }

  next_child : (b k : ℕ) (xs bs zs cs ys rest : List ℕ) → Record ls ns xs bs zs (comma ∷ cs) → Children ls ns b (suc k) zs cs ys rest → Children ls ns b k xs bs ys rest
  unfolding eval_forest others listed child_count
  next_child b k xs bs zs cs ys rest r c =
      let t : Tree = r.self in
      let v : List ℕ = text_of ls c.first ++ others (texts_of ls c.more) in
      record {
        first = t;
        more = grove c.first c.more;
        parent = c.parent;
        names = let e : suc k + child_count c.more ≡ k + suc (child_count c.more) = omega arith in rw e at c.names;
        over = r.over;
        overs = over_grove c.over c.overs;
        form = r.form ∙ ap (λ (u : List ℕ). text_of ls t ++ (comma ∷ u)) c.form ∙ sym (append_assoc (text_of ls t) (comma ∷ v) rest);
        gives = c.gives ∙ ap (λ (u : List ℕ). u ++ listed c.parent (symbols_of c.first ∷ lists_of c.more)) r.gives ∙
            append_assoc xs (symbols_of t) (listed c.parent (symbols_of c.first ∷ lists_of c.more));
      }

  after_child_law : (more : List ℕ → List ℕ → Reading) (b k : ℕ) → k ≤ most_children → (xs bs ys rest : List ℕ) (r : Reading) →
      ((zs cs : List ℕ) → r ≡ read zs cs → Record ls ns xs bs zs cs) →
      ((zs cs : List ℕ) → k < most_children → more zs cs ≡ read ys rest → Children ls ns b (suc k) zs cs ys rest) →
      after_child more (known_of ls ns) b k r ≡ read ys rest → Children ls ns b k xs bs ys rest
  after_child_law more b k m xs bs ys rest unread f g e = let z : ◌≡◌ {A = ℕ} 0 1 = cc in absurd (omega arith)
  after_child_law more b k m xs bs ys rest (read zs []) f g e = let z : ◌≡◌ {A = ℕ} 0 1 = cc in absurd (omega arith)
  after_child_law more b k m xs bs ys rest (read zs (c ∷ cs)) f g e = go (eqb c closing) refl (eqb c comma && ltb k most_children) refl e
    where
      go : (z : Bool) → eqb c closing ≡ z → (y : Bool) → eqb c comma && ltb k most_children ≡ y →
          cond z (closed (known_of ls ns) b k zs cs) (cond y (more zs cs) unread) ≡ read ys rest → Children ls ns b k xs bs ys rest
      go true p y q s = last_child b k xs bs zs cs ys rest (rw (eqb-true c closing p) at (f zs (c ∷ cs) refl)) (ended b k m zs cs ys rest s)
      go false p true q s =
          let h = both_true (eqb c comma) (ltb k most_children) q in
          next_child b k xs bs zs cs ys rest (rw (eqb-true c comma h.0) at (f zs (c ∷ cs) refl)) (g zs cs (ltb-true k most_children h.1) s)
      go false p false q s = let z : ◌≡◌ {A = ℕ} 0 1 = cc in absurd (omega arith)

  -- A RECORD without children, and with some
  alone : (b : ℕ) (xs bs ys rest : List ℕ) → End ls ns b 0 xs bs ys rest → Record ls ns xs (b ∷ bs) ys rest
  unfolding eval_tree eval_forest bracketed listed child_count
  alone b xs bs ys rest d =
      let a : ℕ = d.parent in
      let h = d.names.head in
      let f = d.form in
      record {
        self = tree a leaf;
        over = over_tree {a = a} (omega (arith, d.names.known)) (sym d.names.arity) over_leaf;
        form = cc;
        gives = d.gives;
      }

  with_children : (b : ℕ) (xs bs ys rest : List ℕ) → Children ls ns b 1 xs bs ys rest → Record ls ns xs (b ∷ (opening ∷ bs)) ys rest
  unfolding eval_tree eval_forest bracketed listed child_count
  with_children b xs bs ys rest c =
      let a : ℕ = c.parent in
      let h = c.names.head in
      let f = c.form in
      record {
        self = tree a (grove c.first c.more);
        over = over_tree {a = a} {ts = grove c.first c.more} (omega (arith, c.names.known)) (omega (arith, c.names.arity)) (over_grove c.over c.overs);
        form = cc;
        gives = c.gives;
      }

  mutual
    unfolding record_from list_from

    record_from_law : (n : ℕ) (xs bs ys rest : List ℕ) → record_from n (known_of ls ns) xs bs ≡ read ys rest → Record ls ns xs bs ys rest
    record_from_law zero xs bs ys rest e = let z : ◌≡◌ {A = ℕ} 0 1 = cc in absurd (omega arith)
    record_from_law (suc n) xs [] ys rest e = let z : ◌≡◌ {A = ℕ} 0 1 = cc in absurd (omega arith)
    record_from_law (suc n) xs (b ∷ bs) ys rest e = go (λ p. children_from n b 1 (omega arith) xs (drop 1 bs) ys rest p) (opens bs) refl e
      where
        go : (list_from n (known_of ls ns) b 1 xs (drop 1 bs) ≡ read ys rest → Children ls ns b 1 xs (drop 1 bs) ys rest) → (z : Bool) → opens bs ≡ z →
            cond z (list_from n (known_of ls ns) b 1 xs (drop 1 bs)) (closed (known_of ls ns) b 0 xs bs) ≡ read ys rest → Record ls ns xs (b ∷ bs) ys rest
        go f true p q = rw (bracket bs p) (with_children b xs (drop 1 bs) ys rest (f q))
        go f false p q = alone b xs bs ys rest (ended b 0 (omega arith) xs bs ys rest q)

    children_from : (n b k : ℕ) → k ≤ most_children → (xs bs ys rest : List ℕ) → list_from n (known_of ls ns) b k xs bs ≡ read ys rest → Children ls ns b k xs bs ys rest
    children_from zero b k m xs bs ys rest e = let z : ◌≡◌ {A = ℕ} 0 1 = cc in absurd (omega arith)
    children_from (suc n) b k m xs bs ys rest e =
        after_child_law (list_from n (known_of ls ns) b (suc k)) b k m xs bs ys rest (record_from n (known_of ls ns) xs bs) (λ zs cs p. record_from_law n xs bs zs cs p)
        (λ zs cs l p. children_from n b (suc k) l zs cs ys rest p) e

  pub record_read : (xs bs ys rest : List ℕ) → record_at (known_of ls ns) xs bs ≡ read ys rest → Record ls ns xs bs ys rest
  record_read xs bs ys rest e = record_from_law (2 * length bs + 1) xs bs ys rest e

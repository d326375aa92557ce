-- What is written is read: the readers take a record's written form off the text, append its symbols, and leave what follows it.
-- By induction on the record and its children, one step of the readers at each. A record without children must not be followed by a bracket that opens.
use mathlib.Core.Path.{◌≡◌, refl, ap, ◌∙◌}
use mathlib.Core.Bool.{Bool, false, cond}
use mathlib.Core.List.{List, [], ◌∷◌, ◌++◌, append_assoc}
use Prim.Native.Nat.{ℕ, suc, ◌+◌, ◌≤◌, ◌<◌}
use native.Mathlib.Omega.{arith}
use lib.Dec.{eqb}
use lib.ListN.{length, drop}
use borrow.Author.Tests.{lt-ltb, ne_eqb}
use Rattle.model.specs.Limits.{most_children}
use Rattle.model.specs.Terms.{Tree, tree, Forest, leaf, grove, child_count, Over, over_tree, AllOver, over_grove, eval_tree, eval_forest, listed, symbols_of}
use Rattle.model.proofs.Laws.Records.{lists_of}
use Rattle.text.specs.Written.{letter_of, others, bracketed, written, text_of}
use Rattle.text.specs.Reading.{unread, read, no_symbol, known_of, symbol_in, closed, opens, after_child, record_at, list_at}
use Rattle.text.specs.Promise.{Lettered}
use Rattle.text.proofs.Steps.{record_step, list_step}
use Rattle.text.proofs.Known.{few_letters, symbol_held}

-- the written children
abbrev pub texts_of : (letters : List ℕ) → Forest → List (List ℕ)
texts_of ls ts = eval_forest (written ls) ts

-- what follows a child opens no bracket
others_shut : (ts : List (List ℕ)) (rest : List ℕ) → opens (others ts ++ rest) ≡ false
unfolding others
others_shut [] rest = refl
others_shut (t ∷ ts) rest = refl

-- a letter and a count that name a symbol close its record
closed_as : (kn : List ℕ) (b k a : ℕ) (xs rest : List ℕ) → symbol_in kn b k ≡ a → a < no_symbol → closed kn b k xs rest ≡ read (xs ++ (a ∷ [])) rest
closed_as kn b k a xs rest e l =
    ap (λ (s : ℕ). cond (eqb s no_symbol) unread (read (xs ++ (s ∷ [])) rest)) e ∙
    ap (λ (z : Bool). cond z unread (read (xs ++ (a ∷ [])) rest)) (ne_eqb a no_symbol (λ q. omega arith))

-- an opened list before its first child stands as one behind a child, with a comma for the bracket
opened : (kn xs : List ℕ) (b : ℕ) (ts : List (List ℕ)) (rest : List ℕ) → opens rest ≡ false →
    record_at kn xs (b ∷ (bracketed ts ++ rest)) ≡ after_child (list_at kn b 1) kn b 0 (read xs (others ts ++ rest))
unfolding others bracketed
opened kn xs b [] rest s = record_step kn xs b rest ∙ ap (λ (z : Bool). cond z (list_at kn b 1 xs (drop 1 rest)) (closed kn b 0 xs rest)) s
opened kn xs b (t ∷ ts) rest s = record_step kn xs b (bracketed (t ∷ ts) ++ rest)

-- a comma and another child
next_child : (kn : List ℕ) (b k : ℕ) (xs t : List ℕ) (ts : List (List ℕ)) (rest : List ℕ) → k < most_children →
    after_child (list_at kn b (suc k)) kn b k (read xs (others (t ∷ ts) ++ rest)) ≡
    after_child (list_at kn b (suc (suc k))) kn b (suc k) (record_at kn xs (t ++ (others ts ++ rest)))
unfolding others
next_child kn b k xs t ts rest l =
    ap (λ (z : Bool). cond z (list_at kn b (suc k) xs ((t ++ others ts) ++ rest)) unread) (lt-ltb k most_children l) ∙
    ap (list_at kn b (suc k) xs) (append_assoc t (others ts) rest) ∙ list_step kn b (suc k) xs (t ++ (others ts ++ rest))

module _ {ls ns : List ℕ} (w : Lettered ls ns) where
  mutual
    unfolding eval_tree eval_forest others listed child_count

    pub record_written : (t : Tree) → Over ns t → (xs rest : List ℕ) → opens rest ≡ false → record_at (known_of ls ns) xs (text_of ls t ++ rest) ≡ read (xs ++ symbols_of t) rest
    record_written (tree a ts) (over_tree l n os) xs rest s =
        let f = few_letters w in
        let p : a < length ls = omega (arith, w.paired) in
        let e : symbol_in (known_of ls ns) (letter_of ls a) (0 + child_count ts) ≡ a =
        ap (symbol_in (known_of ls ns) (letter_of ls a)) (omega (arith, n)) ∙ symbol_held w a p in
        opened (known_of ls ns) xs (letter_of ls a) (texts_of ls ts) rest s ∙
        others_written ts os (letter_of ls a) 0 a xs rest (omega (arith, n, w.few a)) e (omega arith)

    others_written : (ts : Forest) → AllOver ns ts → (b k a : ℕ) (xs rest : List ℕ) → k + child_count ts ≤ most_children →
        symbol_in (known_of ls ns) b (k + child_count ts) ≡ a → a < no_symbol →
        after_child (list_at (known_of ls ns) b (suc k)) (known_of ls ns) b k (read xs (others (texts_of ls ts) ++ rest)) ≡ read (xs ++ listed a (lists_of ts)) rest
    others_written leaf os b k a xs rest m e l = closed_as (known_of ls ns) b k a xs rest (ap (symbol_in (known_of ls ns) b) (omega arith) ∙ e) l
    others_written (grove t ts) (over_grove o os) b k a xs rest m e l =
        let q : symbol_in (known_of ls ns) b (suc k + child_count ts) ≡ a = ap (symbol_in (known_of ls ns) b) (omega arith) ∙ e in
        next_child (known_of ls ns) b k xs (text_of ls t) (texts_of ls ts) rest (omega arith) ∙
        ap (after_child (list_at (known_of ls ns) b (suc (suc k))) (known_of ls ns) b (suc k))
        (record_written t o xs (others (texts_of ls ts) ++ rest) (others_shut (texts_of ls ts) rest)) ∙
        others_written ts os b (suc k) a (xs ++ symbols_of t) rest (omega arith) q l ∙
        ap (λ (ys : List ℕ). read ys rest) (append_assoc xs (symbols_of t) (listed a (lists_of ts)))

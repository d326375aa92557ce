-- Written forms balance: letters and commas are no brackets, and a list closes what it opened.
-- By induction on the record and its children.
use mathlib.Core.Path.{◌≡◌, refl, ap, ◌∙◌}
use mathlib.Core.Logic.{◌≢◌, ◌⊎◌, inl, inr}
use mathlib.Core.Bool.{true}
use mathlib.Core.List.{List, [], ◌∷◌, ◌++◌, append_assoc}
use Prim.Native.Nat.{ℕ, zero, suc}
use native.Mathlib.Omega.{arith}
use lib.Dec.{leb}
use borrow.Author.Tests.{leb-true, ne_eqb}
use Rattle.model.specs.Base.{is_in}
use Rattle.model.specs.Terms.{Tree, tree, Forest, leaf, grove, Over, over_tree, AllOver, over_grove, eval_tree, eval_forest}
use Rattle.model.proofs.Laws.Tests.{both_true, or_cases}
use Rattle.text.specs.Bytes.{opening, closing, is_letter, no_letter}
use Rattle.text.specs.Written.{letter_of, others, bracketed, written, text_of}
use Rattle.text.specs.Reading.{balanced_from}
use Rattle.text.specs.Promise.{Lettered}
use Rattle.text.proofs.Known.{letter_at}

-- ONE BYTE
no_bracket : (b : ℕ) → is_letter b ≡ true → (b ≢ opening) × (b ≢ closing)
no_bracket b e = go (or_cases (is_in 65 90 b) (is_in 97 122 b) e)
  where
    go : (is_in 65 90 b ≡ true) ⊎ (is_in 97 122 b ≡ true) → (b ≢ opening) × (b ≢ closing)
    go (inl p) = let l = leb-true b 90 (both_true (leb 65 b) (leb b 90) p).1 in ((λ q. omega arith), (λ q. omega arith))
    go (inr p) = let l = leb-true 97 b (both_true (leb 97 b) (leb b 122) p).0 in ((λ q. omega arith), (λ q. omega arith))

plain : (d b : ℕ) (bs : List ℕ) → (b ≢ opening) × (b ≢ closing) → balanced_from d (b ∷ bs) ≡ balanced_from d bs
unfolding balanced_from
plain zero b bs n = rw (ne_eqb b closing n.1, ne_eqb b opening n.0)
plain (suc d) b bs n = rw (ne_eqb b closing n.1, ne_eqb b opening n.0)

opened : (d : ℕ) (bs : List ℕ) → balanced_from d (opening ∷ bs) ≡ balanced_from (suc d) bs
unfolding balanced_from
opened zero bs = refl
opened (suc d) bs = refl

shut : (d : ℕ) (bs : List ℕ) → balanced_from (suc d) (closing ∷ bs) ≡ balanced_from d bs
unfolding balanced_from
shut d bs = refl

-- A RECORD. An opened list stands as one behind a child, with a comma for the bracket
brackets : (d : ℕ) (ts : List (List ℕ)) (rest : List ℕ) → balanced_from (suc d) (others ts ++ rest) ≡ balanced_from d rest →
    balanced_from d (bracketed ts ++ rest) ≡ balanced_from d rest
unfolding others bracketed balanced_from
brackets d [] rest e = refl
brackets d (t ∷ ts) rest e = opened d ((t ++ others ts) ++ rest) ∙ e

module _ {ls ns : List ℕ} (w : Lettered ls ns) where
  mutual
    unfolding eval_tree eval_forest others balanced_from

    pub record_balances : (t : Tree) → Over ns t → (d : ℕ) (rest : List ℕ) → balanced_from d (text_of ls t ++ rest) ≡ balanced_from d rest
    record_balances (tree a ts) (over_tree l n os) d rest =
        plain d (letter_of ls a) (bracketed (eval_forest (written ls) ts) ++ rest) (no_bracket (letter_of ls a) (letter_at w.letter a no_letter (omega (arith, w.paired)))) ∙
        brackets d (eval_forest (written ls) ts) rest (others_balance ts os d rest)

    others_balance : (ts : Forest) → AllOver ns ts → (d : ℕ) (rest : List ℕ) → balanced_from (suc d) (others (eval_forest (written ls) ts) ++ rest) ≡ balanced_from d rest
    others_balance leaf os d rest = shut d rest
    others_balance (grove t ts) (over_grove o os) d rest =
        ap (balanced_from (suc d)) (append_assoc (text_of ls t) (others (eval_forest (written ls) ts)) rest) ∙
        record_balances t o (suc d) (others (eval_forest (written ls) ts) ++ rest) ∙ others_balance ts os d rest

-- What a later line asks for, by its length and its first two bytes.
-- By the first bytes of the line.
use Rattle.std.proofs.Common.{◌≡◌, refl, ℕ, List, [], ◌∷◌, length, get_or, Bool, ◌&&◌, cond, nat_eq, nat_le, arith}
use Rattle.std.proofs.lemmas.Bool.Decides.{nat_tests}
use Rattle.model.specs.Base.{same}
use Rattle.text.specs.Bytes.{space, plus, minus, most_input}
use Rattle.text_lines.specs.declared.lines.Asked.{Asked}
use Rattle.text_lines.specs.Asks.{asked_of}

abbrev pub starts : (line : List ℕ) → (first second : ℕ) → Bool
starts bs a b = nat_eq (get_or bs 0 0) a && nat_eq (get_or bs 1 0) b

same_one : (bs : List ℕ) (a : ℕ) → same bs (a ∷ []) ≡ (nat_eq (length bs) 1 && nat_eq (get_or bs 0 0) a)
unfolding same
same_one [] a = refl
same_one (b ∷ []) a = grind (arith, nat_tests)
same_one (b ∷ c ∷ bs) a = grind (arith, nat_tests)

same_two : (bs : List ℕ) (a b : ℕ) → same bs (a ∷ b ∷ []) ≡ (nat_eq (length bs) 2 && starts bs a b)
unfolding same
same_two [] a b = refl
same_two (c ∷ []) a b = grind (arith, nat_tests)
same_two (c ∷ d ∷ []) a b = grind (arith, nat_tests)
same_two (c ∷ d ∷ e ∷ bs) a b = grind (arith, nat_tests)

pub asked_by : (bs : List ℕ) → asked_of bs ≡
    cond (nat_eq (length bs) 1 && nat_eq (get_or bs 0 0) 121) (Asked.Answer 1)
    (cond (nat_eq (length bs) 1 && nat_eq (get_or bs 0 0) 110) (Asked.Answer 0)
    (cond (nat_eq (length bs) 2 && starts bs 111 107) Asked.Accept
    (cond (nat_le 2 (length bs) && nat_le (length bs) most_input && starts bs plus space) (Asked.Offer 1)
    (cond (nat_le 2 (length bs) && nat_le (length bs) most_input && starts bs minus space) (Asked.Offer 0) Asked.Nothing))))
asked_by [] = rw (same_one [] 121, same_one [] 110, same_two [] 111 107) refl
asked_by (b ∷ []) = rw (same_one (b ∷ []) 121, same_one (b ∷ []) 110, same_two (b ∷ []) 111 107) (grind (arith, nat_tests))
asked_by (b ∷ c ∷ bs) = rw (same_one (b ∷ c ∷ bs) 121, same_one (b ∷ c ∷ bs) 110, same_two (b ∷ c ∷ bs) 111 107) (grind (arith, nat_tests))

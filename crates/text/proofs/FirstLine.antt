-- What a first line gives: as many letters as counts, no letter twice; with counts that start takes, letters to write records in.
-- By induction on the line, along the clauses of pairs_from.
use mathlib.Core.Path.{◌≡◌, refl}
use mathlib.Core.Bool.{Bool, true, false, ◌&&◌, not, cond}
use mathlib.Core.List.{List, [], ◌∷◌, ◌++◌}
use Prim.Native.Nat.{ℕ, ◌-◌, ◌≤◌}
use native.Mathlib.Omega.{arith}
use lib.Dec.{leb, ltb, eqb}
use lib.ListN.{length, get_or, length-append, get_or-eq_default}
use borrow.Author.Tests.{leb-true, ltb-true, ltb-false, not-true}
use Rattle.model.specs.Limits.{most_symbols, most_children}
use Rattle.model.specs.Base.{is_in, all, among, Each, each_nil, each_cons, Distinct, distinct_nil}
use Rattle.model.specs.Sound.{alphabet_fits}
use Rattle.model.proofs.Laws.Tests.{and_left, and_right, all_get_d}
use Rattle.model.proofs.Laws.Lists.{in_not, distinct_snoc}
use Rattle.text.specs.Bytes.{is_letter, is_digit, space, zero_digit}
use Rattle.text.specs.Alphabet.{no_alphabet, alphabet, pair_fits, pairs_from, alphabet_of}
use Rattle.text.specs.Promise.{Lettered}

-- the letters and counts so far
record Paired (letters counts : List ℕ) : Type 0 where
  paired : length letters ≡ length counts
  distinct : Distinct letters
  letter : Each (λ (b : ℕ). is_letter b ≡ true) letters

none_paired : Paired [] []
none_paired = record { paired = refl; distinct = distinct_nil; letter = each_nil }

each_snoc : {P : ℕ → Type 0} (ks : List ℕ) (k : ℕ) → Each P ks → P k → Each P (ks ++ (k ∷ []))
each_snoc [] k a p = each_cons p each_nil
each_snoc (j ∷ ks) k (each_cons q a) p = each_cons q (each_snoc ks k a p)

-- one pair more
one_more : (ls ns : List ℕ) (b s d : ℕ) → Paired ls ns → pair_fits ls b s d ≡ true → Paired (ls ++ (b ∷ [])) (ns ++ ((d - zero_digit) ∷ []))
one_more ls ns b s d p f =
    let new = not-true (among b ls) (and_right (ltb (length ls) most_symbols && is_letter b && eqb s space && is_digit d) (not (among b ls)) f) in
    let q = and_left (ltb (length ls) most_symbols && is_letter b && eqb s space && is_digit d) (not (among b ls)) f in
    let r = and_left (ltb (length ls) most_symbols && is_letter b && eqb s space) (is_digit d) q in
    let t = and_left (ltb (length ls) most_symbols && is_letter b) (eqb s space) r in
    record {
      paired = omega (arith, p.paired, length-append ls (b ∷ []), length-append ns ((d - zero_digit) ∷ []));
      distinct = distinct_snoc b (in_not b ls new) p.distinct;
      letter = each_snoc ls b p.letter (and_right (ltb (length ls) most_symbols) (is_letter b) t);
    }

as_read : (ls ns ms ks : List ℕ) → Paired ls ns → alphabet ls ns ≡ alphabet ms ks → Paired ms ks
as_read ls ns ms ks p e =
    let u : ls ≡ ms = cc in
    let v : ns ≡ ks = cc in
    rw (u, v) at p

no_pairs : {A : Type 0} (ms ks : List ℕ) → no_alphabet ≡ alphabet ms ks → A
no_pairs ms ks e = let z : ◌≡◌ {A = ℕ} 0 1 = cc in absurd (omega arith)

pairs_paired : (ls ns line ms ks : List ℕ) → Paired ls ns → pairs_from ls ns line ≡ alphabet ms ks → Paired ms ks
unfolding pairs_from
pairs_paired ls ns (b ∷ s ∷ d ∷ []) ms ks p e = go (pair_fits ls b s d) refl e
  where
    go : (z : Bool) → pair_fits ls b s d ≡ z → cond z (alphabet (ls ++ (b ∷ [])) (ns ++ ((d - zero_digit) ∷ []))) no_alphabet ≡ alphabet ms ks → Paired ms ks
    go true f q = as_read (ls ++ (b ∷ [])) (ns ++ ((d - zero_digit) ∷ [])) ms ks (one_more ls ns b s d p f) q
    go false f q = no_pairs ms ks q
pairs_paired ls ns (b ∷ s ∷ d ∷ c ∷ bs) ms ks p e =
    go (λ q r. pairs_paired (ls ++ (b ∷ [])) (ns ++ ((d - zero_digit) ∷ [])) bs ms ks q r) (pair_fits ls b s d && eqb c space) refl e
  where
    go : (Paired (ls ++ (b ∷ [])) (ns ++ ((d - zero_digit) ∷ [])) → pairs_from (ls ++ (b ∷ [])) (ns ++ ((d - zero_digit) ∷ [])) bs ≡ alphabet ms ks → Paired ms ks) →
        (z : Bool) → pair_fits ls b s d && eqb c space ≡ z → cond z (pairs_from (ls ++ (b ∷ [])) (ns ++ ((d - zero_digit) ∷ [])) bs) no_alphabet ≡ alphabet ms ks → Paired ms ks
    go ih true f q = ih (one_more ls ns b s d p (and_left (pair_fits ls b s d) (eqb c space) f)) q
    go ih false f q = no_pairs ms ks q
pairs_paired ls ns [] ms ks p e = no_pairs ms ks e
pairs_paired ls ns (b ∷ []) ms ks p e = no_pairs ms ks e
pairs_paired ls ns (b ∷ s ∷ []) ms ks p e = no_pairs ms ks e

line_paired : (line ms ks : List ℕ) → alphabet_of line ≡ alphabet ms ks → Paired ms ks
unfolding alphabet_of
line_paired [] ms ks e = as_read [] [] ms ks none_paired e
line_paired (b ∷ bs) ms ks e = pairs_paired [] [] (b ∷ bs) ms ks none_paired e

-- counts that start takes
low_count : (ns : List ℕ) → alphabet_fits ns ≡ true → (a : ℕ) → get_or ns a 0 ≤ most_children
low_count ns f a = go (ltb a (length ns)) refl
  where
    go : (z : Bool) → ltb a (length ns) ≡ z → get_or ns a 0 ≤ most_children
    go true e =
        leb-true (get_or ns a 0) most_children
        (all_get_d (λ (n : ℕ). leb n most_children) ns a 0 (and_right (is_in 1 most_symbols (length ns)) (all (λ (n : ℕ). leb n most_children) ns) f) (ltb-true a (length ns) e))
    go false e = omega (arith, get_or-eq_default ns 0 (ltb-false a (length ns) e))

pub line_lettered : (line ls ns : List ℕ) → alphabet_of line ≡ alphabet ls ns → alphabet_fits ns ≡ true → Lettered ls ns
line_lettered line ls ns e f =
    let p = line_paired line ls ns e in
    record { paired = p.paired; distinct = p.distinct; letter = p.letter; few = low_count ns f }

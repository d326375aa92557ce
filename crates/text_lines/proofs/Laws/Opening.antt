-- A first line read pair by pair: what is left of the line, behind the letters and counts so far, decides how the line is read.
-- By the clauses of `pairs_from` at a rest that is split at its first bytes.
use mathlib.Core.Path.{◌≡◌, refl, sym, ap, subst, ◌∙◌}
use mathlib.Core.Bool.{Bool, true, false}
use mathlib.Core.List.{List, [], ◌∷◌, ◌++◌}
use Prim.Native.Nat.{ℕ, ◌+◌, ◌-◌, ◌≤◌, ◌<◌}
use native.Mathlib.Omega.{arith}
use native.Mathlib.Numerals.{add-one}
use borrow.Author.Tests.{eq-eqb, ne_eqb}
use lib.ListN.{length, get_or, take, drop, set, take-append-drop, length-set}
use lib.Seq.{length-take-le, take-suc-set, drop-set-lt, drop-drop}
use Rattle.model.specs.Limits.{most_symbols}
use Rattle.text.specs.Bytes.{space, zero_digit}
use Rattle.text.specs.Alphabet.{Alphabet, no_alphabet, alphabet, pair_fits, pairs_from, alphabet_of}
use Rattle.std.proofs.Common.{Some, None}
use Rattle.std.proofs.lemmas.List.{take_rest}
use Rattle.std.proofs.lemmas.Bool.Decides.{nat_tests}
use Rattle.text_lines.specs.Opens.{OpenedAs}

-- a pair that fits has room
pub pair_room : (ls : List ℕ) (b s d : ℕ) → pair_fits ls b s d ≡ true → length ls < most_symbols
pair_room ls b s d e = grind (arith, nat_tests)

-- ONE PAIR MORE of what is left
module _ (ls ns : List ℕ) (b s d : ℕ) where
  pub pairs_stop : pair_fits ls b s d ≡ false → (bs : List ℕ) → pairs_from ls ns (b ∷ s ∷ d ∷ bs) ≡ no_alphabet
  unfolding pairs_from
  pairs_stop e [] = rw e
  pairs_stop e (c ∷ bs) = rw e

  module _ (e : pair_fits ls b s d ≡ true) where
    pub pairs_last : pairs_from ls ns (b ∷ s ∷ d ∷ []) ≡ alphabet (ls ++ (b ∷ [])) (ns ++ ((d - zero_digit) ∷ []))
    unfolding pairs_from
    pairs_last = rw e

    pub pairs_unparted : (c : ℕ) → (c ≡ space → ⊥) → (bs : List ℕ) → pairs_from ls ns (b ∷ s ∷ d ∷ c ∷ bs) ≡ no_alphabet
    unfolding pairs_from
    pairs_unparted c f bs = rw (e, ne_eqb c space f)

    pub pairs_more : (c : ℕ) → c ≡ space → (bs : List ℕ) →
        pairs_from ls ns (b ∷ s ∷ d ∷ c ∷ bs) ≡ pairs_from (ls ++ (b ∷ [])) (ns ++ ((d - zero_digit) ∷ [])) bs
    unfolding pairs_from
    pairs_more c f bs = rw (e, eq-eqb c space f)

pub pairs_short : (ls ns bs : List ℕ) → length bs < 3 → pairs_from ls ns bs ≡ no_alphabet
unfolding pairs_from
pairs_short ls ns [] l = refl
pairs_short ls ns (b ∷ []) l = refl
pairs_short ls ns (b ∷ s ∷ []) l = refl
pairs_short ls ns (b ∷ s ∷ d ∷ bs) l = absurd (omega arith)

pub alphabet_pairs : (line : List ℕ) → (length line ≡ 0 → ⊥) → alphabet_of line ≡ pairs_from [] [] line
unfolding alphabet_of
alphabet_pairs [] h = absurd (h refl)
alphabet_pairs (b ∷ bs) h = refl

pub alphabet_none : (line : List ℕ) → length line ≡ 0 → alphabet_of line ≡ alphabet [] []
unfolding alphabet_of
alphabet_none [] h = refl
alphabet_none (b ∷ bs) h = absurd (omega arith)

-- WHAT READING COMES TO: no alphabet, or the letters and counts at the starts of their arrays
pub opened_not : {a : Alphabet} → a ≡ no_alphabet → (ls ls' ns' : List ℕ) → OpenedAs a None ls ls' ns'
opened_not e ls ls' ns' = subst (λ (a : Alphabet). OpenedAs a None ls ls' ns') (sym e) refl

pub opened_by : {a : Alphabet} (n : ℕ) (ls ls' ns' : List ℕ) → a ≡ alphabet (take n ls') (take n ns') → n ≤ most_symbols → length ls' ≡ most_symbols → length ns' ≡ most_symbols →
    drop n ls' ≡ drop n ls → OpenedAs a (Some n) ls ls' ns'
opened_by n ls ls' ns' e few l m kept =
    let k : length (take n ls') ≡ n = length-take-le n ls' (omega arith) in
    subst (λ (a : Alphabet). OpenedAs a (Some n) ls ls' ns') (sym e) (
      ap Some (sym k),
      omega arith,
      sym (take-append-drop n ls') ∙ ap (λ (bs : List ℕ). take n ls' ++ bs) kept ∙ ap (λ (i : ℕ). take n ls' ++ drop i ls) (sym k),
      ap (λ (i : ℕ). take i ns') k,
      m,
    )

pub opened_empty : (line ls ns : List ℕ) → length line ≡ 0 → length ls ≡ most_symbols → length ns ≡ most_symbols → OpenedAs (alphabet_of line) (Some 0) ls ls ns
opened_empty line ls ns h l m = opened_by 0 ls ls ns (alphabet_none line h) (omega arith) l m refl

-- A FIRST LINE READ SO FAR: its letters and counts at the starts of their arrays, and what is left of it decides
pub record Opening (line letters₀ letters counts : List ℕ) (size : ℕ) (rest : List ℕ) : Type 0 where
  pub few : size ≤ most_symbols
  pub letters_long : length letters ≡ most_symbols
  pub counts_long : length counts ≡ most_symbols
  pub kept : drop size letters ≡ drop size letters₀
  pub left : alphabet_of line ≡ pairs_from (take size letters) (take size counts) rest

pub opening_first : (line letters counts : List ℕ) → (length line ≡ 0 → ⊥) → length letters ≡ most_symbols → length counts ≡ most_symbols → Opening line letters letters counts 0 line
opening_first line ls ns h l m = record { few = omega arith; letters_long = l; counts_long = m; kept = refl; left = alphabet_pairs line h }

-- the bytes behind the first few, as a pattern takes them
abbrev pub behind : (few : ℕ) → (bytes : List ℕ) → List ℕ
behind k bs = take (length bs - k) (drop k bs)

-- a rest at its first bytes
at_three : (bs : List ℕ) → 3 ≤ length bs → bs ≡ get_or bs 0 0 ∷ get_or bs 1 0 ∷ get_or bs 2 0 ∷ drop 3 bs
at_three [] l = absurd (omega arith)
at_three (b ∷ []) l = absurd (omega arith)
at_three (b ∷ s ∷ []) l = absurd (omega arith)
at_three (b ∷ s ∷ d ∷ bs) l = refl

at_one : (bs : List ℕ) → 1 ≤ length bs → bs ≡ get_or bs 0 0 ∷ drop 1 bs
at_one [] l = absurd (omega arith)
at_one (b ∷ bs) l = refl

at_end : (bs : List ℕ) → length bs < 1 → bs ≡ []
at_end [] l = refl
at_end (b ∷ bs) l = absurd (omega arith)

-- whether the pair at the start of a rest goes with the letters before
abbrev pub fits_at : (rest letters : List ℕ) → (size : ℕ) → Bool
fits_at bs ls size = pair_fits (take size ls) (get_or bs 0 0) (get_or bs 1 0) (get_or bs 2 0)

module _ {line ls₀ ls ns : List ℕ} {size : ℕ} {rest : List ℕ} (o : Opening line ls₀ ls ns size rest) where
  pub opening_short : length rest < 3 → alphabet_of line ≡ no_alphabet
  opening_short l = o.left ∙ pairs_short (take size ls) (take size ns) rest l

  module _ (l : 3 ≤ length rest) where
    left_by : (bs : List ℕ) → behind 3 rest ≡ bs → alphabet_of line ≡ pairs_from (take size ls) (take size ns) (get_or rest 0 0 ∷ get_or rest 1 0 ∷ get_or rest 2 0 ∷ bs)
    left_by bs e =
        o.left ∙ ap (pairs_from (take size ls) (take size ns)) (at_three rest l) ∙
        ap (λ (cs : List ℕ). pairs_from (take size ls) (take size ns) (get_or rest 0 0 ∷ get_or rest 1 0 ∷ get_or rest 2 0 ∷ cs)) (sym (take_rest rest 3) ∙ e)

    pub opening_stop : fits_at rest ls size ≡ false → alphabet_of line ≡ no_alphabet
    opening_stop e = left_by (behind 3 rest) refl ∙ pairs_stop (take size ls) (take size ns) (get_or rest 0 0) (get_or rest 1 0) (get_or rest 2 0) e (behind 3 rest)

    module _ (e : fits_at rest ls size ≡ true) where
      pub opening_room : size < most_symbols
      opening_room =
          let r = pair_room (take size ls) (get_or rest 0 0) (get_or rest 1 0) (get_or rest 2 0) e in
          let k = length-take-le size ls (omega (arith, o.few, o.letters_long)) in
          omega arith

      pub opening_unparted : 1 ≤ length (behind 3 rest) → (get_or (behind 3 rest) 0 0 ≡ space → ⊥) → alphabet_of line ≡ no_alphabet
      opening_unparted k f =
          left_by (get_or (behind 3 rest) 0 0 ∷ drop 1 (behind 3 rest)) (at_one (behind 3 rest) k) ∙
          pairs_unparted (take size ls) (take size ns) (get_or rest 0 0) (get_or rest 1 0) (get_or rest 2 0) e (get_or (behind 3 rest) 0 0) f (drop 1 (behind 3 rest))

      -- the pair is written behind those before it
      one_more : (xs : List ℕ) → length xs ≡ most_symbols → (v : ℕ) → take (size + 1) (set xs size v) ≡ take size xs ++ (v ∷ [])
      one_more xs k v = let r = opening_room in ap (λ (n : ℕ). take n (set xs size v)) (add-one size) ∙ take-suc-set xs size v (omega arith)

      letters_more : take size ls ++ (get_or rest 0 0 ∷ []) ≡ take (size + 1) (set ls size (get_or rest 0 0))
      letters_more = sym (one_more ls o.letters_long (get_or rest 0 0))

      counts_more : take size ns ++ ((get_or rest 2 0 - zero_digit) ∷ []) ≡ take (size + 1) (set ns size (get_or rest 2 0 - zero_digit))
      counts_more = sym (one_more ns o.counts_long (get_or rest 2 0 - zero_digit))

      kept_more : drop (size + 1) (set ls size (get_or rest 0 0)) ≡ drop (size + 1) ls₀
      kept_more = drop-set-lt (size + 1) ls size (get_or rest 0 0) (omega arith) ∙ sym (drop-drop 1 size ls) ∙ ap (drop 1) o.kept ∙ drop-drop 1 size ls₀

      pub opening_more : 1 ≤ length (behind 3 rest) → get_or (behind 3 rest) 0 0 ≡ space →
          Opening line ls₀ (set ls size (get_or rest 0 0)) (set ns size (get_or rest 2 0 - zero_digit)) (size + 1) (behind 1 (behind 3 rest))
      opening_more k f =
          record {
            few = let r = opening_room in omega arith;
            letters_long = length-set ls size (get_or rest 0 0) ∙ o.letters_long;
            counts_long = length-set ns size (get_or rest 2 0 - zero_digit) ∙ o.counts_long;
            kept = kept_more;
            left =
                left_by (get_or (behind 3 rest) 0 0 ∷ drop 1 (behind 3 rest)) (at_one (behind 3 rest) k) ∙
                pairs_more (take size ls) (take size ns) (get_or rest 0 0) (get_or rest 1 0) (get_or rest 2 0) e (get_or (behind 3 rest) 0 0) f (drop 1 (behind 3 rest)) ∙
                (λ t. pairs_from (letters_more t) (counts_more t) (sym (take_rest (behind 3 rest) 1) t));
          }

      pub opening_last : length (behind 3 rest) < 1 →
          OpenedAs (alphabet_of line) (Some (size + 1)) ls₀ (set ls size (get_or rest 0 0)) (set ns size (get_or rest 2 0 - zero_digit))
      opening_last k =
          opened_by (size + 1) ls₀ (set ls size (get_or rest 0 0)) (set ns size (get_or rest 2 0 - zero_digit))
          (left_by [] (at_end (behind 3 rest) k) ∙
          pairs_last (take size ls) (take size ns) (get_or rest 0 0) (get_or rest 1 0) (get_or rest 2 0) e ∙
          (λ t. alphabet (letters_more t) (counts_more t)))
          (let r = opening_room in omega arith)
          (length-set ls size (get_or rest 0 0) ∙ o.letters_long)
          (length-set ns size (get_or rest 2 0 - zero_digit) ∙ o.counts_long)
          kept_more

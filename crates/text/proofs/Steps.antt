-- The readers step by step, without their fuel: a record is a letter and perhaps a list, a list is a child and what follows it.
-- Each reading leaves fewer bytes than it was given, so fuel above twice the length changes nothing, by induction on the fuel.
use mathlib.Core.Path.{◌≡◌, refl, ap, ◌∙◌}
use mathlib.Core.Bool.{Bool, true, false, ◌&&◌, cond}
use mathlib.Core.List.{List, [], ◌∷◌, ◌++◌}
use Prim.Native.Nat.{ℕ, zero, suc, ◌+◌, ◌*◌, ◌≤◌, ◌<◌}
use native.Mathlib.Omega.{arith}
use lib.Dec.{ltb, eqb}
use lib.ListN.{length, drop, length-drop}
use Rattle.model.specs.Limits.{most_children}
use Rattle.text.specs.Bytes.{comma, closing}
use Rattle.text.specs.Reading.{Reading, unread, read, no_symbol, symbol_in, closed, opens, after_child, record_from, list_from, record_at, list_at}

-- WHAT IS LEFT
pub closed_rest : (kn : List ℕ) (b k : ℕ) (xs bs ys rest : List ℕ) → closed kn b k xs bs ≡ read ys rest → rest ≡ bs
closed_rest kn b k xs bs ys rest e = go (eqb (symbol_in kn b k) no_symbol) e
  where
    go : (z : Bool) → cond z unread (read (xs ++ (symbol_in kn b k ∷ [])) bs) ≡ read ys rest → rest ≡ bs
    go true p = let z : ◌≡◌ {A = ℕ} 0 1 = cc in absurd (omega arith)
    go false p = cc

after_shorter : (more : List ℕ → List ℕ → Reading) (kn : List ℕ) (b k n : ℕ) (r : Reading) (ys rest : List ℕ) →
    ((zs cs : List ℕ) → r ≡ read zs cs → length cs < n) →
    ((zs cs : List ℕ) → more zs cs ≡ read ys rest → length rest < length cs) → after_child more kn b k r ≡ read ys rest → length rest < n
after_shorter more kn b k n unread ys rest f g e = let z : ◌≡◌ {A = ℕ} 0 1 = cc in absurd (omega arith)
after_shorter more kn b k n (read zs []) ys rest f g e = let z : ◌≡◌ {A = ℕ} 0 1 = cc in absurd (omega arith)
after_shorter more kn b k n (read zs (c ∷ cs)) ys rest f g e = go (eqb c closing) (eqb c comma && ltb k most_children) e
  where
    fewer : length (c ∷ cs) < n
    fewer = f zs (c ∷ cs) refl

    go : (z w : Bool) → cond z (closed kn b k zs cs) (cond w (more zs cs) unread) ≡ read ys rest → length rest < n
    go true w p = omega (arith, fewer, ap length (closed_rest kn b k zs cs ys rest p))
    go false true p = omega (arith, fewer, g zs cs p)
    go false false p = let z : ◌≡◌ {A = ℕ} 0 1 = cc in absurd (omega arith)

mutual
  unfolding record_from list_from

  record_from_shorter : (n : ℕ) (kn xs bs ys rest : List ℕ) → record_from n kn xs bs ≡ read ys rest → length rest < length bs
  record_from_shorter zero kn xs bs ys rest e = let z : ◌≡◌ {A = ℕ} 0 1 = cc in absurd (omega arith)
  record_from_shorter (suc n) kn xs [] ys rest e = let z : ◌≡◌ {A = ℕ} 0 1 = cc in absurd (omega arith)
  record_from_shorter (suc n) kn xs (b ∷ bs) ys rest e = go (λ p. list_from_shorter n kn b 1 xs (drop 1 bs) ys rest p) (opens bs) e
    where
      go : (list_from n kn b 1 xs (drop 1 bs) ≡ read ys rest → length rest < length (drop 1 bs)) → (z : Bool) →
          cond z (list_from n kn b 1 xs (drop 1 bs)) (closed kn b 0 xs bs) ≡ read ys rest → length rest < length (b ∷ bs)
      go f true p = omega (arith, f p, length-drop 1 bs)
      go f false p = omega (arith, ap length (closed_rest kn b 0 xs bs ys rest p))

  list_from_shorter : (n : ℕ) (kn : List ℕ) (b k : ℕ) (xs bs ys rest : List ℕ) → list_from n kn b k xs bs ≡ read ys rest → length rest < length bs
  list_from_shorter zero kn b k xs bs ys rest e = let z : ◌≡◌ {A = ℕ} 0 1 = cc in absurd (omega arith)
  list_from_shorter (suc n) kn b k xs bs ys rest e =
      after_shorter (list_from n kn b (suc k)) kn b k (length bs) (record_from n kn xs bs) ys rest (λ zs cs p. record_from_shorter n kn xs bs zs cs p)
      (λ zs cs p. list_from_shorter n kn b (suc k) zs cs ys rest p) e

pub record_shorter : (kn xs bs ys rest : List ℕ) → record_at kn xs bs ≡ read ys rest → length rest < length bs
record_shorter kn xs bs ys rest e = record_from_shorter (2 * length bs + 1) kn xs bs ys rest e

pub list_shorter : (kn : List ℕ) (b k : ℕ) (xs bs ys rest : List ℕ) → list_at kn b k xs bs ≡ read ys rest → length rest < length bs
list_shorter kn b k xs bs ys rest e = list_from_shorter (2 * length bs + 2) kn b k xs bs ys rest e

-- FUEL. What follows a child depends on `more` only at the bytes behind the child and its comma
pub after_same : (more other : List ℕ → List ℕ → Reading) (kn : List ℕ) (b k : ℕ) (r : Reading) →
    ((zs : List ℕ) (c : ℕ) (cs : List ℕ) → r ≡ read zs (c ∷ cs) → more zs cs ≡ other zs cs) → after_child more kn b k r ≡ after_child other kn b k r
after_same more other kn b k unread f = refl
after_same more other kn b k (read zs []) f = refl
after_same more other kn b k (read zs (c ∷ cs)) f =
    ap (λ (r : Reading). cond (eqb c closing) (closed kn b k zs cs) (cond (eqb c comma && ltb k most_children) r unread)) (f zs c cs refl)

mutual
  unfolding record_from list_from

  record_fuel : (n m : ℕ) (kn xs bs : List ℕ) → 2 * length bs + 1 ≤ n → 2 * length bs + 1 ≤ m → record_from n kn xs bs ≡ record_from m kn xs bs
  record_fuel zero m kn xs bs p q = absurd (omega arith)
  record_fuel (suc n) zero kn xs bs p q = absurd (omega arith)
  record_fuel (suc n) (suc m) kn xs [] p q = refl
  record_fuel (suc n) (suc m) kn xs (b ∷ bs) p q =
      ap (λ (r : Reading). cond (opens bs) r (closed kn b 0 xs bs))
      (list_fuel n m kn b 1 xs (drop 1 bs) (omega (arith, length-drop 1 bs)) (omega (arith, length-drop 1 bs)))

  list_fuel : (n m : ℕ) (kn : List ℕ) (b k : ℕ) (xs bs : List ℕ) → 2 * length bs + 2 ≤ n → 2 * length bs + 2 ≤ m →
      list_from n kn b k xs bs ≡ list_from m kn b k xs bs
  list_fuel zero m kn b k xs bs p q = absurd (omega arith)
  list_fuel (suc n) zero kn b k xs bs p q = absurd (omega arith)
  list_fuel (suc n) (suc m) kn b k xs bs p q =
      after_same (list_from n kn b (suc k)) (list_from m kn b (suc k)) kn b k (record_from n kn xs bs)
      (λ zs c cs e. let l : length (c ∷ cs) < length bs = record_from_shorter n kn xs bs zs (c ∷ cs) e in list_fuel n m kn b (suc k) zs cs (omega arith) (omega arith)) ∙
      ap (after_child (list_from m kn b (suc k)) kn b k) (record_fuel n m kn xs bs (omega arith) (omega arith))

-- THE STEPS
pub record_none : (kn xs : List ℕ) → record_at kn xs [] ≡ unread
unfolding record_from
record_none kn xs = refl

pub record_step : (kn xs : List ℕ) (b : ℕ) (bs : List ℕ) → record_at kn xs (b ∷ bs) ≡ cond (opens bs) (list_at kn b 1 xs (drop 1 bs)) (closed kn b 0 xs bs)
unfolding record_from
record_step kn xs b bs =
    record_fuel (2 * length (b ∷ bs) + 1) (suc (2 * length bs + 2)) kn xs (b ∷ bs) (omega arith) (omega arith) ∙
    ap (λ (r : Reading). cond (opens bs) r (closed kn b 0 xs bs))
    (list_fuel (2 * length bs + 2) (2 * length (drop 1 bs) + 2) kn b 1 xs (drop 1 bs) (omega (arith, length-drop 1 bs)) (omega arith))

pub list_step : (kn : List ℕ) (b k : ℕ) (xs bs : List ℕ) → list_at kn b k xs bs ≡ after_child (list_at kn b (suc k)) kn b k (record_at kn xs bs)
unfolding list_from
list_step kn b k xs bs =
    list_fuel (2 * length bs + 2) (suc (2 * length bs + 1)) kn b k xs bs (omega arith) (omega arith) ∙
    after_same (list_from (2 * length bs + 1) kn b (suc k)) (list_at kn b (suc k)) kn b k (record_at kn xs bs)
    (λ zs c cs e. let l : length (c ∷ cs) < length bs = record_shorter kn xs bs zs (c ∷ cs) e in
    list_fuel (2 * length bs + 1) (2 * length cs + 2) kn b (suc k) zs cs (omega arith) (omega arith))

-- A row's representative, by the rule for its symbol over its children's representatives: 0 where a child has none.
-- It is the fold's equation; the loops hold the representatives of earlier rows, and of the first children as child places.
-- The representatives of rows stand in the second column of the notes; the first column stays.
use mathlib.Core.Path.{◌≡◌, refl, sym, ap, ◌∙◌}
use mathlib.Core.Bool.{Bool, false, ◌||◌, cond}
use mathlib.Core.Logic.{◌⊎◌, inl, inr}
use mathlib.Core.List.{List, [], ◌∷◌, ◌++◌, map}
use Prim.Native.Nat.{ℕ, ◌+◌, ◌*◌, ◌/◌, ◌≤◌, ◌<◌}
use native.Mathlib.Numerals.{add-one}
use native.Mathlib.Omega.{arith}
use lib.ListN.{length, get_or, take, set, length-map, length-set}
use lib.Seq.{take-suc, take_all, get_or-set_same, get_or-set_other}
use borrow.Author.Tests.{ne_eqb}
use Rattle.model.specs.Base.{In, among}
use Rattle.model.specs.Store.{Store, used, symbol_at, kids_at, fold_from, find_places, find_row, padded}
use Rattle.model.specs.Facts.{Good}
use Rattle.model.proofs.Laws.Lists.{no_in, map_below, at_place, in_member, in_snoc, not_in, map_at}
use Rattle.model.proofs.Laws.Fold.{fold_eq, earlier}
use Rattle.model.proofs.Laws.Tests.{by_equal}
use Rattle.bank.specs.Notes.{note_width, room_in, column_in, reps_in}
use Rattle.bank.proofs.Laws.Notes.{column_long, column_at, column_set, column_before}
use Rattle.bank_listed.proofs.Laws.ArrayStack.{places_more}
use Rattle.table_verdict.specs.Rules.{rep_over, rep_row}

-- THE ROWS BELOW n have their representatives in `led`
pub record LedBelow (x : Store) (reps led : List ℕ) (n : ℕ) : Type 0 where
  pub long : used x ≤ length led
  pub right : (i : ℕ) → i < n → get_or led i 0 ≡ rep_row x reps i

-- THE SAME IN THE SECOND COLUMN of notes, and the first column is as it was in `before`
pub record Noted (x : Store) (before notes : List ℕ) (n : ℕ) : Type 0 where
  pub as_long : length notes ≡ length before
  pub reps : reps_in notes ≡ reps_in before
  pub led : LedBelow x (reps_in before) (column_in notes 1) n

-- CHILDREN'S REPRESENTATIVES, where each row has its own in `led`, and the first k of them, none of them 0, as child places
abbrev pub led_kids : Store → (led : List ℕ) → (row : ℕ) → List ℕ
led_kids x led i = map (λ (k : ℕ). get_or led k 0) (kids_at x i)

pub record KidsLed (x : Store) (led : List ℕ) (i : ℕ) (places : List ℕ) (k : ℕ) : Type 0 where
  pub within : k ≤ length (kids_at x i)
  pub four : length places ≡ 4
  pub are : places ≡ padded (take k (led_kids x led i))
  pub some : In 0 (take k (led_kids x led i)) → ⊥

module _ {x : Store} (g : Good x) (reps : List ℕ) where
  -- THE EQUATION of a row's representative
  pub rep_eq : (i : ℕ) → i < used x → rep_row x reps i ≡ rep_over x reps i (symbol_at x i) (map (rep_row x reps) (kids_at x i))
  rep_eq i u = fold_eq (rep_over x reps) 0 x (earlier x g) i u

  pub first_none : rep_row x reps 0 ≡ 0
  unfolding fold_from
  first_none = refl

  -- one row after the other
  led_more : {led : List ℕ} {i : ℕ} → LedBelow x reps led i → i < used x → (r : ℕ) → r ≡ rep_row x reps i → LedBelow x reps (set led i r) (i + 1)
  led_more {led} {i} h l r e =
      let n = h.long in
      record {
        long = simp length-set h.long;
        right = λ j b. by_equal j i (λ q. rw (q, get_or-set_same led i r 0 (omega arith)) e) (λ q. get_or-set_other led i j r 0 q ∙ h.right j (omega arith));
      }

  led_start : (led : List ℕ) → used x ≤ length led → LedBelow x reps (set led 0 0) 1
  led_start led l =
      let none_yet : LedBelow x reps led 0 = record { long = l; right = λ j b. absurd (omega arith) } in
      led_more none_yet g.start 0 (sym first_none)

  -- A LATER ROW: its children alone decide
  pub rep_later : (i : ℕ) → 0 < i → i < used x →
      rep_row x reps i ≡ cond (among 0 (map (rep_row x reps) (kids_at x i))) 0 (get_or reps (find_row x (symbol_at x i) (map (rep_row x reps) (kids_at x i))) 0)
  rep_later i positive u =
      let ks : List ℕ = map (rep_row x reps) (kids_at x i) in
      rep_eq i u ∙ ap (λ (b : Bool). cond (b || among 0 ks) 0 (get_or reps (find_row x (symbol_at x i) ks) 0)) (ne_eqb i 0 (λ z. omega arith))

  -- with the representatives of earlier rows in `led`
  module _ (led : List ℕ) (i : ℕ) (positive : 0 < i) (u : i < used x) (right : (j : ℕ) → j < i → get_or led j 0 ≡ rep_row x reps j) where
    abbrev over : List ℕ → ℕ
    over ks = cond (among 0 ks) 0 (get_or reps (find_row x (symbol_at x i) ks) 0)

    by_kids : rep_row x reps i ≡ cond (among 0 (led_kids x led i)) 0 (get_or reps (find_row x (symbol_at x i) (led_kids x led i)) 0)
    by_kids = rep_later i positive u ∙ ap over (sym (map_below (λ (k : ℕ). get_or led k 0) (rep_row x reps) i right (earlier x g i u)))

    long : length (led_kids x led i) ≡ length (kids_at x i)
    long = length-map (kids_at x i) (λ (k : ℕ). get_or led k 0)

    few : length (kids_at x i) ≤ 4
    few = let a = (g.row i positive u).arity in let w = g.wide (symbol_at x i) in omega arith

    pub kids_start : KidsLed x led i (0 ∷ 0 ∷ 0 ∷ 0 ∷ []) 0
    kids_start = record { within = omega arith; four = refl; are = refl; some = no_in }

    pub kids_stop : (k : ℕ) → k < length (kids_at x i) → get_or led (get_or (kids_at x i) k 0) 0 ≡ 0 → 0 ≡ rep_row x reps i
    kids_stop k l e =
        let m = long in
        let z : get_or (led_kids x led i) k 0 ≡ 0 = map_at (λ (j : ℕ). get_or led j 0) (kids_at x i) k l ∙ e in
        let h : In 0 (led_kids x led i) = rw z at (at_place (led_kids x led i) k (omega arith)) in
        sym (by_kids ∙ ap (λ (b : Bool). cond b 0 (get_or reps (find_row x (symbol_at x i) (led_kids x led i)) 0)) (in_member 0 h))

    pub kids_more : {ps : List ℕ} {k : ℕ} → KidsLed x led i ps k → k < length (kids_at x i) → (r : ℕ) → r ≡ get_or led (get_or (kids_at x i) k 0) 0 → (r ≡ 0 → ⊥) →
        KidsLed x led i (set ps k r) (k + 1)
    kids_more {ps} {k} h l r e n =
        let f = few in
        let m = long in
        let a : get_or (led_kids x led i) k 0 ≡ r = map_at (λ (j : ℕ). get_or led j 0) (kids_at x i) k l ∙ sym e in
        let t : take (k + 1) (led_kids x led i) ≡ take k (led_kids x led i) ++ (r ∷ []) =
        ap (λ (j : ℕ). take j (led_kids x led i)) (add-one k) ∙ take-suc (led_kids x led i) k 0 (omega arith) ∙ ap (λ (j : ℕ). take k (led_kids x led i) ++ (j ∷ [])) a in
        record {
          within = omega arith;
          four = simp length-set h.four;
          are = (λ t. set (h.are t) k (sym a t)) ∙ places_more (led_kids x led i) k (omega arith) (omega arith);
          some = λ q. either (in_snoc (take k (led_kids x led i)) (rw t at q));
        }
      where
        either : In 0 (take k (led_kids x led i)) ⊎ (0 ≡ r) → ⊥
        either (inl q) = h.some q
        either (inr q) = n (sym q)

    pub kids_end : {ps : List ℕ} {k : ℕ} → KidsLed x led i ps k → length (kids_at x i) ≤ k → (r : ℕ) → r ≡ get_or reps (find_places x (symbol_at x i) ps) 0 → r ≡ rep_row x reps i
    kids_end {ps} {k} h l r e =
        let m = long in
        let all : take k (led_kids x led i) ≡ led_kids x led i = take_all k (led_kids x led i) (omega arith) in
        let z : among 0 (led_kids x led i) ≡ false = not_in 0 (led_kids x led i) (rw all at h.some) in
        let f : r ≡ get_or reps (find_row x (symbol_at x i) (led_kids x led i)) 0 = e ∙ ap (λ (qs : List ℕ). get_or reps (find_places x (symbol_at x i) qs) 0) (h.are ∙ ap padded all) in
        f ∙ sym (by_kids ∙ ap (λ (b : Bool). cond b 0 (get_or reps (find_row x (symbol_at x i) (led_kids x led i)) 0)) z)

-- READ off the second column
pub led_at : (ns : List ℕ) (i : ℕ) → i < room_in ns → get_or ns (room_in ns + i) 0 ≡ get_or (column_in ns 1) i 0
led_at ns i l = let e : room_in ns + i ≡ 1 * room_in ns + i = omega arith in ap (λ (p : ℕ). get_or ns p 0) e ∙ sym (column_at ns 1 i l)

-- THE LOOP OVER THE NOTES, from row 0 on: nothing but the second column changes
abbrev started : List ℕ → List ℕ
started ns = set ns (room_in ns) 0

reps_started : (ns : List ℕ) → reps_in (started ns) ≡ reps_in ns
reps_started ns = column_before ns (room_in ns) 0 0 (omega arith)

module _ {x : Store} (ns : List ℕ) {notes : List ℕ} {i : ℕ} (h : Noted x (started ns) notes i) where
  pub noted_long : length notes ≡ length ns
  noted_long = h.as_long ∙ length-set ns (room_in ns) 0

  noted_room : room_in notes ≡ room_in ns
  noted_room = ap (λ (n : ℕ). n / note_width) noted_long

  pub noted_reps : reps_in notes ≡ reps_in ns
  noted_reps = h.reps ∙ reps_started ns

  -- in terms of the notes at hand, and of those before the loop
  pub noted_now : (j : ℕ) → j < i → get_or (column_in notes 1) j 0 ≡ rep_row x (reps_in notes) j
  noted_now j l = h.led.right j l ∙ ap (λ (reps : List ℕ). rep_row x reps j) (sym h.reps)

  pub noted_right : (j : ℕ) → j < i → get_or (column_in notes 1) j 0 ≡ rep_row x (reps_in ns) j
  noted_right j l = noted_now j l ∙ ap (λ (reps : List ℕ). rep_row x reps j) noted_reps

  -- with room for the used rows
  module _ (room : used x ≤ room_in ns) where
    pub noted_within : i < used x → room_in ns + i < length notes
    noted_within l = omega (arith, noted_long)

    pub noted_column : (k : ℕ) → k < note_width → used x ≤ length (column_in notes k)
    noted_column k l = omega (arith, column_long notes k l, noted_room)

    pub noted_more : Good x → i < used x → (r : ℕ) → r ≡ rep_row x (reps_in notes) i → Noted x (started ns) (set notes (room_in ns + i) r) (i + 1)
    noted_more g l r e =
        let k = noted_room in
        let f : column_in (set notes (room_in ns + i) r) 1 ≡ set (column_in notes 1) i r = column_set notes (room_in ns + i) r 1 i (omega arith) (omega arith) in
        record {
          as_long = length-set notes (room_in ns + i) r ∙ h.as_long;
          reps = column_before notes (room_in ns + i) r 0 (omega arith) ∙ h.reps;
          led = rw f (led_more g (reps_in (started ns)) h.led l r (e ∙ ap (λ (reps : List ℕ). rep_row x reps i) h.reps));
        }

pub noted_start : {x : Store} → Good x → (ns : List ℕ) → used x ≤ room_in ns → Noted x (started ns) (started ns) 1
noted_start g ns room =
    let s = g.start in
    let e : column_in (started ns) 1 ≡ set (column_in ns 1) 0 0 = column_set ns (room_in ns) 0 1 0 (omega arith) (omega arith) in
    record { as_long = refl; reps = refl; led = rw e (led_start g (reps_in (started ns)) (column_in ns 1) (omega (arith, column_long ns 1 (omega arith)))) }

-- Notes for all rows used; rows kept in two steps; what lists made of tables mean with words that hold the tables' rows.
-- The first members of an array, written over it, are the array.
use mathlib.Core.Path.{◌≡◌, sym, ap, ◌∙◌}
use mathlib.Core.List.{List}
use Prim.Native.Nat.{ℕ, ◌*◌, ◌≤◌}
use native.Mathlib.Omega.{arith}
use lib.ListN.{length, take}
use lib.Seq.{length-take-le, take-take}
use Rattle.model.specs.Limits.{row_width}
use Rattle.model.specs.Base.{over}
use Rattle.model.specs.Store.{used}
use Rattle.model.specs.Table.{Tables}
use Rattle.model.specs.Entry.{store_of, tables_of, lists_of}
use Rattle.model.specs.declared.Lists.{Lists}
use Rattle.model.proofs.Laws.Lent.{over_take, take_over, flag_back}
use Rattle.bank.specs.Bank.{Bank, Kept}
use Rattle.bank.specs.Notes.{room_in, NotesFor}
use Rattle.bank_fill.specs.Left.{Left}
use Rattle.run_lists.specs.Members.{counts_in}

-- notes for all rows lent are notes for all rows used
pub noted : {ws ns : List ℕ} {u : ℕ} {ix : List ℕ} → Bank ws ns u ix → (notes : List ℕ) → NotesFor ws notes → u ≤ room_in notes
noted r notes n = omega (arith, r.finding.room)

-- rows kept by one step after another
pub kept_then : (ws : List ℕ) (n : ℕ) (us : List ℕ) (m : ℕ) (vs : List ℕ) → n ≤ m → Kept ws n us → Kept us m vs → Kept ws n vs
kept_then ws n us m vs l a b =
    let e : (zs : List ℕ) → take (row_width * n) (take (row_width * m) zs) ≡ take (row_width * n) zs = λ zs. take-take (row_width * n) (row_width * m) zs (omega arith) in
    record {
      same_size = b.same_size ∙ a.same_size;
      same_rows = sym (e vs) ∙ ap (take (row_width * n)) b.same_rows ∙ e us ∙ a.same_rows;
    }

-- the first n of an array, as a list, over that array
pub kept_length : (n : ℕ) (xs : List ℕ) {ys : List ℕ} → ys ≡ take n xs → n ≤ length xs → n ≡ length ys
kept_length n xs {ys} e h = sym (ap length e ∙ length-take-le n xs h)

pub kept_over : (n : ℕ) (xs : List ℕ) {ys : List ℕ} → ys ≡ take n xs → n ≤ length xs → xs ≡ over ys xs
kept_over n xs {ys} e h = sym (ap (λ (zs : List ℕ). over zs xs) e ∙ over_take n xs h)

-- what the lists of tables mean, over words that hold the tables' rows
pub tables_left : (ws us : List ℕ) (l : Lists) (y : Tables) → y.store.counts ≡ counts_in l → Left ws (counts_in l) us y.store y.answers → tables_of us (lists_of l y) ≡ y
tables_left ws us l y e f =
    let a = take_over y.store.counts l.counts in
    let st : store_of us (take (length y.store.counts) (over y.store.counts l.counts)) (used y.store) ≡ y.store =
    ap (λ (ns : List ℕ). store_of us ns (used y.store)) (a ∙ e) ∙ f.store in
    let p = take_over y.s l.s in
    let q = take_over y.t l.t in
    let r = take_over y.c l.c in
    let z = flag_back y.accepted in
    λ i. record { store = st i; answers = f.answered i; s = p i; t = q i; c = r i; hand = y.hand; asked = y.asked; accepted = z i }

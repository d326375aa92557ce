-- The promises of records as text (§8.4), each from its law: a first line gives letters, a text is read exactly if written, what is printed is read back.
use mathlib.Core.Path.{◌≡◌, refl, sym, ap, ◌∙◌}
use mathlib.Core.Logic.{◌≢◌}
use mathlib.Core.Bool.{Bool, true, false, cond}
use mathlib.Core.List.{List, [], ◌∷◌, append-nil}
use Prim.Native.Nat.{ℕ}
use Rattle.model.specs.Terms.{Tree, Over, tree_at, tree_of, symbols_of}
use Rattle.model.proofs.Laws.Fold.{earlier}
use Rattle.model.proofs.Laws.Trees.{rows_as_trees}
use Rattle.model.proofs.Laws.Records.{symbols_back}
use Rattle.text.specs.Written.{written, text_of}
use Rattle.text.specs.Reading.{Reading, unread, read, known_of, record_at, balanced_from, whole_of, read_text}
use Rattle.text.specs.Promise.{Lettered, FirstLine, ReadExactly, RoundTrip}
use Rattle.text.proofs.Forwards.{record_written}
use Rattle.text.proofs.Balance.{record_balances}
use Rattle.text.proofs.Readback.{record_read}
use Rattle.text.proofs.Rows.{row_over}
use Rattle.text.proofs.FirstLine.{line_lettered}

written_read : (ls ns : List ℕ) → Lettered ls ns → (t : Tree) → Over ns t → read_text ls ns (text_of ls t) ≡ symbols_of t
unfolding balanced_from
written_read ls ns w t o =
    let n = append-nil (text_of ls t) in
    let b : balanced_from 0 (text_of ls t) ≡ true = ap (balanced_from 0) (sym n) ∙ record_balances w t o 0 [] in
    let r : record_at (known_of ls ns) [] (text_of ls t) ≡ read (symbols_of t) [] = ap (record_at (known_of ls ns) []) (sym n) ∙ record_written w t o [] [] refl in
    ap (λ (z : Bool). cond z (whole_of (record_at (known_of ls ns) [] (text_of ls t))) []) b ∙ ap whole_of r

read_written : (ls ns text : List ℕ) → Lettered ls ns → read_text ls ns text ≢ [] →
    (t : Tree) × Over ns t × (text ≡ text_of ls t) × (read_text ls ns text ≡ symbols_of t)
read_written ls ns text w s = go (balanced_from 0 text) (record_at (known_of ls ns) [] text) refl s
  where
    go : (z : Bool) (r : Reading) → record_at (known_of ls ns) [] text ≡ r → cond z (whole_of r) [] ≢ [] →
        (t : Tree) × Over ns t × (text ≡ text_of ls t) × (cond z (whole_of r) [] ≡ symbols_of t)
    go false r e q = absurd (q refl)
    go true unread e q = absurd (q refl)
    go true (read xs (b ∷ bs)) e q = absurd (q refl)
    go true (read xs []) e q = let r = record_read ls ns w.paired [] text xs [] e in (r.self, r.over, r.form ∙ append-nil (text_of ls r.self), r.gives)

pub first_line : FirstLine
first_line = record { lettered = line_lettered }

pub read_exactly : ReadExactly
read_exactly = record { written_is_read = written_read; read_is_written = read_written }

pub round_trip : RoundTrip
round_trip =
    record {
      printed = λ ls x g i u. rows_as_trees (written ls) [] x (earlier x g) i u;
      over = row_over;
      listed = symbols_back;
      back = λ ls x g w i r.
          ap (λ (v : List ℕ). tree_of x.counts (read_text ls x.counts v)) (rows_as_trees (written ls) [] x (earlier x g) i r.within) ∙
          ap (tree_of x.counts) (written_read ls x.counts w (tree_at x i) (row_over x g i r)) ∙ symbols_back x.counts (tree_at x i) (row_over x g i r);
    }

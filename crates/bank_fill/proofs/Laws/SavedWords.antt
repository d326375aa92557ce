-- What a step that kept the first rows wrote is undone by putting back what was saved, by the places of the words.
use mathlib.Core.Path.{◌≡◌, refl, sym, ap, ◌∙◌}
use mathlib.Core.List.{List}
use Prim.Native.Nat.{ℕ, ◌*◌, ◌<◌}
use native.Mathlib.Omega.{arith}
use borrow.Author.Tests.{ltb-true, ltb-false}
use mathlib.Core.Bool.{Bool, true, false}
use lib.Dec.{ltb}
use lib.ListN.{length, get_or}
use lib.Seq.{get_or-take, ext_get_or}
use Rattle.model.specs.Limits.{row_width}
use Rattle.bank.specs.Bank.{Kept}
use Rattle.bank_fill.specs.Saved.{Saved, PutBack}

pub undone : (ws : List ℕ) (n : ℕ) (vs us after : List ℕ) → Saved ws n vs → Kept ws n us → PutBack us n vs after → after ≡ ws
undone ws n vs us after s k p = ext_get_or 0 after ws (p.same_size ∙ k.same_size) (λ j l. at j l (ltb j (row_width * n)) refl)
  where
    at : (j : ℕ) → j < length after → (b : Bool) → ltb j (row_width * n) ≡ b → get_or after j 0 ≡ get_or ws j 0
    at j l true e =
        let h = ltb-true j (row_width * n) e in
        p.front j h ∙ sym (get_or-take (row_width * n) us j 0 h) ∙ ap (λ (zs : List ℕ). get_or zs j 0) k.same_rows ∙ get_or-take (row_width * n) ws j 0 h
    at j l false e =
        let h = ltb-false j (row_width * n) e in
        p.behind j h (omega (arith, p.same_size)) ∙ s.kept j h (omega (arith, p.same_size, k.same_size)) (omega (arith, p.same_size, k.same_size))

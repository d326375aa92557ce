-- Emitting, line by line: 18, 30, 31, 20, then the list of the proposed automaton.
-- Each line that does not apply leaves the rest to decide.
use mathlib.Core.Path.{◌≡◌, refl, sym, ap, ◌∙◌}
use mathlib.Core.Bool.{Bool, true, false, not, cond}
use mathlib.Core.List.{List}
use Prim.Native.Nat.{ℕ}
use borrow.Author.Tests.{eq-eqb}
use lib.Dec.{leb, eqb}
use lib.ListN.{length}
use Rattle.model.specs.Base.{over}
use Rattle.model.specs.Sound.{is_sound}
use Rattle.model.specs.Listing.{Sheet, emitted}
use Rattle.model.specs.Calls.{Outcome, refuses, leaves, emits, sheet_of, emit_fault}
use Rattle.model.specs.Entry.{size_fits, lists_fit, tables_of, call_by, emitted_by, out_by, emit_seen, emit_out}
use Rattle.model.specs.declared.Lists.{Lists}
use Rattle.model.specs.declared.Emitted.{Emitted}
use Rattle.call_emit.specs.Proposal.{listed_seen, listed_out}

-- THE LINES
module _ (ws : List ℕ) (l : Lists) (o : List ℕ) where
  abbrev told : (fits within sound : Bool) → (fault : ℕ) → Outcome
  told a b c n = cond a (cond b (cond c (cond (eqb n 0) (leaves (tables_of ws l)) (refuses n)) (refuses 30)) (refuses 30)) (refuses 18)

  abbrev fault : (idle room : Bool) → ℕ
  fault a b = cond (eqb (cond (not (not a)) 0 31) 0) (cond b 0 20) (cond (not (not a)) 0 31)

  abbrev outcome : Outcome
  outcome = call_by ws l (emits (length o))

  abbrev sound : Bool
  sound = is_sound (tables_of ws l)

  abbrev line : ℕ
  line = emit_fault (tables_of ws l) (length o)

  abbrev fits : Bool
  fits = leb (length (emitted (sheet_of (tables_of ws l)))) (length o)

  module _ (s : size_fits ws ≡ true) where
    module _ (f : lists_fit l ≡ true) where
      module _ (g : is_sound (tables_of ws l) ≡ true) where
        module _ (e : l.asked ≡ 0) where
          idle : eqb l.asked 0 ≡ true
          idle = eq-eqb l.asked 0 e

          pub short_refused : leb (length (emitted (sheet_of (tables_of ws l)))) (length o) ≡ false → call_by ws l (emits (length o)) ≡ refuses 20
          short_refused b = λ i. told (s i) (f i) (g i) (fault (idle i) (b i))

          pub taken : leb (length (emitted (sheet_of (tables_of ws l)))) (length o) ≡ true → call_by ws l (emits (length o)) ≡ leaves (tables_of ws l)
          taken b = λ i. told (s i) (f i) (g i) (fault (idle i) (b i))

  -- the list of the proposal, or 20
  abbrev seen : Bool → Emitted
  seen b = cond b (record { number = 0; size = length (emitted (sheet_of (tables_of ws l))) }) (record { number = 20; size = 0 })

  abbrev left : Bool → List ℕ
  left b = cond b (over (emitted (sheet_of (tables_of ws l))) o) o

  pub listed : size_fits ws ≡ true → lists_fit l ≡ true → is_sound (tables_of ws l) ≡ true → l.asked ≡ 0 → (a : Sheet) → a ≡ sheet_of (tables_of ws l) →
      (listed_seen a o ≡ emit_seen ws l o) × (listed_out a o ≡ emit_out ws l o)
  listed s f g e a is =
      let p = go fits refl in
      (ap (λ (b : Sheet). listed_seen b o) is ∙ p.0, ap (λ (b : Sheet). listed_out b o) is ∙ p.1)
    where
      go : (b : Bool) → leb (length (emitted (sheet_of (tables_of ws l)))) (length o) ≡ b →
          (listed_seen (sheet_of (tables_of ws l)) o ≡ emit_seen ws l o) × (listed_out (sheet_of (tables_of ws l)) o ≡ emit_out ws l o)
      go true b = (ap seen b ∙ sym (ap emitted_by (taken s f g e b)), ap left b ∙ sym (ap (out_by o) (taken s f g e b)))
      go false b = (ap seen b ∙ sym (ap emitted_by (short_refused s f g e b)), ap left b ∙ sym (ap (out_by o) (short_refused s f g e b)))

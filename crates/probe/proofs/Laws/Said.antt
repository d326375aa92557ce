-- What is said of rows added: refused where a test fails, and where all hold how adding ended.
use mathlib.Core.Path.{◌≡◌, refl, sym, ap, subst, ◌∙◌}
use mathlib.Core.Bool.{Bool, true, false, ◌&&◌}
use mathlib.Core.List.{List, []}
use Prim.Native.Nat.{ℕ, ◌≤◌, ◌<◌}
use native.Mathlib.Omega.{arith}
use lib.Dec.{ltb}
use borrow.Author.Tests.{lt-ltb, le-ltb, eq-eqb, ne_eqb}
use Rattle.model.specs.Store.{Built, full, built, used, has_hole, fill, frames_of}
use Rattle.model.specs.Terms.{record_fault, store_from}
use Rattle.model.specs.Entry.{store_of}
use Rattle.bank.proofs.Laws.Words.{used_of}
use Rattle.std.specs.Prelude.{Option}
use Rattle.bank_fill.specs.declared.add.Added.{Added}
use Rattle.bank_fill.proofs.Laws.Coming.{Comes}
use Rattle.probe.specs.declared.Reply.{Reply}
use Rattle.probe.specs.Probed.{said, said_of, Said, SaidIf, is_fillable, FilledReady, is_listed, StoredReady}

-- BEHIND A TEST
module _ (ws : List ℕ) (n : ℕ) (b : Built) (r : Reply) (ws' : List ℕ) where
  pub said_not : (t : Bool) → t ≡ false → r ≡ said 2 0 0 → ws' ≡ ws → SaidIf t ws n b r ws'
  said_not t e p q = subst (λ (a : Bool). SaidIf a ws n b r ws') (sym e) (p, q)

  pub said_so : (t : Bool) → t ≡ true → Said ws n b r ws' → SaidIf t ws n b r ws'
  said_so t e s = subst (λ (a : Bool). SaidIf a ws n b r ws') (sym e) s

-- WHAT ADDING CAME TO, as numbers
pub comes_said : {ws ns : List ℕ} {n : ℕ} {b : Built} {g : Option Added} {r : Reply} {ws' ix : List ℕ} → r ≡ said_of g → Comes ws ns n b g ws' ix → Said ws n b r ws'
comes_said {b = full} e c = (e ∙ ap said_of c.came.0, c.came.1)
comes_said {b = built j y} e c = (e ∙ ap said_of c.came.0, c.came.1)

-- FILLING: a context and a row, both used
module _ (ws ns : List ℕ) (n c i : ℕ) where
  pub past_context : n ≤ c → {r : Reply} → r ≡ said 2 0 0 → FilledReady ws ns n c i r ws
  past_context l {r} p =
      let u = used_of ws ns n in
      let e : is_fillable (store_of ws ns n) c i ≡ false =
      ap (λ (b : Bool). (b && has_hole (store_of ws ns n) c) && ltb i (used (store_of ws ns n))) (le-ltb c (used (store_of ws ns n)) (omega arith)) in
      said_not ws n (fill (store_of ws ns n) (frames_of (store_of ws ns n) c) i) r ws (is_fillable (store_of ws ns n) c i) e p refl

  module _ (l : c < n) where
    within : is_fillable (store_of ws ns n) c i ≡ has_hole (store_of ws ns n) c && ltb i (used (store_of ws ns n))
    within =
        let u = used_of ws ns n in
        ap (λ (b : Bool). (b && has_hole (store_of ws ns n) c) && ltb i (used (store_of ws ns n))) (lt-ltb c (used (store_of ws ns n)) (omega arith))

    pub no_hole : has_hole (store_of ws ns n) c ≡ false → {r : Reply} → r ≡ said 2 0 0 → FilledReady ws ns n c i r ws
    no_hole e {r} p =
        said_not ws n (fill (store_of ws ns n) (frames_of (store_of ws ns n) c) i) r ws (is_fillable (store_of ws ns n) c i)
        (within ∙ ap (λ (b : Bool). b && ltb i (used (store_of ws ns n))) e) p refl

    module _ (h : has_hole (store_of ws ns n) c ≡ true) where
      context : is_fillable (store_of ws ns n) c i ≡ ltb i (used (store_of ws ns n))
      context = within ∙ ap (λ (b : Bool). b && ltb i (used (store_of ws ns n))) h

      pub past_row : n ≤ i → {r : Reply} → r ≡ said 2 0 0 → FilledReady ws ns n c i r ws
      past_row q {r} p =
          let u = used_of ws ns n in
          said_not ws n (fill (store_of ws ns n) (frames_of (store_of ws ns n) c) i) r ws (is_fillable (store_of ws ns n) c i)
          (context ∙ le-ltb i (used (store_of ws ns n)) (omega arith)) p refl

      pub filled : i < n → {g : Option Added} {r : Reply} {ws' ix' : List ℕ} → r ≡ said_of g →
          Comes ws ns n (fill (store_of ws ns n) (frames_of (store_of ws ns n) c) i) g ws' ix' → FilledReady ws ns n c i r ws'
      filled q {r = r} {ws' = ws'} p k =
          let u = used_of ws ns n in
          said_so ws n (fill (store_of ws ns n) (frames_of (store_of ws ns n) c) i) r ws' (is_fillable (store_of ws ns n) c i)
          (context ∙ lt-ltb i (used (store_of ws ns n)) (omega arith))
          (comes_said p k)

-- STORING: a listed record without a fault
module _ (ws ns : List ℕ) (n : ℕ) (xs : List ℕ) where
  pub at_fault : (record_fault ns xs ≡ 0 → ⊥) → {r : Reply} → r ≡ said 2 0 0 → StoredReady ws ns n xs r ws
  at_fault e {r} p = said_not ws n (store_from (store_of ws ns n) xs []) r ws (is_listed ns xs) (ne_eqb (record_fault ns xs) 0 e) p refl

  pub stored : record_fault ns xs ≡ 0 → {g : Option Added} {r : Reply} {ws' ix : List ℕ} → r ≡ said_of g →
      Comes ws ns n (store_from (store_of ws ns n) xs []) g ws' ix → StoredReady ws ns n xs r ws'
  stored e {r = r} {ws' = ws'} p k =
      said_so ws n (store_from (store_of ws ns n) xs []) r ws' (is_listed ns xs) (eq-eqb (record_fault ns xs) 0 e) (comes_said p k)

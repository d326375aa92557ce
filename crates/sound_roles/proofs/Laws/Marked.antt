-- Over a record table that is ready the marks say which rows are records and contexts, and the tests by marks are those of T2 and T4.
-- A mark says whether a used row has a hole; past the used rows both tests are false.
use mathlib.Core.Path.{◌≡◌, refl, sym, ap, ◌∙◌}
use mathlib.Core.Bool.{Bool, true, false, ◌&&◌, not}
use mathlib.Core.List.{List}
use Prim.Native.Nat.{ℕ, ◌<◌}
use native.Mathlib.Omega.{arith}
use borrow.Author.Tests.{ltb-true}
use lib.Dec.{ltb}
use lib.ListN.{length, get_or}
use Rattle.model.specs.Base.{all}
use Rattle.model.specs.Store.{used, has_hole, is_record, is_context}
use Rattle.model.specs.Table.{Tables, size}
use Rattle.model.specs.Sound.{contexts_fit}
use Rattle.model.specs.Entry.{store_of}
use Rattle.model.proofs.Laws.Tests.{all_get_d}
use Rattle.model.proofs.Laws.ReflectLists.{record_of}
use Rattle.bank.specs.Bank.{Bank}
use Rattle.bank_t1.specs.Pass.{hole_by}
use Rattle.bank.proofs.Laws.Words.{used_of}
use Rattle.bank_t1.proofs.Laws.T1.{hole_ready}
use Rattle.sound_roles.specs.Marked.{record_by, context_by, records_by, contexts_by, contexts_fit_by}

module _ {ws ns : List ℕ} {n : ℕ} {ix : List ℕ} (r : Bank ws ns n ix) where
  -- a test of a row's hole, behind the test that it is used
  guarded : (f : Bool → Bool) (i : ℕ) → ltb i n && f (hole_by ix i) ≡ ltb i (used (store_of ws ns n)) && f (has_hole (store_of ws ns n) i)
  guarded f i = go (ltb i n) refl ∙ ap (λ (m : ℕ). ltb i m && f (has_hole (store_of ws ns n) i)) (sym (used_of ws ns n))
    where
      go : (b : Bool) → ltb i n ≡ b → b && f (hole_by ix i) ≡ b && f (has_hole (store_of ws ns n) i)
      go true e = ap f (hole_ready r i (ltb-true i n e))
      go false e = refl

  pub record_ready : (i : ℕ) → record_by ix n i ≡ is_record (store_of ws ns n) i
  record_ready = guarded not

  pub context_ready : (i : ℕ) → context_by ix n i ≡ is_context (store_of ws ns n) i
  context_ready = guarded (λ (b : Bool). b)

  pub records_ready : (rows : List ℕ) → records_by ix n rows ≡ all (is_record (store_of ws ns n)) rows
  records_ready rows = λ i. all (λ (k : ℕ). record_ready k i) rows

  pub contexts_ready : (rows : List ℕ) → contexts_by ix n rows ≡ all (is_context (store_of ws ns n)) rows
  contexts_ready rows = λ i. all (λ (k : ℕ). context_ready k i) rows

  pub contexts_fit_ready : (x : Tables) → x.store ≡ store_of ws ns n → contexts_fit_by ix n (size x) x.c ≡ contexts_fit x
  contexts_fit_ready x e = rw (contexts_ready x.c, e) refl

-- a list of records: each is a used row beyond row 0
pub record_at_law : (ws ns : List ℕ) (n : ℕ) (t : List ℕ) → all (is_record (store_of ws ns n)) t ≡ true → (k : ℕ) → k < length t → (0 < get_or t k 0) × (get_or t k 0 < n)
record_at_law ws ns n t e k l =
    let a = record_of (store_of ws ns n) (get_or t k 0) (all_get_d (is_record (store_of ws ns n)) t k 0 e l) in
    (a.some, omega (arith, a.within, used_of ws ns n))

-- Sound tables, tested, are sound tables as facts, and the other way round.
-- The eight tests are reflected one by one and put together; which phase it is, the record in hand and the open question tell.
use mathlib.Core.Path.{◌≡◌, refl}
use mathlib.Core.Logic.{◌⊎◌, inl, inr}
use mathlib.Core.Bool.{Bool, true, false, ◌&&◌}
use Prim.Native.Nat.{◌+◌}
use native.Mathlib.Omega.{arith}
use native.Mathlib.Decide.{ℕ_discrete}
use lib.ListN.{length}
use Rattle.model.specs.Table.{Tables, size, is_missing}
use Rattle.model.specs.Sound.{is_t1, is_t2, is_t3, is_t4, is_t5, is_t6, is_t7, is_t8, contexts_fit, contexts_few, is_sound, is_nearly_sound}
use Rattle.model.specs.TableFacts.{Core, Tidy, Known, Missing, Whole, Few}
use Rattle.model.proofs.Laws.Tests.{both_true, true_both}
use Rattle.model.specs.Phase.{Phase, idle, holding, filling, Nearly, Sounds}
use Rattle.model.proofs.Laws.ReflectRows.{T1Facts, rows_of, rows_back}
use Rattle.model.proofs.Laws.ReflectTable.{held_of, held_back, known_of, missing_of, few_of, few_back, few_missing, shaped_of, shaped_back, six_missing, hand_of, hand_back, seven_none, open_of, open_back, idle_of, idle_back}

missing_or_known : (x : Tables) → Missing x ⊎ Known x
missing_or_known x = go (is_missing x) refl
  where
    go : (b : Bool) → is_missing x ≡ b → Missing x ⊎ Known x
    go true e = inl (missing_of x e)
    go false e = inr (known_of x e)

-- T1 to T8 but for T4's last clause
pub record Tested (x : Tables) : Type 0 where
  pub t1 : is_t1 x ≡ true
  pub t2 : is_t2 x ≡ true
  pub t3 : is_t3 x ≡ true
  pub t4 : contexts_fit x ≡ true
  pub t5 : is_t5 x ≡ true
  pub t6 : is_t6 x ≡ true
  pub t7 : is_t7 x ≡ true
  pub t8 : is_t8 x ≡ true

sound_tests : (x : Tables) → is_sound x ≡ true → Tested x × (contexts_few x ≡ true)
sound_tests x e =
    let a8 = both_true (is_t1 x && is_t2 x && is_t3 x && is_t4 x && is_t5 x && is_t6 x && is_t7 x) (is_t8 x) e in
    let a7 = both_true (is_t1 x && is_t2 x && is_t3 x && is_t4 x && is_t5 x && is_t6 x) (is_t7 x) a8.0 in
    let a6 = both_true (is_t1 x && is_t2 x && is_t3 x && is_t4 x && is_t5 x) (is_t6 x) a7.0 in
    let a5 = both_true (is_t1 x && is_t2 x && is_t3 x && is_t4 x) (is_t5 x) a6.0 in
    let a4 = both_true (is_t1 x && is_t2 x && is_t3 x) (is_t4 x) a5.0 in
    let a3 = both_true (is_t1 x && is_t2 x) (is_t3 x) a4.0 in
    let a2 = both_true (is_t1 x) (is_t2 x) a3.0 in
    let c = both_true (contexts_fit x) (contexts_few x) a4.1 in
    (record { t1 = a2.0; t2 = a2.1; t3 = a3.1; t4 = c.0; t5 = a5.1; t6 = a6.1; t7 = a7.1; t8 = a8.1 }, c.1)

tests_nearly : (x : Tables) → Tested x → is_nearly_sound x ≡ true
tests_nearly x t =
    true_both _ _ (true_both _ _ (true_both _ _ (true_both _ _ (true_both _ _ (true_both _ _ (true_both _ _ t.t1 t.t2) t.t3) t.t4) t.t5) t.t6) t.t7) t.t8

tests_sound : (x : Tables) → Tested x → contexts_few x ≡ true → is_sound x ≡ true
tests_sound x t f =
    true_both _ _
    (true_both _ _ (true_both _ _ (true_both _ _ (true_both _ _ (true_both _ _ (true_both _ _ t.t1 t.t2) t.t3) (true_both _ _ t.t4 f)) t.t5) t.t6) t.t7) t.t8

module _ (x : Tables) (t : Tested x) where
  rows : T1Facts x
  rows = rows_of x t.t1

  core : Core x
  core = record { good = rows.good; counted = rows.counted; first = rows.first; bound = rows.bound; held = (held_of x t.t2 t.t3 t.t4 t.t5).0 }

  tidy : Tidy x
  tidy =
      let n = (held_of x t.t2 t.t3 t.t4 t.t5).1 in
      record {
        alphabet = rows.alphabet;
        blank = rows.blank;
        few_t = n.few_t;
        few_s = n.few_s;
        some_c = n.some_c;
        hole_first_law = n.hole_first_law;
        one_c = n.one_c;
        few_c = n.few_c;
      }

  whole : Known x → Whole x
  whole k = record { core = core; known = k; shaped = shaped_of x core.held k t.t6; hole_in = (held_of x t.t2 t.t3 t.t4 t.t5).2 }

  phase : Phase x
  phase = go (ℕ_discrete x.asked 0) (ℕ_discrete x.hand 0)
    where
      fill : Missing x ⊎ Known x → Missing x ⊎ Whole x
      fill (inl m) = inl m
      fill (inr k) = inr (whole k)

      go : Dec (x.asked ≡ 0) → Dec (x.hand ≡ 0) → Phase x
      go (yes a) d = let q = idle_of x a t.t8 in idle a q.0 (whole q.1)
      go (no a) (yes h) = let q = open_of x a t.t8 in filling q.0 q.1 h (fill (missing_or_known x))
      go (no a) (no h) = let q = open_of x a t.t8 in let f = hand_of x h t.t7 in holding q.0 q.1 (whole f.1) f.0

pub sound_facts : (x : Tables) → is_sound x ≡ true → Sounds x
sound_facts x e =
    let t = sound_tests x e in
    record { nearly = record { core = core x t.0; tidy = tidy x t.0; phase = phase x t.0 }; few = go t.1 (missing_or_known x) }
  where
    go : contexts_few x ≡ true → Missing x ⊎ Known x → Missing x ⊎ Few x
    go f (inl m) = inl m
    go f (inr k) = inr (few_of x f k)

nearly_tests : (x : Tables) → Nearly x → Tested x
nearly_tests x n = by n.phase
  where
    k : Core x
    k = n.core

    d : Tidy x
    d = n.tidy

    make : is_t6 x ≡ true → is_t7 x ≡ true → is_t8 x ≡ true → Tested x
    make a b c =
        let h = held_back x k.held (record { few_t = d.few_t; few_s = d.few_s; some_c = d.some_c; hole_first_law = d.hole_first_law; one_c = d.one_c; few_c = d.few_c }) in
        record {
          t1 = rows_back x (record { good = k.good; counted = k.counted; first = k.first; bound = k.bound; alphabet = d.alphabet; blank = d.blank });
          t2 = h.0;
          t3 = h.1;
          t4 = h.2;
          t5 = h.3;
          t6 = a;
          t7 = b;
          t8 = c;
        }

    six : Missing x ⊎ Whole x → is_t6 x ≡ true
    six (inl m) = six_missing x m
    six (inr w) = shaped_back x k.held w.known w.shaped

    by : Phase x → Tested x
    by (idle a h w) = make (shaped_back x k.held w.known w.shaped) (seven_none x h) (idle_back x a h w.known)
    by (holding o r w f) = make (shaped_back x k.held w.known w.shaped) (hand_back x f w.known) (open_back x o r)
    by (filling o r h m) = make (six m) (seven_none x h) (open_back x o r)

pub nearly_sound : (x : Tables) → Nearly x → is_nearly_sound x ≡ true
nearly_sound x n = tests_nearly x (nearly_tests x n)

pub facts_sound : (x : Tables) → Sounds x → is_sound x ≡ true
facts_sound x s = tests_sound x (nearly_tests x s.nearly) (go s.few)
  where
    go : Missing x ⊎ Few x → contexts_few x ≡ true
    go (inl m) = few_missing x m
    go (inr f) = few_back x f

-- of tables that are nearly sound: few contexts, or exactly one more than S and T have members
pub few_or_one_more : (x : Tables) → Tidy x → (contexts_few x ≡ true) ⊎ (length x.c ≡ size x + 1)
few_or_one_more x d = go (ℕ_discrete (length x.c) (size x + 1))
  where
    go : Dec (length x.c ≡ size x + 1) → (contexts_few x ≡ true) ⊎ (length x.c ≡ size x + 1)
    go (yes e) = inr e
    go (no n) = let l = d.few_c in inl (few_back x (inr (omega arith)))

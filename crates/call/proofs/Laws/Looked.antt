-- Looking, line by line: 18, 30, then what looking tells; and what it decides of any call.
-- Each line that does not apply leaves the rest to decide. Looking at the used rows is looking at all, and so is a verdict.
use mathlib.Core.Path.{◌≡◌, refl, sym, ap, ◌∙◌}
use mathlib.Core.Bool.{Bool, true, false, cond}
use mathlib.Core.List.{List}
use Prim.Native.Nat.{ℕ, ◌*◌, ◌≤◌}
use native.Mathlib.Omega.{arith}
use lib.Dec.{eqb}
use lib.ListN.{length, take}
use Rattle.model.specs.Limits.{row_width}
use Rattle.model.specs.Sound.{is_sound}
use Rattle.model.specs.Table.{Tables}
use Rattle.model.specs.Calls.{Call, Outcome, refuses, leaves, looks, look, fault_of, done_by}
use Rattle.model.specs.Entry.{size_fits, lists_fit, tables_of, seen_of, seen_by, refused, call_by, call_seen, judge_seen}
use Rattle.model.specs.declared.Lists.{Lists}
use Rattle.model.specs.declared.Seen.{Seen}
use Rattle.call.specs.Calls.{look_told}
use Rattle.model.proofs.Laws.LentPart.{part_fits, reads_fit, seen_part, judged_part}

module _ (ws : List ℕ) (l : Lists) where
  abbrev told : (fits within sound : Bool) → Outcome
  told a b c = cond a (cond b (cond c (leaves (tables_of ws l)) (refuses 30)) (refuses 30)) (refuses 18)

  pub size_refused : size_fits ws ≡ false → refused 18 ≡ call_seen ws l looks
  size_refused e = sym (ap (λ (a : Bool). seen_by (told a (lists_fit l) (is_sound (tables_of ws l)))) e)

  module _ (s : size_fits ws ≡ true) where
    pub lists_refused : lists_fit l ≡ false → refused 30 ≡ call_seen ws l looks
    lists_refused e = sym (λ i. seen_by (told (s i) (e i) (is_sound (tables_of ws l))))

    module _ (f : lists_fit l ≡ true) where
      pub unsound_refused : is_sound (tables_of ws l) ≡ false → refused 30 ≡ call_seen ws l looks
      unsound_refused e = sym (λ i. seen_by (told (s i) (f i) (e i)))

      pub looked : is_sound (tables_of ws l) ≡ true → seen_of (look (tables_of ws l)) ≡ call_seen ws l looks
      looked e = sym (λ i. seen_by (told (s i) (f i) (e i)))

-- WHAT LOOKING TELLS decides any call: sound tables of a size that fits, in lists that fit; or its number refuses the call
module _ (ws : List ℕ) (l : Lists) where
  abbrev X : Tables
  X = tables_of ws l

  abbrev lines : (k : Call) → (size lists sound : Bool) → Outcome
  lines k a b c = cond a (cond b (cond c (cond (eqb (fault_of X k) 0) (done_by X k) (refuses (fault_of X k))) (refuses 30)) (refuses 30)) (refuses 18)

  other : (n m : ℕ) → (n ≡ m → ⊥) → {s : Seen} → s.number ≡ n → s ≡ call_seen ws l looks → refused m ≡ call_seen ws l looks → ⊥
  other n m d p e q = d (sym p ∙ ap (λ (v : Seen). v.number) (e ∙ sym q))

  pub looked_sound : look_told l ≡ call_seen ws l looks → (size_fits ws ≡ true) × (lists_fit l ≡ true) × (is_sound (tables_of ws l) ≡ true)
  looked_sound e = go (size_fits ws) (lists_fit l) (is_sound X) refl refl refl
    where
      go : (a b c : Bool) → size_fits ws ≡ a → lists_fit l ≡ b → is_sound X ≡ c → (size_fits ws ≡ true) × (lists_fit l ≡ true) × (is_sound X ≡ true)
      go false b c p q r = absurd (other 0 18 (λ z. absurd (omega (arith, z))) refl e (size_refused ws l p))
      go true false c p q r = absurd (other 0 30 (λ z. absurd (omega (arith, z))) refl e (lists_refused ws l p q))
      go true true false p q r = absurd (other 0 30 (λ z. absurd (omega (arith, z))) refl e (unsound_refused ws l p q r))
      go true true true p q r = (p, q, r)

  pub looked_refused : (n : ℕ) → (n ≡ 0 → ⊥) → refused n ≡ call_seen ws l looks → (k : Call) → call_by ws l k ≡ refuses n
  looked_refused n d e k = go (size_fits ws) (lists_fit l) (is_sound X) refl refl refl
    where
      same : (m : ℕ) → refused m ≡ call_seen ws l looks → m ≡ n
      same m q = ap (λ (v : Seen). v.number) (q ∙ sym e)

      go : (a b c : Bool) → size_fits ws ≡ a → lists_fit l ≡ b → is_sound X ≡ c → call_by ws l k ≡ refuses n
      go false b c p q r = (λ i. lines k (p i) (lists_fit l) (is_sound X)) ∙ ap refuses (same 18 (size_refused ws l p))
      go true false c p q r = (λ i. lines k (p i) (q i) (is_sound X)) ∙ ap refuses (same 30 (lists_refused ws l p q))
      go true true false p q r = (λ i. lines k (p i) (q i) (r i)) ∙ ap refuses (same 30 (unsound_refused ws l p q r))
      go true true true p q r = absurd (d (sym (ap (λ (v : Seen). v.number) (looked ws l p q r ∙ sym e))))

-- the used rows alone
module _ (ws : List ℕ) (l : Lists) (s : size_fits ws ≡ true) (f : lists_fit l ≡ true) (some : 1 ≤ l.used) (within : row_width * l.used ≤ length ws) where
  pub used_fit : size_fits (take (row_width * l.used) ws) ≡ true
  used_fit = part_fits ws l l.used s f some within (omega arith)

  pub used_looked : call_seen (take (row_width * l.used) ws) l looks ≡ call_seen ws l looks
  used_looked = sym (seen_part ws l l.used s f some within (omega arith) looks (reads_fit (take (row_width * l.used) ws) l looks refl))

  pub used_judged : (xs : List ℕ) → judge_seen (take (row_width * l.used) ws) l xs ≡ judge_seen ws l xs
  used_judged xs = sym (judged_part ws l l.used s f some within (omega arith) xs)

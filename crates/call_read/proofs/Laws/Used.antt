-- The used rows alone: a call that adds no row gets of them what it gets of all that is lent.
use mathlib.Core.Path.{◌≡◌, refl, sym, ap, subst, ◌∙◌}
use mathlib.Core.Logic.{inl, inr}
use mathlib.Core.Bool.{true, false}
use mathlib.Core.List.{List}
use Prim.Native.Nat.{ℕ}
use lib.ListN.{length, take}
use lib.Seq.{take-length}
use Rattle.model.specs.Sound.{is_sound}
use Rattle.model.specs.Calls.{looks, look}
use Rattle.model.specs.Entry.{size_fits, lists_fit, tables_of, seen_of, refused, call_seen, judged, judged_by, judge_seen}
use Rattle.model.specs.declared.Lists.{Lists}
use Rattle.call.proofs.Laws.Looked.{used_fit, used_looked, used_judged, unsound_refused, looked}
use Rattle.call_verdict.proofs.Laws.Judging.{unsound_judged}
use Rattle.call_read.specs.Read.{ReadTo}

module _ (ws : List ℕ) (l : Lists) (s : size_fits ws ≡ true) (f : lists_fit l ≡ true) where
  -- what a part of the words gives where it fits: the same as all
  pub record Same (part : List ℕ) : Type 0 where
    pub fits : size_fits part ≡ true
    pub looked : call_seen part l looks ≡ call_seen ws l looks
    pub judged : (xs : List ℕ) → judge_seen part l xs ≡ judge_seen ws l xs

  pub read_same : (m : ℕ) → ReadTo l.used (length ws) m → Same (take m ws)
  read_same m (inl e) = subst Same (sym (ap (λ (n : ℕ). take n ws) e ∙ take-length ws)) (record { fits = s; looked = refl; judged = λ xs. refl })
  read_same m (inr p) =
      subst (λ (n : ℕ). Same (take n ws)) (sym p.1)
      (record { fits = used_fit ws l s f p.0 p.2; looked = used_looked ws l s f p.0 p.2; judged = used_judged ws l s f p.0 p.2 })

  -- LOOKING at a part
  pub part_unsound : {part : List ℕ} → Same part → is_sound (tables_of part l) ≡ false → refused 30 ≡ call_seen ws l looks
  part_unsound {part} p e = unsound_refused part l p.fits f e ∙ p.looked

  pub part_sound : {part : List ℕ} → Same part → is_sound (tables_of part l) ≡ true → seen_of (look (tables_of part l)) ≡ call_seen ws l looks
  part_sound {part} p e = looked part l p.fits f e ∙ p.looked

  -- THE VERDICT at a part
  pub part_unjudged : {part : List ℕ} → Same part → is_sound (tables_of part l) ≡ false → (xs : List ℕ) → judged 30 0 0 ≡ judge_seen ws l xs
  part_unjudged {part} p e xs = sym (ap (judged_by xs) (unsound_judged part l xs p.fits f e)) ∙ p.judged xs

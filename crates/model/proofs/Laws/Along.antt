-- One call on sound lent tables: refused, and nothing changed; or taken, and the lent tables mean what the step leaves.
-- Words and lists are encoded and read back; their sizes fit again because the tables are nearly sound.
use mathlib.Core.Path.{◌≡◌, refl, sym, ap, ◌∙◌, subst}
use mathlib.Core.Logic.{◌≢◌, ◌⊎◌}
use mathlib.Core.Bool.{Bool, true, false, ◌&&◌, cond}
use Prim.Native.Nat.{◌+◌}
use native.Mathlib.Omega.{arith}
use lib.ListN.{length}
use Rattle.model.specs.Store.{used}
use Rattle.model.specs.Table.{Tables, size}
use Rattle.model.specs.Sound.{is_sound, is_nearly_sound, contexts_few}
use Rattle.model.specs.Calls.{Call, refuses, leaves, number_of, fault_of, done_by, call}
use Rattle.model.specs.Entry.{size_fits, lists_fit, lent_fits, lists_of, call_by, call_number}
use Rattle.model.specs.Run.{Lent, meant, after_call, is_taken}
use Rattle.model.specs.Promise.{is_lent_sound, NearlySound}
use Rattle.model.proofs.Laws.Tests.{both_true, true_both}
use Rattle.model.specs.Phase.{Nearly, Sounds}
use Rattle.model.proofs.Laws.Sounds.{sound_facts, nearly_sound, few_or_one_more}
use Rattle.model.proofs.Laws.Lent.{good_four, size_fits_back, rows_within, lists_of_within, lists_fit_true}
use Rattle.model.proofs.Laws.Taken.{is_taken_law, leaves_after, meant_after}
use Rattle.model.proofs.Laws.Took.{Took, took, took_nearly}
use Rattle.model.proofs.Promises.Calls.{refused_untouched, unsound_refused}

pub record LentSound (l : Lent) : Type 0 where
  pub size : size_fits l.words ≡ true
  pub lists : lists_fit l.lists ≡ true
  pub tested : is_sound (meant l) ≡ true
  pub sounds : Sounds (meant l)

pub lent_sound : (l : Lent) → is_lent_sound l ≡ true → LentSound l
lent_sound l e =
    let a = both_true (size_fits l.words && lists_fit l.lists) (is_sound (meant l)) e in
    let b = both_true (size_fits l.words) (lists_fit l.lists) a.0 in
    record { size = b.0; lists = b.1; tested = a.1; sounds = sound_facts (meant l) a.1 }

-- a call that gets neither 18 nor 30 found them sound
pub sound_behind : (l : Lent) (k : Call) → call_number l.words l.lists k ≢ 18 → call_number l.words l.lists k ≢ 30 → LentSound l
sound_behind l k p q = go (size_fits l.words) refl (is_lent_sound l) refl
  where
    go : (b : Bool) → size_fits l.words ≡ b → (c : Bool) → is_lent_sound l ≡ c → LentSound l
    go true e true f = lent_sound l f
    go true e false f = absurd (q (unsound_refused l k e f))
    go false e c f = absurd (p (ap (λ (b : Bool). number_of (cond b (cond (lent_fits l.words l.lists) (call (meant l) k) (refuses 30)) (refuses 18))) e))

-- there a call is the call on the tables meant
pub call_meant : (l : Lent) → LentSound l → (k : Call) → call_by l.words l.lists k ≡ call (meant l) k
call_meant l s k = λ i. cond (s.size i) (cond (s.lists i) (call (meant l) k) (refuses 30)) (refuses 18)

-- a taken call
pub record Along (l : Lent) (k : Call) : Type 0 where
  pub left : Tables
  pub faultless : fault_of (meant l) k ≡ 0
  pub done : done_by (meant l) k ≡ leaves left
  pub step : Took (meant l) k left
  pub nearly : Nearly left
  pub means : meant (after_call l k) ≡ left
  pub size : size_fits (after_call l k).words ≡ true
  pub lists : lists_fit (after_call l k).lists ≡ true

pub along : (l : Lent) → Sounds (meant l) → (k : Call) → is_taken l k ≡ true → Along l k
along l s k e =
    let t = is_taken_law l k e in
    let c = t.taken in
    let y = c.left in
    let w = took (meant l) s k y c.faultless c.done in
    let n = took_nearly (meant l) s w in
    let q = n.0.core in
    let d = n.0.tidy in
    let g = q.good in
    let f = leaves_after l k y t.outcome in
    let ct = d.few_c in
    let st = d.few_s in
    let tt = d.few_t in
    record {
      left = y;
      faultless = c.faultless;
      done = c.done;
      step = w;
      nearly = n.0;
      means = meant_after l k y t.outcome (good_four y.store g) q.counted g.fits n.1;
      size = ap (λ (v : Lent). size_fits v.words) f ∙ size_fits_back l.words y (good_four y.store g) (rows_within l.words (used y.store) (rw (← n.1) g.fits)) ∙ t.size;
      lists = ap (λ (v : Lent). lists_fit v.lists) f ∙ lists_fit_true (lists_of l.lists y) (lists_of_within l.lists y g.letters st tt (omega arith));
    }

-- any call leaves sound tables nearly sound
pub along_nearly : (l : Lent) → is_lent_sound l ≡ true → (k : Call) → NearlySound (after_call l k)
along_nearly l e k = go (is_taken l k) refl
  where
    s : LentSound l
    s = lent_sound l e

    go : (b : Bool) → is_taken l k ≡ b → NearlySound (after_call l k)
    go true t =
        let a = along l s.sounds k t in
        record {
          fits = true_both _ _ a.size a.lists;
          nearly = subst (λ (x : Tables). is_nearly_sound x ≡ true) (sym a.means) (nearly_sound a.left a.nearly);
          few = subst (λ (x : Tables). (contexts_few x ≡ true) ⊎ (length x.c ≡ size x + 1)) (sym a.means) (few_or_one_more a.left a.nearly.tidy);
        }
    go false t =
        subst NearlySound (sym (refused_untouched l k t))
        (record {
          fits = true_both _ _ s.size s.lists;
          nearly = nearly_sound (meant l) s.sounds.nearly;
          few = few_or_one_more (meant l) s.sounds.nearly.tidy;
        })

-- The tests of soundness mean T1 to T8, fresh runs stay sound, and any call leaves sound tables nearly sound: what a taken call leaves is read back from the words and lists that it wrote.
-- Along a fresh run goes the invariant of Laws.Fresh, which is sound in each of its three phases.
use mathlib.Core.Path.{◌≡◌}
use mathlib.Core.Bool.{true}
use Prim.Native.Nat.{ℕ}
use Rattle.model.specs.Run.{Lent, meant}
use Rattle.model.specs.Promise.{SoundMeans, is_lent_sound, StaysSound, StaysNearlySound}
use Rattle.model.proofs.Laws.Tests.{true_both}
use Rattle.model.proofs.Laws.Sounds.{sound_facts, facts_sound}
use Rattle.model.proofs.Laws.Along.{along_nearly}
use Rattle.model.proofs.Laws.RunStep.{FreshLent, fresh_sounds, fresh_start, run_after}

pub sound_means : SoundMeans
sound_means = record { told = sound_facts; tested = facts_sound }

pub stays_nearly_sound : StaysNearlySound
stays_nearly_sound l k e = along_nearly l e k

pub fresh_lent_sound : (l : Lent) (k n : ℕ) → FreshLent l k n → is_lent_sound l ≡ true
fresh_lent_sound l k n f = true_both _ _ (true_both _ _ f.size_fits_law f.lists_fit_law) (facts_sound (meant l) (fresh_sounds (meant l) k n f.tidy f.fresh))

pub stays_sound : StaysSound
stays_sound ws ns old ks e =
    let r = run_after (fresh_start ws ns old e) ks in
    fresh_lent_sound _ r.taken_now r.last_size r.fresh

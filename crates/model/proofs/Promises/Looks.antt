-- What a taken call of a fresh run tells is what looking tells next: the tables left are sound, so looking tells them, and so did the call.
use mathlib.Core.Path.{◌≡◌, refl, sym, ap, subst, ◌∙◌}
use mathlib.Core.Bool.{true, cond}
use mathlib.Core.List.{List, [], ◌∷◌, ◌++◌}
use Prim.Native.Nat.{ℕ}
use Rattle.model.specs.Table.{Tables}
use Rattle.model.specs.Calls.{Call, looks, Outcome, refuses, leaves, look}
use Rattle.model.specs.Entry.{seen_of, seen_by, call_seen, start_number, start_seen}
use Rattle.model.specs.Run.{Lent, meant, started_run, after_call, after}
use Rattle.model.specs.Promise.{is_lent_sound, Tells, LooksNext}
use Rattle.model.specs.declared.Lists.{Lists}
use Rattle.model.specs.declared.Seen.{Seen}
use Rattle.model.proofs.Laws.Lent.{start_leaves}
use Rattle.model.proofs.Laws.Taken.{is_taken_law}
use Rattle.model.proofs.Laws.Along.{lent_sound, call_meant}
use Rattle.model.proofs.Promises.Calls.{counts_told}
use Rattle.model.proofs.Promises.Sound.{stays_sound}

-- looking at sound tables tells them
sound_looks : (l : Lent) → is_lent_sound l ≡ true → call_seen l.words l.lists looks ≡ seen_of (look (meant l))
sound_looks l e = let s = lent_sound l e in ap seen_by (call_meant l s looks) ∙ λ i. seen_by (cond (s.tested i) (leaves (meant l)) (refuses 30))

-- what tells the tables is what looking at them tells
told_as_looking : (v : Seen) (x : Tables) → v.number ≡ 0 → Tells v x → seen_of (look x) ≡ v
told_as_looking v x n t = λ i.
    record {
      number = sym n i;
      phase = sym t.phase i;
      row = sym t.row i;
      states = sym t.states i;
      rules = sym t.rules i;
      contexts = sym t.contexts i;
    }

after_one : (l : Lent) (ks : List Call) (k : Call) → after l (ks ++ (k ∷ [])) ≡ after_call (after l ks) k
unfolding after
after_one l [] k = refl
after_one l (j ∷ ks) k = after_one (after_call l j) ks k

start_sound : (ws ns : List ℕ) (old : Lists) → start_number ws ns ≡ 0 → is_lent_sound (started_run ws ns old) ≡ true
unfolding after
start_sound ws ns old h = stays_sound ws ns old [] h

pub looks_next : LooksNext
looks_next =
    record {
      calls = λ ws ns old ks k h t.
          let l = after (started_run ws ns old) ks in
          let sound = subst (λ (m : Lent). is_lent_sound m ≡ true) (after_one (started_run ws ns old) ks k) (stays_sound ws ns old (ks ++ (k ∷ [])) h) in
          sound_looks (after_call l k) sound ∙
          told_as_looking (call_seen l.words l.lists k) (meant (after_call l k)) (ap (λ (o : Outcome). (seen_by o).number) (is_taken_law l k t).outcome) (counts_told.calls l k t);
      start = λ ws ns old h.
          sound_looks (started_run ws ns old) (start_sound ws ns old h) ∙
          told_as_looking (start_seen ws ns) (meant (started_run ws ns old)) (ap (λ (o : Outcome). (seen_by o).number) (start_leaves ws ns h)) (counts_told.start ws ns old h);
    }

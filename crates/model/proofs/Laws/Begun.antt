-- The tables with the mark stored, on sound tables where no line refuses: T1 to T7 with the record in hand, or T1 to T5 where none is.
-- T1 to T5 hold of the tables that the step settles, too.
use mathlib.Core.Path.{◌≡◌, refl}
use mathlib.Core.Logic.{◌≢◌, ◌⊎◌, inl}
use mathlib.Core.List.{List, []}
use Prim.Native.Nat.{ℕ, ◌+◌, ◌≤◌}
use Rattle.model.specs.Store.{Store, built}
use Rattle.model.specs.Terms.{store_from}
use Rattle.model.specs.Table.{Tables}
use Rattle.model.specs.TableFacts.{Core, Tidy, Whole, Few, Missing, HandFits}
use Rattle.model.specs.Phase.{Phase, idle, holding, filling, Sounds}
use Rattle.model.specs.Steps.{offered_tables, answered_tables}
use Rattle.model.specs.Calls.{Call, fault_of}
use Rattle.model.specs.Reached.{Begins, by_offer, by_answer, Settles, as_they_are, with_transition, with_difference}
use Rattle.model.proofs.Laws.Advance.{down_settles}
use Rattle.model.proofs.Laws.Offer.{offer_whole, offer_tidy, offer_fits, told_tidy}
use Rattle.model.proofs.Laws.Answer.{answered_core, answered_tidy, answered_whole, answered_fits}
use Rattle.model.proofs.Laws.Step.{Offering, offering, answering, mark_some, mark_small}
use Rattle.model.proofs.Laws.Took.{whole_few, idle_facts}

pub data Begun (z : Tables) : Type 0 where
  in_hand : Whole z → Tidy z → Few z → HandFits z.store z.answers z.s z.t z.c z.hand → Begun z
  none_in_hand : z.hand ≡ 0 → Core z → Tidy z → Begun z

-- AN OFFER: its record is in hand
offer_begun : (x : Tables) → Sounds x → (xs : List ℕ) (m : ℕ) → Offering x xs m → (i : ℕ) (y : Store) → store_from x.store xs [] ≡ built i y → Begun (offered_tables x m i y)
offer_begun x s xs m o i y e =
    let w = idle_facts x s o.idle_now in
    let some = mark_some m in
    let small = mark_small m o.mark in
    in_hand (offer_whole x w.0 xs o.parsed (m + 1) some small o.agrees o.other_verdict i y e)
    (offer_tidy x w.0 xs o.parsed (m + 1) some small o.agrees o.other_verdict i y e s.nearly.tidy) w.1
    (offer_fits x w.0 xs o.parsed (m + 1) some small o.agrees o.other_verdict i y e)

-- AN ANSWER: what was in hand is
answer_begun : (x : Tables) → Sounds x → (m : ℕ) → (x.asked ≢ 0) × (m ≤ 1) → Begun (answered_tables x m)
answer_begun x s m a = go s.nearly.phase s.few
  where
    go : Phase x → Missing x ⊎ Few x → Begun (answered_tables x m)
    go (idle b h w) f = absurd (a.0 b)
    go (holding o r w h) f =
        in_hand (answered_whole x w x.hand h x.asked o.0 o.1 (m + 1) (mark_some m) (mark_small m a.1))
        (told_tidy x w x.asked o.0 (m + 1) (mark_some m) (mark_small m a.1) (inl o.1) x.hand s.nearly.tidy) (whole_few x w f)
        (answered_fits x w x.hand h x.asked o.0 o.1 (m + 1) (mark_some m) (mark_small m a.1))
    go (filling o r h e) f =
        none_in_hand h (answered_core x s.nearly.core x.asked o.0 o.1 (m + 1) (mark_small m a.1))
        (answered_tidy x s.nearly.core x.asked o.0 o.1 (m + 1) (mark_small m a.1) s.nearly.tidy)

pub begun_facts : (x : Tables) → Sounds x → (k : Call) → fault_of x k ≡ 0 → (z : Tables) → Begins x k z → Begun z
begun_facts x s k f z (by_offer {symbols = xs} {mark = m} {row = i} {y = y} e) = offer_begun x s xs m (offering x s.nearly.core.bound xs m f) i y e
begun_facts x s k f z (by_answer {mark = m}) = answer_begun x s m (answering x m f)

-- THE TABLES SETTLED
pub settles_core : (z y : Tables) → Begun z → Settles z y → Core y
settles_core z y (in_hand w d f h) s = down_settles z w d f y h s
settles_core z y (none_in_hand h k d) (as_they_are e) = k
settles_core z y (none_in_hand h k d) (with_transition held e l q) = absurd (held h)
settles_core z y (none_in_hand h k d) (with_difference held e q) = absurd (held h)

pub settles_same_s : {z y : Tables} → Settles z y → y.s ≡ z.s
settles_same_s (as_they_are e) = refl
settles_same_s (with_transition held e l q) = refl
settles_same_s (with_difference held e q) = refl

pub begun_tidy : {z : Tables} → Begun z → Tidy z
begun_tidy (in_hand w d f h) = d
begun_tidy (none_in_hand h k d) = d

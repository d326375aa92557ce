-- Where a step stands on its way (§3.4, §3.5, §4): the tables with the mark stored, and the tables that it settles, by the definitions of the steps.
use Rattle.std.specs.Prelude.{◌≡◌, ◌≢◌, List, [], ◌∷◌, ◌++◌, ℕ, ◌<◌, length}
use Rattle.model.specs.Limits.{most_rules}
use Rattle.model.specs.Store.{Store, built, fill, Spot}
use Rattle.model.specs.Terms.{store_from}
use Rattle.model.specs.Table.{Tables}
use Rattle.model.specs.Steps.{Search, at_new_transition, at_difference, search, offered_tables, answered_tables, put_tables}
use Rattle.model.specs.Calls.{Call, offers, answers}

-- THE MARK STORED: by an offer whose rows found room, or by an answer
pub data Begins (x : Tables) : Call → Tables → Type 0 where
  by_offer : {symbols : List ℕ} {mark row : ℕ} {y : Store} → store_from x.store symbols [] ≡ built row y →
      Begins x (offers symbols mark) (offered_tables x mark row y)
  by_answer : {mark : ℕ} → Begins x (answers mark) (answered_tables x mark)

-- how the search for the record in hand ends
abbrev pub search_of : Tables → Search
search_of x = search x.store x.answers x.s x.t x.c x.hand

-- THE TABLES SETTLED: as they are where nothing is in hand, or with the record in hand put down: with a new transition, or for an answer that differs
pub data Settles (x : Tables) : Tables → Type 0 where
  as_they_are : x.hand ≡ 0 → Settles x x
  with_transition : {hand context : ℕ} {p : Spot} {y : Store} → x.hand ≢ 0 → search_of x ≡ at_new_transition hand p → length x.t < most_rules →
      fill x.store p.around 0 ≡ built context y → Settles x (put_tables x (x.t ++ (p.row ∷ [])) context y)
  with_difference : {hand rep row context : ℕ} {p : Spot} {y : Store} → x.hand ≢ 0 → search_of x ≡ at_difference hand p rep row →
      fill x.store p.around 0 ≡ built context y → Settles x (put_tables x x.t context y)

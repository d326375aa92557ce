-- Every promise at once, in the order of the demands (§7.3): one record, of which proofs/Promises/All.antt has the one value.
use Rattle.model.specs.Due.{RoomAlone}
use Rattle.model.specs.Marks.{SixCases, ContradictionTold}
use Rattle.model.specs.Verdicts.{VerdictTold}
use Rattle.model.specs.Promise.{RefusedUntouched, ReadsUntouched, UnsoundRefused, SoundMeans, StaysSound, StaysNearlySound, SearchEnds, TakenWhenDue, OffersTaken, OthersTaken, CountsTold, LooksNext, Ordered, AskedOnce, AnswersTaken, OneAutomaton, ListBack, Vouched, GrowsEach, LearnsEach, TakenAlone}
use Rattle.model.specs.Plug.{FillsTrees, AsksPlugs, RowsSaid}
use Rattle.model.specs.Worked.{Runs, Corners, Judgements, PremisesHold}

pub record Promised : Type 0 where
  -- what a call leaves
  pub refused_untouched : RefusedUntouched
  pub reads_untouched : ReadsUntouched
  pub unsound_refused : UnsoundRefused
  pub sound_means : SoundMeans
  pub stays_sound : StaysSound
  pub stays_nearly_sound : StaysNearlySound
  pub search_ends : SearchEnds
  pub taken_when_due : TakenWhenDue
  pub offers_taken : OffersTaken
  pub six_cases : SixCases
  pub contradiction_told : ContradictionTold
  pub others_taken : OthersTaken
  pub room_alone : RoomAlone
  pub counts_told : CountsTold
  pub looks_next : LooksNext
  -- the partial learner
  pub ordered : Ordered
  pub fills_trees : FillsTrees
  pub asks_plugs : AsksPlugs
  pub rows_said : RowsSaid
  pub asked_once : AskedOnce
  pub answers_taken : AnswersTaken
  pub one_automaton : OneAutomaton
  pub verdict_told : VerdictTold
  pub list_back : ListBack
  pub vouched : Vouched
  -- whole runs
  pub grows_each : GrowsEach
  pub learns_each : LearnsEach
  pub taken_alone : TakenAlone
  -- the worked runs
  pub runs : Runs
  pub corners : Corners
  pub judgements : Judgements
  pub premises_hold : PremisesHold

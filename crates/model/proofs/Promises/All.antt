-- Every promise kept, each by the term of its own file.
use Rattle.model.specs.Promised.{Promised}
use Rattle.model.proofs.Promises.Calls.{refused_untouched, reads_untouched, unsound_refused, counts_told, taken_alone}
use Rattle.model.proofs.Promises.Sound.{sound_means, stays_sound, stays_nearly_sound}
use Rattle.model.proofs.Promises.Looks.{looks_next}
use Rattle.model.proofs.Promises.Steps.{search_ends, taken_when_due, room_alone}
use Rattle.model.proofs.Promises.Offers.{offers_taken, others_taken}
use Rattle.model.proofs.Promises.Order.{ordered}
use Rattle.model.proofs.Promises.History.{asked_once, answers_taken, vouched}
use Rattle.model.proofs.Promises.Marks.{six_cases, contradiction_told}
use Rattle.model.proofs.Promises.Plug.{fills_trees, asks_plugs, rows_said}
use Rattle.model.proofs.Promises.Automata.{one_automaton}
use Rattle.model.proofs.Promises.Verdicts.{verdict_told}
use Rattle.model.proofs.Promises.Listing.{list_back}
use Rattle.model.proofs.Promises.Learns.{grows_each, learns_each}
use Rattle.model.proofs.Promises.Worked.{runs, corners, judgements, premises_hold}

pub promised : Promised
promised =
    record {
      refused_untouched = refused_untouched;
      reads_untouched = reads_untouched;
      unsound_refused = unsound_refused;
      sound_means = sound_means;
      stays_sound = stays_sound;
      stays_nearly_sound = stays_nearly_sound;
      search_ends = search_ends;
      taken_when_due = taken_when_due;
      offers_taken = offers_taken;
      six_cases = six_cases;
      contradiction_told = contradiction_told;
      others_taken = others_taken;
      room_alone = room_alone;
      counts_told = counts_told;
      looks_next = looks_next;
      ordered = ordered;
      fills_trees = fills_trees;
      asks_plugs = asks_plugs;
      rows_said = rows_said;
      asked_once = asked_once;
      answers_taken = answers_taken;
      one_automaton = one_automaton;
      verdict_told = verdict_told;
      list_back = list_back;
      vouched = vouched;
      grows_each = grows_each;
      learns_each = learns_each;
      taken_alone = taken_alone;
      runs = runs;
      corners = corners;
      judgements = judgements;
      premises_hold = premises_hold;
    }

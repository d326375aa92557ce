-- The worked run as a script and the corners of §8, by computation.
-- Each definition unfolds to its value.
use mathlib.Core.Path.{refl}
use Rattle.model.specs.Base.{all, same, among, all_among, no_repeats, any_true, count_true, sum, place_of, backwards}
use Rattle.model.specs.Store.{fold_from, find_from, fill, filled_row, split_at, down_from}
use Rattle.model.specs.Terms.{symbols_fault, store_from, known_from}
use Rattle.model.specs.Automata.{target_in, states_of, run_from}
use Rattle.model.specs.Table.{any_missing, state_from}
use Rattle.model.specs.Sound.{rows_fit, differ_known, all_differ}
use Rattle.model.specs.Steps.{search_from, seek_in, seek, grow}
use Rattle.model.specs.Entry.{nodes_in, answers_in, row_words}
use Rattle.text.specs.Written.{others, bracketed}
use Rattle.text.specs.Reading.{indexed_from, record_from, list_from, balanced_from}
use Rattle.text.specs.Alphabet.{pairs_from, alphabet_of}
use Rattle.text.specs.Script.{lines_from, replies_to}
use Rattle.text.specs.Worked.{joined, ScriptRuns}

pub script_runs : ScriptRuns
unfolding all same among all_among no_repeats any_true count_true sum place_of backwards fold_from find_from fill filled_row split_at down_from symbols_fault store_from known_from target_in states_of run_from any_missing state_from rows_fit differ_known all_differ search_from seek_in seek grow nodes_in answers_in row_words others bracketed indexed_from record_from list_from balanced_from pairs_from alphabet_of lines_from replies_to joined
script_runs =
    record {
      the_run = refl;
      nothing = refl;
      empty_line = refl;
      count_5 = refl;
      letter_twice = refl;
      leading_space = refl;
      no_newline = refl;
      not_a_line = refl;
      brackets = refl;
      refusals = refl;
      fell_off = refl;
    }

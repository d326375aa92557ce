-- The worked runs, by computation.
-- Each definition unfolds to its value.
use mathlib.Core.Path.{refl}
use mathlib.Core.List.{[], ◌∷◌}
use Rattle.model.specs.Base.{all, same, among, all_among, no_repeats, any_true, count_true, sum, place_of, backwards}
use Rattle.model.specs.Store.{fold_from, find_from, fill, filled_row, split_at, down_from}
use Rattle.model.specs.Terms.{forest, eval_tree, eval_from, symbols_fault, store_from, known_from}
use Rattle.model.specs.Automata.{rule_from, target_in, has_left, lefts_differ, states_of, run_from}
use Rattle.model.specs.Table.{any_missing, state_from}
use Rattle.model.specs.Sound.{rows_fit, differ_known, all_differ}
use Rattle.model.specs.Steps.{search_from, seek_in, seek, grow}
use Rattle.model.specs.Listing.{little, value_of, rule_blocks, rules_from}
use Rattle.model.specs.Entry.{nodes_in, answers_in, row_words}
use Rattle.model.specs.Run.{after, said_in}
use Rattle.model.specs.Worked.{TheRun, Runs, Starts, Corners, Judgements, PremisesHold}

the_run : TheRun
unfolding all same among all_among no_repeats any_true count_true sum place_of backwards fold_from find_from fill filled_row split_at down_from symbols_fault store_from known_from target_in states_of run_from any_missing state_from rows_fit differ_known all_differ search_from seek_in seek grow nodes_in answers_in row_words after
the_run =
    record {
      line_1 = refl;
      line_2 = refl;
      line_3 = refl;
      line_4 = refl;
      line_5 = refl;
      line_6 = refl;
      row_1 = refl;
      row_2 = refl;
      row_3 = refl;
      row_4 = refl;
      used_rows = refl;
      looked_at = refl;
    }

pub runs : Runs
unfolding all same among all_among no_repeats any_true count_true sum place_of backwards fold_from find_from fill filled_row split_at down_from symbols_fault store_from known_from target_in states_of run_from any_missing state_from rows_fit differ_known all_differ little rule_blocks search_from seek_in seek grow nodes_in answers_in row_words after
runs =
    record {
      the_run = the_run;
      four_rows = refl;
      one_row = refl;
      one_row_offer = refl;
      bytes = refl;
      bytes_are = refl;
      no_symbols = refl;
      o_alone = refl;
      p_p = refl;
      symbol_2 = refl;
      no_to_op = refl;
      an_answer = refl;
      yes_to_p = refl;
      no_to_op_again = refl;
    }

starts : Starts
unfolding all row_words
starts =
    record {
      first_row = refl;
      lists = refl;
      most_rows_law = refl;
      a_row_more = refl;
      no_words = refl;
      a_word_more = refl;
      no_alphabet_law = refl;
      five_children = refl;
      size_before_alphabet = refl;
      refused_words = refl;
      refused_lists = refl;
    }

pub corners : Corners
unfolding all same among all_among no_repeats any_true count_true sum place_of backwards fold_from find_from fill filled_row split_at down_from symbols_fault store_from known_from rule_from target_in has_left lefts_differ states_of run_from any_missing state_from rows_fit differ_known all_differ little value_of rule_blocks rules_from search_from seek_in seek grow nodes_in answers_in row_words after
corners =
    record {
      starts = starts;
      offered_while_asking = refl;
      offered_when_accepted = refl;
      nothing_with_mark_2 = refl;
      too_long = refl;
      just_long_enough = refl;
      one_symbol_more = refl;
      third_offer_taken = refl;
      symbol_before_mark = refl;
      mark_2 = refl;
      contradiction_before_verdict = refl;
      same_no_again = refl;
      row_too_few = refl;
      rows_enough = refl;
      rows_to_spare = refl;
      answered_while_proposing = refl;
      answer_2 = refl;
      accepted_while_asking = refl;
      accepted_twice = refl;
      not_whole_rows = refl;
      not_sound = refl;
      flag_2 = refl;
      emitted_while_asking = refl;
      one_byte_short = refl;
      out_kept = refl;
      just_room = refl;
      read_back = refl;
      nothing_read = refl;
      byte_more = refl;
    }

pub judgements : Judgements
unfolding all same among all_among no_repeats any_true count_true sum place_of backwards fold_from find_from fill filled_row split_at down_from symbols_fault store_from known_from target_in states_of run_from any_missing state_from rows_fit differ_known all_differ search_from seek_in seek grow nodes_in answers_in row_words after
judgements =
    record {
      fresh_run = refl;
      after_line_3 = refl;
      at_the_end = refl;
      not_final = refl;
      accepted = refl;
      when_accepted = refl;
      while_asking = refl;
      nothing = refl;
      too_long = refl;
      unknown_symbol = refl;
      few_children = refl;
      many_trees = refl;
      not_whole_rows = refl;
      not_sound = refl;
    }

pub premises_hold : PremisesHold
unfolding all same among all_among no_repeats any_true count_true sum place_of backwards fold_from find_from fill filled_row split_at down_from forest eval_tree eval_from symbols_fault store_from known_from rule_from target_in has_left lefts_differ states_of run_from any_missing state_from rows_fit differ_known all_differ little value_of rule_blocks rules_from search_from seek_in seek grow nodes_in answers_in row_words after said_in
premises_hold =
    record {
      own =
          record {
            counts = 1 ∷ 0 ∷ [];
            finals = 0 ∷ 1 ∷ [];
            rules = record { symbol = 1; states = []; target = 0 } ∷ record { symbol = 0; states = 0 ∷ []; target = 1 } ∷ [];
          };
      is_its_list = refl;
      start = refl;
      alphabet = refl;
      deterministic = refl;
      agrees = refl;
    }

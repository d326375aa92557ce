-- The worked runs (§9) as one claim about the definitions: line by line, the record asked, the rows used, the refusals, the bytes.
use Rattle.std.specs.Prelude.{◌≡◌, Bool, true, List, [], ◌∷◌, ◌++◌, ℕ, ◌+◌, ◌-◌, ◌*◌, length, get_or, take, drop, replicate}
use Rattle.model.specs.Limits.{hole_symbol, row_width, most_contexts, most_listed, most_rows, most_rules, most_states, most_symbols}
use Rattle.model.specs.Base.{all}
use Rattle.model.specs.Automata.{Automaton, is_deterministic}
use Rattle.model.specs.Listing.{Read, loaded, read_list}
use Rattle.model.specs.Calls.{Call, offers, answers, accept, looks, emits}
use Rattle.model.specs.Entry.{start_number, start_seen, start_words, start_lists, call_number, call_seen, emit_out, emit_seen, load_seen, judged, judge_seen}
use Rattle.model.specs.Run.{Lent, started_run, after, said_in, agrees_with}
use Rattle.model.specs.declared.Lists.{Lists}
use Rattle.model.specs.declared.Seen.{Seen}
use Rattle.model.specs.declared.Emitted.{Emitted}
use Rattle.model.specs.declared.Judged.{Judged}

-- o is symbol 0 with one child, p is 1 with none; what is lent holds other numbers before the start
abbrev pub counts : List ℕ
counts = 1 ∷ 0 ∷ []

abbrev pub old_words : (rows : ℕ) → List ℕ
old_words n = replicate (row_width * n) 7

abbrev pub old_lists : Lists
old_lists =
    record {
      letters = 9;
      counts = replicate most_symbols 9;
      accepted = 9;
      used = 99;
      states = 9;
      s = replicate most_states 9;
      rules = 9;
      t = replicate most_rules 9;
      contexts = 9;
      c = replicate most_contexts 9;
      hand = 9;
      asked = 9;
    }

abbrev pub fresh : (rows : ℕ) → Lent
fresh n = started_run (old_words n) counts old_lists

-- the run: + o[p], n, + o[p], n, ok
abbrev pub op : List ℕ
op = 1 ∷ 0 ∷ []

abbrev pub the_calls : List Call
the_calls = offers op 1 ∷ answers 0 ∷ offers op 1 ∷ answers 0 ∷ accept ∷ []

abbrev pub at : (rows calls : ℕ) → Lent
at n k = after (fresh n) (take k the_calls)

abbrev pub seen_at : (rows calls : ℕ) → Seen
seen_at n k = call_seen (at n k).words (at n k).lists looks

abbrev pub seen : (phase row states rules contexts : ℕ) → Seen
seen p r s t c = record { number = 0; phase = p; row = r; states = s; rules = t; contexts = c }

abbrev pub told : Lent → Call → Seen
told l k = call_seen l.words l.lists k

abbrev pub refusal : Lent → Call → ℕ
refusal l k = call_number l.words l.lists k

-- symbol, answer and children of a row
abbrev pub row_is : Lent → (row symbol answer kid : ℕ) → Type 0
row_is l i a v k = take row_width (drop (row_width * i) l.words) ≡ a ∷ v ∷ k ∷ 0 ∷ 0 ∷ 0 ∷ []

abbrev pub the_list : List ℕ
the_list =
    (2 ∷ 0 ∷ 0 ∷ 0 ∷ 1 ∷ 0 ∷ 1 ∷ 0 ∷ []) ++ (2 ∷ 0 ∷ 0 ∷ 0 ∷ 2 ∷ 0 ∷ 0 ∷ 1 ∷ []) ++ (2 ∷ 0 ∷ 0 ∷ 0 ∷ 3 ∷ 0 ∷ 1 ∷ 0 ∷ []) ++
    (3 ∷ 0 ∷ 0 ∷ 0 ∷ 3 ∷ 0 ∷ 0 ∷ 0 ∷ 1 ∷ [])

-- line by line: what each call returns; the records asked are row 1, p, and row 4, o[o[p]]
pub record TheRun : Type 0 where
  pub line_1 : start_seen (old_words 5) counts ≡ seen 0 0 0 0 1
  pub line_2 : told (at 5 0) (offers op 1) ≡ seen 1 1 0 1 2
  pub line_3 : told (at 5 1) (answers 0) ≡ seen 0 0 1 1 2
  pub line_4 : told (at 5 2) (offers op 1) ≡ seen 1 4 1 2 2
  pub line_5 : told (at 5 3) (answers 0) ≡ seen 0 0 2 2 2
  pub line_6 : told (at 5 4) accept ≡ seen 2 0 2 2 2
  pub row_1 : row_is (at 5 1) 1 1 0 0
  pub row_2 : row_is (at 5 1) 2 0 2 1
  pub row_3 : row_is (at 5 1) 3 0 0 0
  pub row_4 : row_is (at 5 3) 4 0 0 2
  pub used_rows : (at 5 5).lists.used ≡ 5
  pub looked_at : seen_at 5 5 ≡ seen 2 0 2 2 2

pub record Runs : Type 0 where
  pub the_run : TheRun
  pub four_rows : refusal (at 4 2) (offers op 1) ≡ 34
  pub one_row : start_seen (old_words 1) counts ≡ seen 0 0 0 0 1
  pub one_row_offer : refusal (fresh 1) (offers op 1) ≡ 34
  pub bytes : emit_out (at 5 5).words (at 5 5).lists (replicate 34 9) ≡ the_list ++ (9 ∷ [])
  pub bytes_are : length the_list ≡ 33
  pub no_symbols : refusal (fresh 9) (offers [] 1) ≡ 11
  pub o_alone : refusal (fresh 9) (offers (0 ∷ []) 1) ≡ 14
  pub p_p : refusal (fresh 9) (offers (1 ∷ 1 ∷ []) 1) ≡ 15
  pub symbol_2 : refusal (fresh 9) (offers (2 ∷ []) 1) ≡ 13
  pub no_to_op : refusal (fresh 9) (offers op 0) ≡ 32
  pub an_answer : refusal (fresh 9) (answers 0) ≡ 31
  pub yes_to_p : refusal (at 9 2) (offers (1 ∷ []) 1) ≡ 33
  pub no_to_op_again : refusal (at 9 2) (offers op 0) ≡ 33

-- THE CORNERS of the calls: what start leaves, what a refusal returns, and the lines of refusal in their order
abbrev pub zeros : (number : ℕ) → Seen
zeros n = record { number = n; phase = 0; row = 0; states = 0; rules = 0; contexts = 0 }

abbrev pub wrote : (number size : ℕ) → Emitted
wrote n k = record { number = n; size = k }

abbrev pub emitting : Lent → (room : ℕ) → Emitted
emitting l r = emit_seen l.words l.lists (replicate r 9)

pub record Starts : Type 0 where
  pub first_row : start_words (old_words 2) counts ≡ (hole_symbol ∷ 0 ∷ 0 ∷ 0 ∷ 0 ∷ 0 ∷ []) ++ replicate row_width 7
  pub lists :
      start_lists (old_words 2) counts old_lists ≡
      record {
        letters = 2;
        counts = 1 ∷ 0 ∷ replicate (most_symbols - 2) 0;
        accepted = 0;
        used = 1;
        states = 0;
        s = replicate most_states 0;
        rules = 0;
        t = replicate most_rules 0;
        contexts = 1;
        c = replicate most_contexts 0;
        hand = 0;
        asked = 0;
      }
  pub most_rows_law : start_seen (old_words most_rows) counts ≡ seen 0 0 0 0 1
  pub a_row_more : start_seen (old_words (most_rows + 1)) counts ≡ zeros 18
  pub no_words : start_seen [] counts ≡ zeros 18
  pub a_word_more : start_seen (7 ∷ old_words 2) counts ≡ zeros 18
  pub no_alphabet_law : start_seen (old_words 2) [] ≡ zeros 17
  pub five_children : start_seen (old_words 2) (5 ∷ 0 ∷ []) ≡ zeros 17
  pub size_before_alphabet : start_seen [] [] ≡ zeros 18
  pub refused_words : start_words (old_words 2) [] ≡ old_words 2
  pub refused_lists : start_lists (old_words 2) [] old_lists ≡ old_lists

pub record Corners : Type 0 where
  pub starts : Starts
  -- offers: 31, 11 to 15, 16, 33, 32
  pub offered_while_asking : told (at 9 1) (offers [] 2) ≡ zeros 31
  pub offered_when_accepted : told (at 9 5) (offers op 0) ≡ zeros 31
  pub nothing_with_mark_2 : told (fresh 9) (offers [] 2) ≡ zeros 11
  pub too_long : told (fresh 9) (offers (replicate (most_listed + 1) 2) 2) ≡ zeros 12
  pub just_long_enough : told (fresh 9) (offers (1 ∷ replicate 1023 0) 1) ≡ zeros 34
  pub one_symbol_more : told (fresh 9) (offers (1 ∷ replicate most_listed 0) 1) ≡ zeros 12
  pub third_offer_taken : told (at 9 4) (offers (1 ∷ 0 ∷ 0 ∷ 0 ∷ []) 1) ≡ seen 0 0 2 3 2
  pub symbol_before_mark : told (fresh 9) (offers (0 ∷ []) 2) ≡ zeros 14
  pub mark_2 : told (fresh 9) (offers op 2) ≡ zeros 16
  pub contradiction_before_verdict : told (at 9 2) (offers op 0) ≡ zeros 33
  pub same_no_again : told (at 9 2) (offers (1 ∷ []) 0) ≡ zeros 32
  -- 34 with three rows, which are one too few; taken with four, and with some to spare
  pub row_too_few : told (fresh 3) (offers op 1) ≡ zeros 34
  pub rows_enough : told (fresh 4) (offers op 1) ≡ seen 1 1 0 1 2
  pub rows_to_spare : told (fresh 12) (offers op 1) ≡ seen 1 1 0 1 2
  -- answers: 31, 16; accepting: 31
  pub answered_while_proposing : told (fresh 9) (answers 2) ≡ zeros 31
  pub answer_2 : told (at 9 1) (answers 2) ≡ zeros 16
  pub accepted_while_asking : told (at 9 1) accept ≡ zeros 31
  pub accepted_twice : told (at 9 5) accept ≡ zeros 31
  -- any call: 18 before 30; a flag of 2 is not sound
  pub not_whole_rows : call_seen (7 ∷ (fresh 9).words) old_lists looks ≡ zeros 18
  pub not_sound : call_seen (fresh 9).words old_lists looks ≡ zeros 30
  pub flag_2 : call_seen (fresh 9).words (record { letters = 2; counts = counts; accepted = 2; used = 1; states = 0; s = []; rules = 0; t = []; contexts = 1; c = 0 ∷ []; hand = 0; asked = 0 }) looks ≡ zeros 30
  -- emitting: 31, 20; 33 bytes are enough
  pub emitted_while_asking : emitting (at 9 1) 0 ≡ wrote 31 0
  pub one_byte_short : emitting (at 9 5) 32 ≡ wrote 20 0
  pub out_kept : emit_out (at 9 5).words (at 9 5).lists (replicate 32 9) ≡ replicate 32 9
  pub just_room : emitting (at 9 5) 33 ≡ wrote 0 33
  -- loading: the rules read, or 21
  pub read_back : load_seen the_list ≡ wrote 0 2
  pub nothing_read : load_seen [] ≡ wrote 21 0
  pub byte_more : load_seen (the_list ++ (0 ∷ [])) ≡ wrote 21 0

-- VERDICTS along the run: the outcome and the place, or a refusal and zeros
abbrev pub judging : Lent → (symbols : List ℕ) → Judged
judging l xs = judge_seen l.words l.lists xs

abbrev pub ooop : List ℕ
ooop = 1 ∷ 0 ∷ 0 ∷ 0 ∷ []

pub record Judgements : Type 0 where
  -- the empty automaton has no rule for p; after line 3 there is one, and none for o[p]; at the end none for o[o[p]]
  pub fresh_run : judging (fresh 9) op ≡ judged 0 3 0
  pub after_line_3 : judging (at 9 2) ooop ≡ judged 0 3 1
  pub at_the_end : judging (at 9 4) ooop ≡ judged 0 3 2
  pub not_final : judging (at 9 4) (1 ∷ []) ≡ judged 0 2 0
  pub accepted : judging (at 9 4) op ≡ judged 0 1 0
  -- an accepted run has verdicts, one that asks has none
  pub when_accepted : judging (at 9 5) ooop ≡ judged 0 3 2
  pub while_asking : judging (at 9 1) [] ≡ judged 31 0 0
  -- 11 to 15, of which 12 comes before 13; 18 and 30 before all
  pub nothing : judging (at 9 4) [] ≡ judged 11 0 0
  pub too_long : judging (at 9 4) (replicate (most_listed + 1) 2) ≡ judged 12 0 0
  pub unknown_symbol : judging (at 9 4) (1 ∷ 2 ∷ []) ≡ judged 13 0 0
  pub few_children : judging (at 9 4) (0 ∷ []) ≡ judged 14 0 0
  pub many_trees : judging (at 9 4) (1 ∷ 1 ∷ []) ≡ judged 15 0 0
  pub not_whole_rows : judge_seen (7 ∷ (fresh 9).words) old_lists [] ≡ judged 18 0 0
  pub not_sound : judge_seen (fresh 9).words old_lists [] ≡ judged 30 0 0

-- the premises of LearnsEach hold for this run and its own automaton
pub record PremisesHold : Type 0 where
  pub own : Automaton
  pub is_its_list : read_list the_list ≡ loaded (record { automaton = own })
  pub start : start_number (old_words 5) counts ≡ 0
  pub alphabet : own.counts ≡ counts
  pub deterministic : is_deterministic own ≡ true
  pub agrees : all (agrees_with own) (said_in (fresh 5) the_calls) ≡ true

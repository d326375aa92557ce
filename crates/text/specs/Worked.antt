-- The worked run as a script (§9), byte for byte, and the corners of §8, as one claim about the definitions.
use Rattle.std.specs.Prelude.{◌≡◌, List, [], ◌∷◌, ◌++◌, ℕ}
use Rattle.text.specs.Bytes.{newline}
use Rattle.text.specs.Script.{output_of}

-- lines with their newlines
unfoldable pub joined : (lines : List (List ℕ)) → List ℕ
joined [] = []
joined (l ∷ ls) = l ++ (newline ∷ joined ls)

-- o 1 p 0, + o[p], n, + o[p], n, ok
abbrev pub the_input : List (List ℕ)
the_input =
    (111 ∷ 32 ∷ 49 ∷ 32 ∷ 112 ∷ 32 ∷ 48 ∷ []) ∷
    (43 ∷ 32 ∷ 111 ∷ 91 ∷ 112 ∷ 93 ∷ []) ∷
    (110 ∷ []) ∷
    (43 ∷ 32 ∷ 111 ∷ 91 ∷ 112 ∷ 93 ∷ []) ∷
    (110 ∷ []) ∷
    (111 ∷ 107 ∷ []) ∷ []

-- propose 0 0 1, ask p, propose 1 1 2, ask o[o[p]], propose 2 2 2, accepted
abbrev pub the_output : List (List ℕ)
the_output =
    (112 ∷ 114 ∷ 111 ∷ 112 ∷ 111 ∷ 115 ∷ 101 ∷ 32 ∷ 48 ∷ 32 ∷ 48 ∷ 32 ∷ 49 ∷ []) ∷
    (97 ∷ 115 ∷ 107 ∷ 32 ∷ 112 ∷ []) ∷
    (112 ∷ 114 ∷ 111 ∷ 112 ∷ 111 ∷ 115 ∷ 101 ∷ 32 ∷ 49 ∷ 32 ∷ 49 ∷ 32 ∷ 50 ∷ []) ∷
    (97 ∷ 115 ∷ 107 ∷ 32 ∷ 111 ∷ 91 ∷ 111 ∷ 91 ∷ 112 ∷ 93 ∷ 93 ∷ []) ∷
    (112 ∷ 114 ∷ 111 ∷ 112 ∷ 111 ∷ 115 ∷ 101 ∷ 32 ∷ 50 ∷ 32 ∷ 50 ∷ 32 ∷ 50 ∷ []) ∷
    (97 ∷ 99 ∷ 99 ∷ 101 ∷ 112 ∷ 116 ∷ 101 ∷ 100 ∷ []) ∷ []

pub record ScriptRuns : Type 0 where
  pub the_run : output_of (joined the_input) ≡ joined the_output
  -- no input, no output
  pub nothing : output_of ([]) ≡ []
  -- an empty first line is refused by 17
  pub empty_line : output_of (10 ∷ 10 ∷ []) ≡ 114 ∷ 101 ∷ 102 ∷ 117 ∷ 115 ∷ 101 ∷ 100 ∷ 32 ∷ 49 ∷ 55 ∷ 10 ∷ []
  -- so is a count above 4
  pub count_5 : output_of (111 ∷ 32 ∷ 53 ∷ []) ≡ 114 ∷ 101 ∷ 102 ∷ 117 ∷ 115 ∷ 101 ∷ 100 ∷ 32 ∷ 49 ∷ 55 ∷ 10 ∷ []
  -- a letter twice is unread, and the script ends
  pub letter_twice : output_of (111 ∷ 32 ∷ 49 ∷ 32 ∷ 111 ∷ 32 ∷ 48 ∷ 10 ∷ 111 ∷ 107 ∷ 10 ∷ []) ≡ 117 ∷ 110 ∷ 114 ∷ 101 ∷ 97 ∷ 100 ∷ 10 ∷ []
  -- single spaces alone part the items
  pub leading_space : output_of (32 ∷ 111 ∷ 32 ∷ 49 ∷ 32 ∷ 112 ∷ 32 ∷ 48 ∷ 10 ∷ []) ≡ 117 ∷ 110 ∷ 114 ∷ 101 ∷ 97 ∷ 100 ∷ 10 ∷ []
  -- the last line needs no newline; lines after acceptance are answered
  pub no_newline : output_of (112 ∷ 32 ∷ 48 ∷ 10 ∷ 111 ∷ 107 ∷ 10 ∷ 111 ∷ 107 ∷ []) ≡ 112 ∷ 114 ∷ 111 ∷ 112 ∷ 111 ∷ 115 ∷ 101 ∷ 32 ∷ 48 ∷ 32 ∷ 48 ∷ 32 ∷ 49 ∷ 10 ∷ 97 ∷ 99 ∷ 99 ∷ 101 ∷ 112 ∷ 116 ∷ 101 ∷ 100 ∷ 10 ∷ 114 ∷ 101 ∷ 102 ∷ 117 ∷ 115 ∷ 101 ∷ 100 ∷ 32 ∷ 51 ∷ 49 ∷ 10 ∷ []
  -- unread lines are no calls: an empty one, Y, + without a record
  pub not_a_line : output_of (112 ∷ 32 ∷ 48 ∷ 10 ∷ 10 ∷ 89 ∷ 10 ∷ 43 ∷ 32 ∷ 10 ∷ 43 ∷ 10 ∷ 121 ∷ 32 ∷ 10 ∷ 111 ∷ 107 ∷ 10 ∷ []) ≡ 112 ∷ 114 ∷ 111 ∷ 112 ∷ 111 ∷ 115 ∷ 101 ∷ 32 ∷ 48 ∷ 32 ∷ 48 ∷ 32 ∷ 49 ∷ 10 ∷ 117 ∷ 110 ∷ 114 ∷ 101 ∷ 97 ∷ 100 ∷ 10 ∷ 117 ∷ 110 ∷ 114 ∷ 101 ∷ 97 ∷ 100 ∷ 10 ∷ 117 ∷ 110 ∷ 114 ∷ 101 ∷ 97 ∷ 100 ∷ 10 ∷ 117 ∷ 110 ∷ 114 ∷ 101 ∷ 97 ∷ 100 ∷ 10 ∷ 117 ∷ 110 ∷ 114 ∷ 101 ∷ 97 ∷ 100 ∷ 10 ∷ 97 ∷ 99 ∷ 99 ∷ 101 ∷ 112 ∷ 116 ∷ 101 ∷ 100 ∷ 10 ∷ []
  -- brackets that differ from the alphabet
  pub brackets : output_of (111 ∷ 32 ∷ 49 ∷ 32 ∷ 112 ∷ 32 ∷ 48 ∷ 10 ∷ 43 ∷ 32 ∷ 111 ∷ 10 ∷ 43 ∷ 32 ∷ 112 ∷ 91 ∷ 93 ∷ 10 ∷ 43 ∷ 32 ∷ 111 ∷ 91 ∷ 112 ∷ 44 ∷ 112 ∷ 93 ∷ 10 ∷ 43 ∷ 32 ∷ 111 ∷ 91 ∷ 113 ∷ 93 ∷ 10 ∷ 43 ∷ 32 ∷ 111 ∷ 91 ∷ 112 ∷ 93 ∷ 93 ∷ 10 ∷ []) ≡ 112 ∷ 114 ∷ 111 ∷ 112 ∷ 111 ∷ 115 ∷ 101 ∷ 32 ∷ 48 ∷ 32 ∷ 48 ∷ 32 ∷ 49 ∷ 10 ∷ 117 ∷ 110 ∷ 114 ∷ 101 ∷ 97 ∷ 100 ∷ 10 ∷ 117 ∷ 110 ∷ 114 ∷ 101 ∷ 97 ∷ 100 ∷ 10 ∷ 117 ∷ 110 ∷ 114 ∷ 101 ∷ 97 ∷ 100 ∷ 10 ∷ 117 ∷ 110 ∷ 114 ∷ 101 ∷ 97 ∷ 100 ∷ 10 ∷ 117 ∷ 110 ∷ 114 ∷ 101 ∷ 97 ∷ 100 ∷ 10 ∷ []
  -- refusals of calls; where no rule was found, 32 with the place of the symbol
  pub refusals : output_of (111 ∷ 32 ∷ 49 ∷ 32 ∷ 112 ∷ 32 ∷ 48 ∷ 10 ∷ 121 ∷ 10 ∷ 45 ∷ 32 ∷ 111 ∷ 91 ∷ 112 ∷ 93 ∷ 10 ∷ 43 ∷ 32 ∷ 111 ∷ 91 ∷ 112 ∷ 93 ∷ 10 ∷ 111 ∷ 107 ∷ 10 ∷ []) ≡ 112 ∷ 114 ∷ 111 ∷ 112 ∷ 111 ∷ 115 ∷ 101 ∷ 32 ∷ 48 ∷ 32 ∷ 48 ∷ 32 ∷ 49 ∷ 10 ∷ 114 ∷ 101 ∷ 102 ∷ 117 ∷ 115 ∷ 101 ∷ 100 ∷ 32 ∷ 51 ∷ 49 ∷ 10 ∷ 114 ∷ 101 ∷ 102 ∷ 117 ∷ 115 ∷ 101 ∷ 100 ∷ 32 ∷ 51 ∷ 50 ∷ 32 ∷ 48 ∷ 10 ∷ 97 ∷ 115 ∷ 107 ∷ 32 ∷ 112 ∷ 10 ∷ 114 ∷ 101 ∷ 102 ∷ 117 ∷ 115 ∷ 101 ∷ 100 ∷ 32 ∷ 51 ∷ 49 ∷ 10 ∷ []
  -- after the third line of the run - o[o[p]] has no rule at place 1, - p a state that is not final; - o[p] contradicts a yes
  pub fell_off : output_of (111 ∷ 32 ∷ 49 ∷ 32 ∷ 112 ∷ 32 ∷ 48 ∷ 10 ∷ 43 ∷ 32 ∷ 111 ∷ 91 ∷ 112 ∷ 93 ∷ 10 ∷ 110 ∷ 10 ∷ 45 ∷ 32 ∷ 111 ∷ 91 ∷ 111 ∷ 91 ∷ 112 ∷ 93 ∷ 93 ∷ 10 ∷ 45 ∷ 32 ∷ 112 ∷ 10 ∷ 45 ∷ 32 ∷ 111 ∷ 91 ∷ 112 ∷ 93 ∷ 10 ∷ []) ≡ 112 ∷ 114 ∷ 111 ∷ 112 ∷ 111 ∷ 115 ∷ 101 ∷ 32 ∷ 48 ∷ 32 ∷ 48 ∷ 32 ∷ 49 ∷ 10 ∷ 97 ∷ 115 ∷ 107 ∷ 32 ∷ 112 ∷ 10 ∷ 112 ∷ 114 ∷ 111 ∷ 112 ∷ 111 ∷ 115 ∷ 101 ∷ 32 ∷ 49 ∷ 32 ∷ 49 ∷ 32 ∷ 50 ∷ 10 ∷ 114 ∷ 101 ∷ 102 ∷ 117 ∷ 115 ∷ 101 ∷ 100 ∷ 32 ∷ 51 ∷ 50 ∷ 32 ∷ 49 ∷ 10 ∷ 114 ∷ 101 ∷ 102 ∷ 117 ∷ 115 ∷ 101 ∷ 100 ∷ 32 ∷ 51 ∷ 50 ∷ 10 ∷ 114 ∷ 101 ∷ 102 ∷ 117 ∷ 115 ∷ 101 ∷ 100 ∷ 32 ∷ 51 ∷ 51 ∷ 10 ∷ []

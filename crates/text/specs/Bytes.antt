-- The bytes of the script (§8) by name, and numbers in decimal.
use Rattle.std.specs.Prelude.{Bool, ◌||◌, cond, List, [], ◌∷◌, ◌++◌, ℕ, ◌+◌, ◌-◌, ◌*◌, ◌/◌, ◌%◌, leb}
use Rattle.model.specs.Limits.{most_listed}
use Rattle.model.specs.Base.{is_in}

abbrev pub newline : ℕ
newline = 10

abbrev pub space : ℕ
space = 32

abbrev pub plus : ℕ
plus = 43

abbrev pub comma : ℕ
comma = 44

abbrev pub minus : ℕ
minus = 45

abbrev pub opening : ℕ
opening = 91

abbrev pub closing : ℕ
closing = 93

-- what stands for a symbol without a letter
abbrev pub no_letter : ℕ
no_letter = 63

abbrev pub is_letter : (byte : ℕ) → Bool
is_letter b = is_in 65 90 b || is_in 97 122 b

abbrev pub zero_digit : ℕ
zero_digit = 48

abbrev pub is_digit : (byte : ℕ) → Bool
is_digit b = is_in zero_digit 57 b

-- DECIMAL, without zeros in front: a digit is written where the number reaches its power of ten. Every number told has at most five
abbrev pub digit_at : (n power : ℕ) → List ℕ
digit_at n p = cond (leb p n) ((zero_digit + n / p % 10) ∷ []) []

abbrev pub decimal : ℕ → List ℕ
decimal n = digit_at n 10000 ++ digit_at n 1000 ++ digit_at n 100 ++ digit_at n 10 ++ ((zero_digit + n % 10) ∷ [])

-- the words of the output: accepted, ask, propose, refused, row, unread
abbrev pub accepted_word : List ℕ
accepted_word = 97 ∷ 99 ∷ 99 ∷ 101 ∷ 112 ∷ 116 ∷ 101 ∷ 100 ∷ []

abbrev pub ask_word : List ℕ
ask_word = 97 ∷ 115 ∷ 107 ∷ []

abbrev pub propose_word : List ℕ
propose_word = 112 ∷ 114 ∷ 111 ∷ 112 ∷ 111 ∷ 115 ∷ 101 ∷ []

abbrev pub refused_word : List ℕ
refused_word = 114 ∷ 101 ∷ 102 ∷ 117 ∷ 115 ∷ 101 ∷ 100 ∷ []

abbrev pub row_word : List ℕ
row_word = 114 ∷ 111 ∷ 119 ∷ []

abbrev pub unread_word : List ℕ
unread_word = 117 ∷ 110 ∷ 114 ∷ 101 ∷ 97 ∷ 100 ∷ []

-- the words of the input: y, n, ok
abbrev pub yes_word : List ℕ
yes_word = 121 ∷ []

abbrev pub no_word : List ℕ
no_word = 110 ∷ []

abbrev pub ok_word : List ℕ
ok_word = 111 ∷ 107 ∷ []

-- as many bytes of input count, and a reply never takes more than this room (§8.1, §8.5)
abbrev pub most_input : ℕ
most_input = 65536

abbrev pub reply_room : ℕ
reply_room = 3 * most_listed + 8

-- a record of the most symbols that is written out: three bytes for each letter but the last; and what a question takes of the reply
abbrev pub record_room : ℕ
record_room = 3 * most_listed - 2

abbrev pub question_room : ℕ
question_room = 3 * most_listed + 1

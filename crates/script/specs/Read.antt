-- Reading as it comes (§8.1): what one read leaves, and what has been done at the end of the program.
use Rattle.std.specs.Prelude.{◌≡◌, true, List, ℕ, ◌+◌, ◌≤◌, length, take}
use Rattle.text.specs.Bytes.{most_input}
use Rattle.script.specs.declared.Ran.{Ran}
use Rattle.script.specs.Turns.{AllSaid}

-- ONE READ: so many bytes behind those read before, which stay
pub record ReadAs (input : List ℕ) (read got : ℕ) (input' : List ℕ) : Type 0 where
  pub before : take read input' ≡ take read input
  pub room : length input' ≡ length input
  pub within : read + got ≤ length input

-- THE PROGRAM AT ITS END: what it read is answered, all of it unless a write failed
pub record RanAs (input' words' : List ℕ) (r : Ran) : Type 0 where
  pub within : r.read ≤ most_input
  pub all : r.written ≡ true → AllSaid (take r.read input') words'

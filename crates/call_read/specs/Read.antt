-- What a call reads of tables of a size that fits, in lists that fit.
use Rattle.std.specs.Prelude.{◌≡◌, ◌⊎◌, List, ℕ, ◌*◌, ◌≤◌, Option, Some, None, Result, Ok, Err, true, false}
use Rattle.std.specs.Borrow.{Bor, MutBor}
use Rattle.model.specs.Limits.{row_width}
use Rattle.model.specs.Sound.{is_sound}
use Rattle.model.specs.Entry.{size_fits, lent_fits, tables_of, refused}
use Rattle.model.specs.Refusals.{reason_number}
use Rattle.model.specs.declared.Lists.{Lists}
use Rattle.model.specs.declared.Seen.{Seen}
use Rattle.model.specs.declared.refusal.Refusal.{Refusal}
use Rattle.bank.specs.Bank.{Bank}
use Rattle.run_lists.specs.Members.{counts_in}
use Rattle.sound.specs.Proposal.{Proposal}
use Rattle.call.specs.Calls.{look_told}

-- SOUND TABLES of a size that fits, in lists that fit, an index that finds their rows, and where no question is open the representatives, which give the proposal
pub record Read (words : List ℕ) (l : Lists) (index reps : List ℕ) : Type 0 where
  pub size : size_fits words ≡ true
  pub lent : lent_fits words l ≡ true
  pub sound : is_sound (tables_of words l) ≡ true
  pub bank : Bank words (counts_in l) l.used index
  pub proposed : l.asked ≡ 0 → Proposal words l reps

-- a step may be taken on them, whatever the output
abbrev pub TakesRead : (words : List ℕ) → Lists → (may : Bor (List ℕ) → Bor (List ℕ) → MutBor (List ℕ) → Type 0) → Type 0
TakesRead ws l may = (index : Bor (List ℕ)) (reps : Bor (List ℕ)) (out : MutBor (List ℕ)) → Read ws l index.now reps.now → may index reps out

-- what a step made of an index and representatives of sound tables, and of an output; nothing for unsound tables, and the output as it was
abbrev pub ReadAs : {R : Type 0} → (words : List ℕ) → Lists → (gives : Bor (List ℕ) → Bor (List ℕ) → MutBor (List ℕ) → R → MutBor (List ℕ) → Type 0) →
    (out : List ℕ) → Option R → (after : List ℕ) → Type 0
ReadAs ws l gives o None after = (is_sound (tables_of ws l) ≡ false) × (after ≡ o)
ReadAs ws l gives o (Some r) after =
    (index : Bor (List ℕ)) × (reps : Bor (List ℕ)) × (shown : MutBor (List ℕ)) × (left : MutBor (List ℕ)) ×
    Read ws l index.now reps.now × (shown.now ≡ o) × gives index reps shown r left × (left.now ≡ after)

-- so many words are read by a call that adds no row: those of the used rows, where some are used and they are lent; or all
abbrev pub ReadTo : (used size : ℕ) → (words : ℕ) → Type 0
ReadTo u n m = (m ≡ n) ⊎ ((1 ≤ u) × (m ≡ row_width * u) × (row_width * u ≤ n))

-- what looking tells of lists that nothing refuses, or the number of what refused
abbrev pub looked_seen : {A : Type 0} → Lists → Result A Refusal → Seen
looked_seen l (Ok u) = look_told l
looked_seen l (Err r) = refused (reason_number r)

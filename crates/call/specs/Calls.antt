-- What a call by value returns and leaves: what is told of it, the lists, the words, each as model's Entry has it.
-- It returns the lists that it leaves, or why it is refused; then the lists are those that the caller has.
use Rattle.std.specs.Prelude.{◌≡◌, true, List, [], ℕ, Result, Ok, Err, IfOk}
use Rattle.model.specs.Calls.{Call, look}
use Rattle.model.specs.Entry.{lists_fit, tables_of, seen_of, refused, call_seen, call_lists, call_words, start_seen, start_lists, start_words}
use Rattle.model.specs.Refusals.{reason_number}
use Rattle.model.specs.declared.Lists.{Lists}
use Rattle.model.specs.declared.Seen.{Seen}
use Rattle.model.specs.declared.refusal.Refusal.{Refusal}

-- what looking tells of lists: it reads no word
abbrev pub look_told : Lists → Seen
look_told l = seen_of (look (tables_of [] l))

-- what is told of a call: what looking tells of the lists that it left, or the number of what refused it
abbrev pub done_seen : Result Lists Refusal → Seen
done_seen (Ok left) = look_told left
done_seen (Err e) = refused (reason_number e)

-- and the lists after it: those that it left, or those that the caller has
abbrev pub done_lists : Lists → Result Lists Refusal → Lists
done_lists l (Ok left) = left
done_lists l (Err e) = l

-- the lists left are within their arrays
abbrev pub DoneFit : Result Lists Refusal → Type 0
DoneFit r = IfOk r (λ (l : Lists). lists_fit l ≡ true)

pub record CallAs (ws : List ℕ) (l : Lists) (k : Call) (r : Result Lists Refusal) (after : List ℕ) : Type 0 where
  pub seen : done_seen r ≡ call_seen ws l k
  pub lists : done_lists l r ≡ call_lists ws l k
  pub words : after ≡ call_words ws l k
  pub fit : DoneFit r

pub record StartAs (ws counts : List ℕ) (l : Lists) (r : Result Lists Refusal) (after : List ℕ) : Type 0 where
  pub seen : done_seen r ≡ start_seen ws counts
  pub lists : done_lists l r ≡ start_lists ws counts l
  pub words : after ≡ start_words ws counts
  pub fit : DoneFit r

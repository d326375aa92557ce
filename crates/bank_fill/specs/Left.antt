-- What a step leaves of the lent words: a store's rows with their answers, and behind them the words as they were.
use Rattle.std.specs.Prelude.{◌≡◌, List, ℕ, ◌*◌, length, drop}
use Rattle.model.specs.Limits.{row_width}
use Rattle.model.specs.Store.{Store, used}
use Rattle.model.specs.Entry.{store_of, answers_in}

pub record Left (words counts after : List ℕ) (x : Store) (answers : List ℕ) : Type 0 where
  pub same_size : length after ≡ length words
  pub store : store_of after counts (used x) ≡ x
  pub answered : answers_in (used x) after ≡ answers
  pub behind : drop (row_width * used x) after ≡ drop (row_width * used x) words

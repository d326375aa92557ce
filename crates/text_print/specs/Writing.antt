-- Bytes written from a place on, and a line after bytes were written behind those that it had.
use Rattle.std.specs.Prelude.{◌≡◌, List, ℕ, ◌+◌, ◌≤◌, length}
use Rattle.list.specs.Put.{put_at}
use Rattle.text_print.specs.declared.line.Line.{Line}

-- FROM A PLACE to another, new bytes over old ones
pub record Run (from : ℕ) (new old : List ℕ) (to : ℕ) (after : List ℕ) : Type 0 where
  pub fits : from + length new ≤ length old
  pub end : to ≡ from + length new
  pub bytes : after ≡ put_at from new old

-- the line goes on with new bytes, in the same room
pub record Wrote (new : List ℕ) (before after : Line) : Type 0 where
  pub same_room : after.out.ghost_name ≡ before.out.ghost_name
  pub run : Run before.at new before.out.now after.at after.out.now

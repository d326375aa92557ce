-- The reply to a line: its bytes, the words and the script after it.
use Rattle.std.specs.Prelude.{◌≡◌, List, ℕ, length}
use Rattle.model.specs.Base.{over}
use Rattle.text.specs.Script.{Reply}
use Rattle.text_reply.specs.declared.Replied.{Replied}

pub record ReplyAs (p : Reply) (r : Replied) (words' out out' : List ℕ) : Type 0 where
  pub size : r.size ≡ length p.text
  pub script : r.script ≡ p.script
  pub words : words' ≡ p.words
  pub bytes : out' ≡ over p.text out

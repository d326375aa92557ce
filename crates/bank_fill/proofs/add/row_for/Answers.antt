-- `add::row_for`: it is how putting the row ends.
use Rattle.bank_fill.proofs.Laws.Adding.{put_comes}
use Rattle.bank_fill.proofs.add.row_for.Goals as goal

pub returns : goal.returns
returns c = (put_comes c.requires.0 c.requires.1 c.put.ensures).came

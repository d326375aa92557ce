-- `Stack::root`: one row stands there, the first.
use Rattle.std.proofs.Common.{rules}
use Rattle.bank_listed.proofs.Laws.ArrayStack.{stack_root}
use Rattle.bank_listed.proofs.stack.Stack.root.Goals as goal

pub returns : goal.returns
returns c = let q = c.self.inside in stack_root q.rows q.height c.self.view_is (search rules) c.self.invariant c.requires

-- The lists that a start leaves are within their arrays.
use Rattle.kuldveth.proofs.kuldveth_start.Goals as goal

pub finish-requires : goal.finish-requires
finish-requires c = (c.start-started.ensures c.args.lists.now).fit

-- `text_read::is_balanced` meets its contract: a byte closes a bracket, opens one, or does neither.
use Rattle.std.proofs.Common.{arith}
use Rattle.text_read.proofs.Laws.{balanced_end, balanced_never, balanced_closes, balanced_opens, balanced_stays}
use Rattle.text_read.proofs.is_balanced.Goals.{in-93-2, in-91, in_default}
use Rattle.text_read.proofs.is_balanced.Goals as goal

pub returns-in-93 : goal.returns-in-93
returns-in-93 c =
    let l = c.loop-byte in
    balanced_never l.depth c.args.text.now l.byte-index l.invariant.left (omega arith) (omega arith) (omega arith)

pub loop-byte-preserved : goal.loop-byte-preserved
loop-byte-preserved c =
    let l = c.loop-byte in
    let n = c.match-byte.depth in
    elim c.match-byte.branch [
      | in-93-2 w ↦ record {
        shallow = omega arith;
        left = balanced_closes l.depth c.args.text.now l.byte-index l.invariant.left (omega arith) n w.depth-is (omega arith) (omega arith);
      }
      | in-91 w ↦ record {
        shallow = omega arith;
        left = balanced_opens l.depth c.args.text.now l.byte-index l.invariant.left (omega arith) n w.depth-is (omega arith);
      }
      | in_default w ↦ record {
        shallow = omega arith;
        left = balanced_stays l.depth c.args.text.now l.byte-index l.invariant.left (omega arith) n w.depth-is (omega arith) (omega arith);
      }
    ]

pub returns : goal.returns
returns c = let l = c.loop-byte in balanced_end l.depth c.args.text.now l.byte-index l.invariant.left (omega arith)

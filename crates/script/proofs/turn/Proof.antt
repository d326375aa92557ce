-- `script::turn` meets its contract: the bytes handed over end where the line ends, and the room is enough for any reply.
-- By the contracts of `line_end` and `reply`.
use Prim.Native.Nat.{◌≤◌}
use native.Mathlib.Omega.{arith}
use borrow.Author.Rules.{rules}
use lib.ListN.{length}
use Rattle.script.proofs.Laws.{end_within, reply_at_law}
use Rattle.script.proofs.turn.Statement.{statement}
use Rattle.script.proofs.turn.Tie as tie

line-end-requires : tie.Need-line_end-end-requires
line-end-requires c κs = search rules

sub-reply : tie.Need-slice_bounds-reply-count
sub-reply c = search rules

part-reply-start : tie.Need-slice_bounds-reply-start
part-reply-start c = search rules

-- the line ends within the input
ended : (c : tie.After-line_end-end) → c.line_end-end.result ≤ length c.before.before.before.before.args.input.now
ended c = let s = c.before.before.before.before in omega (arith, end_within s.args.input.now s.args.at (omega arith), c.line_end-end.ensures)

part-reply-end : tie.Need-slice_bounds-reply-end
part-reply-end c = ended c.before

reply-requires : tie.Need-reply-replied-requires
reply-requires c κs = search rules

-- from the end back to where the line's end was found
abbrev found : tie.After-after-1 → tie.After-line_end-end
found c = c.before.before.before.before.before.before.before.before.before

add-t12 : tie.Need-overflow_add-result
add-t12 c = let l = ended (found c) in let g = (found c).before.before.before.before.well_formed in omega arith

same_length : tie.Need-shape_of-words
same_length c = search rules

same-length-2 : tie.Need-shape_of-out
same-length-2 c = search rules

returns : tie.Need-returns
returns c =
    let e = (found c).line_end-end in
    let s = (found c).before.before.before.before in
    let r = c.before.before.before.before.before.reply-replied in
    let a = reply_at_law s.args.words.now s.args.script s.args.input.now s.args.at e.result e.ensures (omega arith) r.ensures in
    record { size = a.size; script = a.script; next = omega (arith, e.ensures); words = a.words; bytes = a.bytes }

pub turn_spec : {M : Type 1} → statement M
turn_spec =
    tie.close
    (tie.spec
    line-end-requires
    sub-reply
    part-reply-start
    part-reply-end
    reply-requires
    add-t12
    same_length
    same-length-2
    returns)

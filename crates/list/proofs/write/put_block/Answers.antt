-- `list::write::put_block` meets its contract: the body behind the head.
use Rattle.std.proofs.Common.{◌∙◌, sym, ap, ◌+◌, ◌++◌, ℕ, length, arith}
use Rattle.model.specs.Listing.{little}
use Rattle.list.proofs.Flat.{length_head}
use Rattle.list.proofs.Put.{put_two}
use Rattle.list.proofs.write.put_block.Goals as goal

pub returns-clause-bytes : goal.returns-clause-bytes
returns-clause-bytes c =
    let a = c.args in
    let l = length_head (length a.body.now) a.kind in
    put_two a.at c.put_head-after.result (little 4 (length a.body.now) ++ little 2 a.kind) a.body.now a.out.now (omega arith)
    (c.put_head-after.ensures.value ∙ ap (λ (n : ℕ). a.at + n) (sym l)) c.put_head-after.ensures.bytes c.put_bytes.ensures.bytes

-- `list::write::put_head` meets its contract: two runs, one behind the other.
use Rattle.std.proofs.Common.{◌∙◌, ap, List, ℕ, arith}
use Rattle.model.specs.Listing.{little}
use Rattle.list.specs.Put.{put_at}
use Rattle.list.proofs.Flat.{four_bytes, two_bytes, length_four}
use Rattle.list.proofs.Put.{put_two}
use Rattle.list.proofs.write.put_head.Goals as goal

pub returns-clause-bytes : goal.returns-clause-bytes
returns-clause-bytes c =
    let a = c.args in
    let l = length_four a.size in
    put_two a.at c.put_bytes-after.result (little 4 a.size) (little 2 a.kind) a.out.now (omega arith) (omega arith)
    (c.put_bytes-after.ensures.bytes ∙ ap (λ (h : List ℕ). put_at a.at h a.out.now) (c.to_le_bytes.ensures ∙ four_bytes a.size))
    (c.put_bytes.ensures.bytes ∙ ap (λ (h : List ℕ). put_at c.put_bytes-after.result h c.put_bytes-after.new.out) (c.to_le_bytes-2.ensures ∙ two_bytes a.kind))

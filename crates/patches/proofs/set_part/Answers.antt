-- Row by row.
use Rattle.std.proofs.Common.{arith}
use Rattle.patches.proofs.PatchLaws.{part_by_value}
use Rattle.patches.proofs.set_part.Goals as goal

pub loop-j-preserved : goal.loop-j-preserved
loop-j-preserved g c = λ f h.
    let p = c.requires.within in
    part_by_value _ _ _ _ _ f _ _ p.start p.columns (omega arith) (c.loop-j.invariant f h)
    (rw c.stride-row.ensures at (c.set_bytes.ensures f h))

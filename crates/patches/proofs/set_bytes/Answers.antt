-- Byte by byte.
use Rattle.std.proofs.Common.{arith}
use Rattle.patches.proofs.PatchLaws.{set_by_value}
use Rattle.patches.proofs.set_bytes.Goals as goal

pub loop-i-preserved : goal.loop-i-preserved
loop-i-preserved g c = λ f h.
    set_by_value _ _ _ f _ _ (omega arith) (omega arith) (h _ _ _ c.becomes.ensures) (c.loop-i.invariant f h)

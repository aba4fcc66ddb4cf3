-- The bytes are lent as a part, and copied there; of none nothing changes, and one is stored.
use Rattle.netpbm.proofs.Written.{copied, nothing_of, one_of}
use Rattle.netpbm.proofs.append.put.Goals as goal

pub returns-then-s-eq0 : goal.returns-then-s-eq0
returns-then-s-eq0 c = nothing_of _ _ _ c.if-s-eq0.true

pub returns-then-s-eq1 : goal.returns-then-s-eq1
returns-then-s-eq1 c = one_of _ _ _ c.if-s-eq1.true c.requires

pub returns : goal.returns
returns c = rw c.copy_from_slice.ensures.after (copied _ _ _ c.requires)

-- The mark, and then the line of sizes.
use Rattle.netpbm.proofs.Written.{then}
use Rattle.netpbm.proofs.file.put_head.Goals as goal

pub returns : goal.returns
returns c = then c.put-line.ensures
    c.put_sizes.ensures

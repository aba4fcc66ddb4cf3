-- `roots::estimate`: what is written last is 2^44.
use Rattle.roots.proofs.Literals.{far}
use Rattle.roots.proofs.Estimated.{near_estimate}
use Rattle.roots.proofs.estimate.Goals as goal

pub returns : goal.returns
returns c m h e =
    rw far (near_estimate m c.args.x c.first-a.result h e c.first-a.ensures)

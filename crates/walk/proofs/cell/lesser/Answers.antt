-- The two cases of the lesser.
use mathlib.Core.Path.{◌∙◌}
use Rattle.walk.proofs.Along.{min_lesser}
use Rattle.walk.proofs.cell.lesser.Goals as goal

pub returns : goal.returns
returns c = c.min.ensures ∙ min_lesser c.args.a c.args.b

-- `roots::first`: the pattern is a float's.
use Rattle.roots.proofs.NoNan.{pattern_some}
use Rattle.roots.proofs.first.Goals as goal

pub float_from_bits-result : goal.float_from_bits-result
float_from_bits-result c = pattern_some _ c.requires.half

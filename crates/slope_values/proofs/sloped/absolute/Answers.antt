-- `sloped::absolute`: the value with its own sign is its size.
use Rattle.std.proofs.Common.{rules}
use Rattle.slope_values.proofs.OneAxis.{own_sign}
use Rattle.slope_values.proofs.sloped.absolute.Goals as goal

pub returns : goal.returns
returns c h = search (rules, own_sign)

-- `roots::root`: the number's float is no NaN, nor is its estimate.
use Rattle.roots.specs.Estimates.{Estimate}
use Rattle.roots.proofs.Floats.{value_some}
use Rattle.roots.proofs.Estimated.{number_halves}
use Rattle.roots.proofs.root.Goals.{After-estimate, Start}
use Rattle.roots.proofs.root.Goals as goal

pub estimate-requires : goal.estimate-requires
estimate-requires c =
    let n = c.number-x.ensures in
    number_halves _ n.part n.bound n.is

near : (c : After-estimate) → Estimate c.number-x.ensures.part c.estimate.result
near c =
    let n = c.number-x.ensures in
    c.estimate.ensures n.part n.bound n.is

pub stepped-requires : goal.stepped-requires
stepped-requires c = value_some _ _ _ (near c).value

-- Field by field.
use Rattle.std.proofs.Common.{w32}
use Rattle.rules.proofs.Words.{back}
use Rattle.promises.specs.Sides.{point_in}
use Rattle.promises.proofs.Probes.{Coordinates, coordinates}
use Rattle.probe.proofs.Probing.{sample_is}
use Rattle.probe.proofs.point.rounded_point.Goals as goal
use Rattle.probe.proofs.point.rounded_point.Goals.{Start}

taken : (c : Start) → Coordinates (point_in c.args.p)
taken c = coordinates (point_in c.args.p) c.requires

pub rounded_down-requires : goal.rounded_down-requires
rounded_down-requires c = (taken (goal.at.rounded_down-requires c).Start).x

pub rounded_down-requires-2 : goal.rounded_down-requires-2
rounded_down-requires-2 c = (taken (goal.at.rounded_down-requires-2 c).Start).y

pub rounded_down-requires-3 : goal.rounded_down-requires-3
rounded_down-requires-3 c = (taken (goal.at.rounded_down-requires-3 c).Start).z

pub returns : goal.returns
returns c =
    let x = c.rounded_down in
    let y = c.rounded_down-2 in
    let z = c.rounded_down-3 in
    sample_is (point_in c.args.p) (back w32 x.result x.type_inv x.ensures)
    (back w32 y.result y.type_inv y.ensures) (back w32 z.result z.type_inv z.ensures)

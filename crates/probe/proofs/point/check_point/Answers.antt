-- All three coordinates, or 20.
use Rattle.std.proofs.Common.{◌≡◌, ◌&&◌}
use Rattle.rules.specs.Probes.{coordinate_ok}
use Rattle.rules.proofs.Words.{both}
use Rattle.probe.proofs.Probing.{point_taken, point_refused}
use Rattle.probe.proofs.point.check_point.Goals as goal
use Rattle.probe.proofs.point.check_point.Goals.{After-coordinate_ok-3}

tested : (c : After-coordinate_ok-3)
    → (let p = c.args.p in
    (c.coordinate_ok.result && (c.coordinate_ok-2.result && c.coordinate_ok-3.result))
    ≡ (coordinate_ok p.x && (coordinate_ok p.y && coordinate_ok p.z)))
tested c =
    both ◌&&◌ c.coordinate_ok.ensures
    (both ◌&&◌ c.coordinate_ok-2.ensures c.coordinate_ok-3.ensures)

pub returns-then-coordinate_ok : goal.returns-then-coordinate_ok
returns-then-coordinate_ok c = point_taken _ (tested (goal.at.returns-then-coordinate_ok c).After-coordinate_ok-3) c.if-coordinate_ok.true

pub returns : goal.returns
returns c = point_refused _ (tested (goal.at.returns c).After-coordinate_ok-3) c.if-coordinate_ok.false

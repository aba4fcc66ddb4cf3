-- Lane by lane, the sample at the lane's index.
use mathlib.Core.Path.{◌≡◌}
use lib.IntN.{pos}
use Prim.Native.Nat.{◌+◌, ◌<◌}
use Rattle.rules.specs.Drawings.{at}
use Rattle.lanes.proofs.LaneLaws.{Below}
use Rattle.axis_lanes.proofs.lane_samples.Given as goal

abbrev pub invariant-loop-k : goal.invariant-loop-k
invariant-loop-k l = Below (pos 0) (λ j v. l.from + j < l.end → v ≡ at l.origin l.step (l.from + j)) l.r l.k

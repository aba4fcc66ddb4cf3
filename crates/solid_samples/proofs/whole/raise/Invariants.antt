-- Lane by lane.
use mathlib.Core.Path.{◌≡◌}
use Prim.Native.Nat.{◌-◌, ◌≤◌}
use lib.ListN.{get_or}
use Rattle.lanes.specs.Lanes.{lane_count, lane}
use Rattle.lanes.proofs.LaneLaws.{Below}
use Rattle.solid_samples.specs.Samples.{with_sample}
use Rattle.solid_samples.proofs.whole.raise.Given as goal

abbrev pub invariant-loop-k : goal.invariant-loop-k
invariant-loop-k l = (l.k ≤ lane_count) × Below 0 (λ j v. v ≡ with_sample (get_or l.before j 0) l.height (lane l.values j)) l.r l.k

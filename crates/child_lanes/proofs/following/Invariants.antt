-- Number by number.
use mathlib.Core.Path.{◌≡◌}
use Prim.Native.Nat.{◌+◌, ◌-◌}
use Rattle.rules.specs.Drawings.{lesser}
use Rattle.lanes.proofs.LaneLaws.{Below}
use Rattle.child_lanes.proofs.following.Given as goal

abbrev pub invariant-loop-k : goal.invariant-loop-k
invariant-loop-k l = Below 0 (λ j v. v ≡ lesser (l.m + j) (l.end - 1)) l.r l.k

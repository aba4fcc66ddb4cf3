-- Row by row.
use mathlib.Core.Path.{◌≡◌}
use mathlib.Core.List.{[]}
use Prim.Native.Nat.{ℕ, ◌≤◌, ◌<◌}
use Rattle.lanes.specs.Lanes.{lane_count, lane}
use Rattle.lanes.proofs.LaneLaws.{Below}
use Rattle.flat_samples.proofs.samples.splats.Given as goal

abbrev pub invariant-loop-c : goal.invariant-loop-c
invariant-loop-c l = (l.c ≤ lane_count) × Below [] (λ j row. (k : ℕ) → k < lane_count → lane row k ≡ lane l.vs j) l.r l.c

-- The regions of side 16 of the tile: those that are not hidden are run eight at a time.
use mathlib.Core.Path.{◌≡◌}
use mathlib.Core.Bool.{true}
use Prim.Native.Nat.{◌-◌}
use lib.ListN.{length}
use Rattle.sweep.specs.Chunks.{block_rows}
use Rattle.walk.proofs.ChildLoop.{AtChild}
use Rattle.child_lanes.specs.ChildLanes.{RanBy}
use Rattle.solid_blocks.specs.Sides.{below16}
use Rattle.solid_blocks.proofs.sixteens.sixteens.Given as goal

abbrev pub invariant-loop-m : goal.invariant-loop-m
invariant-loop-m l = AtChild true 16 4161 l.code l.grid below16 l.parent l.initial.picture l.picture l.count l.m
    × (length l.work ≡ length l.initial.work)
    × (length l.second ≡ length l.initial.second)
    × (length l.third ≡ length l.initial.third)
    × (length l.slots ≡ block_rows)
    × (length l.choices ≡ length l.initial.choices)
    × (length l.below ≡ length l.initial.below)
    × RanBy true l.code l.grid l.parent 16 l.batch.numbers l.ends l.choices l.batch.result

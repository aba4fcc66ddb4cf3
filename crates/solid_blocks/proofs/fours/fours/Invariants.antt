-- The regions of side 4 of a region of side 16, by runs of eight that are not hidden.
use mathlib.Core.Path.{◌≡◌}
use mathlib.Core.Bool.{true}
use Prim.Native.Nat.{◌-◌}
use lib.ListN.{length}
use Rattle.sweep.specs.Chunks.{block_rows}
use Rattle.walk.proofs.ChildLoop.{AtChild}
use Rattle.child_lanes.specs.ChildLanes.{RanBy}
use Rattle.solid_blocks.specs.Sides.{below4}
use Rattle.solid_blocks.proofs.fours.fours.Given as goal

abbrev pub invariant-loop-m : goal.invariant-loop-m
invariant-loop-m l = AtChild true 4 65 l.code l.grid below4 l.parent l.initial.picture l.picture l.count l.m
    × (length l.work ≡ length l.initial.work)
    × (length l.third ≡ length l.initial.third)
    × (length l.slots ≡ block_rows)
    × (length l.choices ≡ length l.initial.choices)
    × RanBy true l.code l.grid l.parent 4 l.batch.numbers l.ends l.choices l.batch.result

-- The tiles of a rectangle, eight in a run.
use mathlib.Core.Path.{◌≡◌}
use mathlib.Core.Bool.{false}
use Prim.Native.Nat.{◌%◌}
use lib.ListN.{length, drop}
use Rattle.sweep.specs.Chunks.{block_rows}
use Rattle.range_sweep.specs.Boxes.{LentEnds}
use Rattle.rules.specs.Drawings.{flat_bound}
use Rattle.walk.specs.Children.{children_in}
use Rattle.walk.proofs.ChildLoop.{AtChild}
use Rattle.walk.proofs.Clear.{Clear}
use Rattle.child_lanes.specs.ChildLanes.{Ran}
use Rattle.flat_eights.specs.Sides.{below64}
use Rattle.flat_tiles.specs.Rects.{TilesApart}
use Rattle.flat_tiles.proofs.tiles.tiles.Given as goal

abbrev pub invariant-loop-m : goal.invariant-loop-m
invariant-loop-m l = AtChild false 64 flat_bound l.whole l.grid below64 l.parent l.initial.picture l.picture l.count l.m
    × (length l.work ≡ length l.initial.work)
    × (length l.first ≡ length l.initial.first)
    × (length l.second ≡ length l.initial.second)
    × (length l.slots ≡ block_rows)
    × Clear l.grid.width (drop l.m (children_in l.parent 64)) l.picture
    × TilesApart l.grid l.parent l.initial.picture l.picture
    × (length l.choices ≡ length l.initial.choices)
    × (length l.own ≡ length l.initial.own)
    × LentEnds l.ends
    × ((l.m % 8 ≡ 0 → ⊥) → Ran l.whole l.grid l.parent 64 l.m l.ends l.own l.result)

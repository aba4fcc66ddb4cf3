-- The regions of side 8 of a tile, eight in a run.
use mathlib.Core.Path.{◌≡◌}
use mathlib.Core.Bool.{false}
use Prim.Native.Nat.{◌+◌, ◌%◌}
use lib.ListN.{length, drop}
use Rattle.sweep.specs.Chunks.{block_rows}
use Rattle.range_sweep.specs.Boxes.{LentEnds}
use Rattle.picture.specs.Parts.{Apart}
use Rattle.walk.specs.Children.{children_in}
use Rattle.walk.proofs.ChildLoop.{AtChild}
use Rattle.walk.proofs.Clear.{Clear}
use Rattle.child_lanes.specs.ChildLanes.{Ran}
use Rattle.flat_eights.specs.Sides.{below8}
use Rattle.flat_eights.proofs.eights.eights_by.Given as goal

abbrev pub invariant-loop-m : goal.invariant-loop-m
invariant-loop-m l = AtChild false 8 65 l.code l.grid below8 l.parent l.initial.picture l.picture l.count l.m
    × (length l.work ≡ length l.initial.work)
    × (length l.second ≡ length l.initial.second)
    × (length l.slots ≡ block_rows)
    × Clear l.grid.width (drop l.m (children_in l.parent 8)) l.picture
    × Apart l.grid.width l.parent.x (l.parent.x + 64) l.parent.y (l.parent.y + 64) l.initial.picture l.picture
    × LentEnds l.ends
    × (length l.choices ≡ length l.initial.choices)
    × ((l.m % 8 ≡ 0 → ⊥) → Ran l.code l.grid l.parent 8 l.m l.ends l.choices l.result)

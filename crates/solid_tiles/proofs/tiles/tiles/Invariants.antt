-- The tiles of a cell.
use mathlib.Core.Path.{◌≡◌}
use mathlib.Core.Bool.{true}
use Prim.Native.Nat.{◌-◌}
use lib.ListN.{length}
use Rattle.rules.specs.Drawings.{solid_bound}
use Rattle.walk.proofs.ChildLoop.{AtChild}
use Rattle.solid_blocks.specs.Sides.{below64}
use Rattle.solid_tiles.proofs.tiles.tiles.Given as goal

abbrev pub invariant-loop-m : goal.invariant-loop-m
invariant-loop-m l = AtChild true 64 solid_bound l.whole l.grid below64 l.parent l.initial.picture l.picture l.count l.m
    × (length l.work ≡ length l.initial.work)
    × (length l.first ≡ length l.initial.first)
    × (length l.second ≡ length l.initial.second)
    × (length l.third ≡ length l.initial.third)
    × (length l.choices ≡ length l.initial.choices)
    × (length l.below ≡ length l.initial.below)

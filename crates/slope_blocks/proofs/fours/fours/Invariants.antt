-- The blocks of side 4 of a block.
use mathlib.Core.Path.{◌≡◌}
use Prim.Native.Nat.{◌-◌}
use lib.ListN.{length, drop}
use Rattle.walk.specs.Children.{children_in}
use Rattle.slope_blocks.specs.Blocks.{cell_of}
use Rattle.slope_blocks.proofs.BlockLoop.{AtBlock}
use Rattle.slope_blocks.proofs.fours.fours.Given as goal

abbrev pub invariant-loop-m : goal.invariant-loop-m
invariant-loop-m l = AtBlock l.code l.grid l.picture l.window l.block (drop l.m (children_in (cell_of 16 l.block) 4)) l.initial.slopes l.slopes
    × (length l.work ≡ length l.initial.work)
    × (length l.second ≡ length l.initial.second)

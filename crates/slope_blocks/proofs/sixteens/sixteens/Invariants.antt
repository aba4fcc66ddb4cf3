-- The blocks of side 16 of the picture.
use mathlib.Core.Path.{◌≡◌}
use Prim.Native.Nat.{◌-◌}
use lib.ListN.{length, drop}
use Rattle.walk.specs.Children.{children_in}
use Rattle.slope_pixels.specs.Shades.{all_of}
use Rattle.slope_blocks.specs.Blocks.{cell_of}
use Rattle.slope_blocks.proofs.BlockLoop.{AtBlock}
use Rattle.slope_blocks.proofs.sixteens.sixteens.Given as goal

abbrev pub invariant-loop-m : goal.invariant-loop-m
invariant-loop-m l = AtBlock l.whole l.grid l.picture (all_of l.grid) l.block (drop l.m (children_in (cell_of 512 l.block) 16)) l.initial.slopes l.slopes
    × (length l.work ≡ length l.initial.work)
    × (length l.first ≡ length l.initial.first)
    × (length l.second ≡ length l.initial.second)

-- The tiles of the picture, by their number.
use mathlib.Core.Path.{◌≡◌}
use lib.ListN.{length, drop}
use Rattle.walk.specs.Cells.{region_in}
use Rattle.walk.specs.Children.{children_in}
use Rattle.swept_pixels.proofs.PutLaws.{AtPart}
use Rattle.swept_tiles.specs.Looks.{AllAgree}
use Rattle.swept_tiles.proofs.tiles.sweep.Given as goal

abbrev pub invariant-loop-m : goal.invariant-loop-m
invariant-loop-m l = AtPart (AllAgree l.whole l.path l.grid (region_in l.parent)) l.grid (region_in l.parent) (drop l.m (children_in l.parent 64)) l.initial.picture
    l.picture
    × (length l.outer ≡ length l.initial.outer)
    × (length l.inner ≡ length l.initial.inner)
    × (length l.work ≡ length l.initial.work)
    × (length l.first ≡ length l.initial.first)
    × (length l.second ≡ length l.initial.second)

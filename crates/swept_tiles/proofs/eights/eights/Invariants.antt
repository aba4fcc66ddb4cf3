-- The regions of side 8 in the tile, by their number.
use mathlib.Core.Path.{◌≡◌}
use lib.ListN.{length, drop}
use Rattle.walk.specs.Cells.{region_in}
use Rattle.walk.specs.Children.{children_in}
use Rattle.swept_pixels.specs.Searches.{Agrees}
use Rattle.swept_pixels.proofs.PutLaws.{AtPart}
use Rattle.swept_tiles.proofs.eights.eights.Given as goal

abbrev pub invariant-loop-m : goal.invariant-loop-m
invariant-loop-m l = AtPart (Agrees l.code l.path l.grid l.from (region_in l.tile)) l.grid (region_in l.tile) (drop l.m (children_in l.tile 8)) l.initial.picture l.picture
    × (length l.kept ≡ length l.initial.kept)
    × (length l.work ≡ length l.initial.work)
    × (length l.second ≡ length l.initial.second)

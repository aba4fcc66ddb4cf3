-- The pixels of the region, by their number.
use lib.ListN.{drop}
use Rattle.code.specs.Runs.{Lent}
use Rattle.walk.specs.Cells.{region_in}
use Rattle.walk.specs.Children.{children_in}
use Rattle.swept_pixels.specs.Searches.{Agrees}
use Rattle.swept_pixels.proofs.PutLaws.{AtPart}
use Rattle.swept_pixels.proofs.pixels.sweep_pixels.Given as goal

abbrev pub invariant-loop-m : goal.invariant-loop-m
invariant-loop-m l = AtPart (Agrees l.code l.path l.grid l.list (region_in l.cell)) l.grid (region_in l.cell) (drop l.m (children_in l.cell 1)) l.initial.picture l.picture
    × Lent l.slots

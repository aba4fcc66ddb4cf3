-- The pixels of the region, by their number.
use lib.ListN.{drop}
use Rattle.walk.specs.Cells.{region_in}
use Rattle.walk.specs.Children.{children_in}
use Rattle.swept_pixels.specs.Puts.{Constantly}
use Rattle.swept_pixels.proofs.PutLaws.{AtPart}
use Rattle.swept_pixels.proofs.put.fill.Given as goal

abbrev pub invariant-loop-m : goal.invariant-loop-m
invariant-loop-m l = AtPart (Constantly l.v l.grid (region_in l.cell)) l.grid (region_in l.cell) (drop l.m (children_in l.cell 1)) l.initial.picture l.picture

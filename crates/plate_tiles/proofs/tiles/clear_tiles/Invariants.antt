-- Tile by tile.
use Rattle.patches.specs.Patches.{nothing}
use Rattle.plate_tiles.specs.Tiles.{Marked, TilesSet}
use Rattle.plate_tiles.proofs.tiles.clear_tiles.Given as goal

abbrev pub invariant-loop-m : goal.invariant-loop-m
invariant-loop-m l = TilesSet l.grid (Marked l.marks l.m) nothing l.initial.picture l.picture

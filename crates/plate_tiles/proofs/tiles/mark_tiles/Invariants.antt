-- Tile by tile.
use Rattle.plate_tiles.specs.Tiles.{MarkedBy}
use Rattle.plate_tiles.proofs.tiles.mark_tiles.Given as goal

abbrev pub invariant-loop-m : goal.invariant-loop-m
invariant-loop-m l = MarkedBy l.code l.grid l.m l.marks

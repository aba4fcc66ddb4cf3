-- Tile by tile.
use Rattle.std.proofs.Common.{◌≡◌, arith}
use Rattle.plate_tiles.specs.Tiles.{tile_count}
use Rattle.plate_tiles.proofs.TileNumbers.{few_tiles}
use Rattle.plate_tiles.proofs.TileSets.{none_marked, next_marked}
use Rattle.plate_tiles.proofs.tiles.mark_tiles.Goals as goal

pub loop-m-init : goal.loop-m-init
loop-m-init c = none_marked _ _ _

pub touches-requires : goal.touches-requires
touches-requires c =
    record {
      sound = c.requires.sound;
      sized = c.requires.sized;
      ok = c.tile.ensures.cell.ok;
      room = omega (arith, c.requires.room);
    }

pub bounds-marks-m : goal.bounds-marks-m
bounds-marks-m c = omega (arith, few_tiles c.requires.sized, c.requires.size)

pub loop-m-preserved : goal.loop-m-preserved
loop-m-preserved c =
    next_marked c.loop-m.invariant (omega (arith, few_tiles c.requires.sized, c.requires.size)) c.tile.ensures
    c.touches.result c.touches.ensures

pub returns : goal.returns
returns c =
    let e : c.loop-m.m ≡ tile_count c.args.grid = omega arith in
    rw e at c.loop-m.invariant

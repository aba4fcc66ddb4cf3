-- Tile by tile.
use Rattle.std.proofs.Common.{◌≡◌, arith}
use Rattle.patches.specs.Patches.{nothing}
use Rattle.walk.proofs.Places.{ready_again}
use Rattle.plate_tiles.specs.Tiles.{tile_count, Sized}
use Rattle.plate_tiles.proofs.TileNumbers.{few_tiles}
use Rattle.plate_tiles.proofs.TileSets.{none_set, next_clear}
use Rattle.plate_tiles.proofs.tiles.clear_tiles.Goals as goal

pub loop-m-init : goal.loop-m-init
loop-m-init c = none_set _ _ nothing _

pub bounds-marks-m : goal.bounds-marks-m
bounds-marks-m c =
    let s : Sized c.args.grid = record { fault = c.requires.ready.fault } in
    omega (arith, few_tiles s, c.requires.marks_len)

pub clear_turn-requires : goal.clear_turn-requires
clear_turn-requires c =
    let p = c.requires.ready in
    record {
      ready = ready_again p c.loop-m.auto.picture;
      for_tile = record { sized = record { fault = p.fault }; more = omega arith };
    }

pub loop-m-preserved : goal.loop-m-preserved
loop-m-preserved c = next_clear nothing c.loop-m.invariant c.clear_turn.ensures

pub returns : goal.returns
returns c =
    let e : c.loop-m.m ≡ tile_count c.args.grid = omega arith in
    rw e at c.loop-m.invariant

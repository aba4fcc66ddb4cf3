-- Tile by tile; the blank picture is blank again behind each.
use Rattle.std.proofs.Common.{◌≡◌, arith}
use Rattle.code.specs.Words.{tape_in}
use Rattle.flat_tiles.proofs.WalkLaws.{lent_again}
use Rattle.plate_tiles.specs.Tiles.{tile_count, Sized}
use Rattle.plate_tiles.proofs.TileNumbers.{few_tiles}
use Rattle.plate_tiles.proofs.TileSets.{none_set, next_joined}
use Rattle.plate_tiles.proofs.join.join_tiles.Goals as goal

pub loop-m-init : goal.loop-m-init
loop-m-init c =
    record { blank_again = c.requires.part.clean; joined = λ n a. none_set _ _ _ _ }

pub bounds-marks-m : goal.bounds-marks-m
bounds-marks-m c =
    let s : Sized c.args.grid = record { fault = c.requires.part.lent.ready.fault } in
    omega (arith, few_tiles s, c.requires.size)

pub join_turn-requires : goal.join_turn-requires
join_turn-requires c =
    let kept = c.loop-m.auto in
    record {
      part = record {
        lent = lent_again c.requires.part.lent kept.picture kept.work kept.first kept.second;
        clean = c.loop-m.invariant.blank_again;
      };
      tile = record { sized = record { fault = c.requires.part.lent.ready.fault }; more = omega arith };
    }

pub loop-m-preserved : goal.loop-m-preserved
loop-m-preserved c =
    record {
      blank_again = c.join_turn.ensures.blank_after;
      joined = λ n a.
          next_joined (tape_in n c.args.code.now) _ c.loop-m.picture (c.loop-m.invariant.joined n a)
          (c.join_turn.ensures.by_index n a);
    }

pub returns : goal.returns
returns c =
    let e : c.loop-m.m ≡ tile_count c.args.grid = omega arith in
    record {
      by_index = λ n a. rw e at (c.loop-m.invariant.joined n a);
      blank_after = c.loop-m.invariant.blank_again;
    }

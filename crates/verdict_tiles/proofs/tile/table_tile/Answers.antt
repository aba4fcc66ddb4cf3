-- Met, and then known.
use mathlib.Core.Path.{refl}
use Prim.Native.Nat.{◌<◌}
use native.Mathlib.Omega.{arith}
use Rattle.flat_tiles.proofs.WalkLaws.{lent_again}
use Rattle.plate_tiles.proofs.TileNumbers.{few_tiles}
use Rattle.table_rules.specs.Tables.{tile_limit}
use Rattle.verdict_tiles.proofs.SharedLaws.{met_passes, met_verdict, met_bound, tile_shared_lem}
use Rattle.verdict_tiles.proofs.tile.table_tile.Goals.{After-meet-own}
use Rattle.verdict_tiles.proofs.tile.table_tile.Goals as goal

few : (c : After-meet-own) → c.args.number < tile_limit
few c = let t = c.requires.tile in omega (arith, t.more, few_tiles t.sized)

pub known_tile-inside-requires : goal.known_tile-inside-requires
known_tile-inside-requires c =
    let few : c.args.number < tile_limit = let t = c.requires.tile in omega (arith, t.more, few_tiles t.sized) in
    record {
      asked = record {
        lent = lent_again c.requires.lent refl c.meet-own.auto.work c.meet-own.auto.next refl;
        tile = c.requires.tile;
        passes = met_passes few c.meet-own.ensures c.requires.passes;
        blank = c.requires.blank;
        size = c.requires.size;
        rows = c.requires.rows;
      };
      known = met_verdict few c.meet-own.ensures c.requires.passes;
    }

pub overflow_add-result : goal.overflow_add-result
overflow_add-result c =
    let few : c.args.number < tile_limit = let t = c.requires.tile in omega (arith, t.more, few_tiles t.sized) in
    omega (
      arith,
      met_bound few c.meet-own.ensures,
      c.known_tile-inside.ensures.known_drawn.bound,
      c.requires.lent.level.kept.kept.within,
    )

pub returns : goal.returns
returns c =
    let few : c.args.number < tile_limit = let t = c.requires.tile in omega (arith, t.more, few_tiles t.sized) in
    record {
      tile_shared = tile_shared_lem few c.meet-own.ensures c.known_tile-inside.ensures.known_drawn;
      slots_len = c.known_tile-inside.ensures.slots_len;
      tile_apart = c.known_tile-inside.ensures.tile_apart;
    }

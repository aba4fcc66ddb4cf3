-- Rows of tiles, each of as many.
use Rattle.std.proofs.Common.{◌+◌, ◌*◌, ◌/◌, arith, ap}
use Rattle.plate_tiles.proofs.TileNumbers.{high, few_tiles}
use Rattle.plate_tiles.proofs.tiles.tile_count.Goals as goal

pub overflow_add-result : goal.overflow_add-result
overflow_add-result c = omega (arith, (high c.requires).most)

pub overflow_mul-result : goal.overflow_mul-result
overflow_mul-result c =
    omega (arith, ap (λ r. (c.args.grid.height + 63) / 64 * r) c.columns.ensures, few_tiles c.requires)

-- Rounded up.
use Rattle.std.proofs.Common.{arith}
use Rattle.plate_tiles.proofs.TileNumbers.{wide}
use Rattle.plate_tiles.proofs.tiles.columns.Goals as goal

pub overflow_add-result : goal.overflow_add-result
overflow_add-result c = omega (arith, (wide c.requires).most)

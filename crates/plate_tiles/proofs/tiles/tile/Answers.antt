-- The cell where the tile of that number begins.
use Rattle.plate_tiles.proofs.TileNumbers.{for_cell}
use Rattle.plate_tiles.proofs.tiles.tile.Goals as goal

pub cell_at-requires : goal.cell_at-requires
cell_at-requires c =
    rw c.columns-row.ensures (for_cell c.requires.sized c.args.m c.requires.more)

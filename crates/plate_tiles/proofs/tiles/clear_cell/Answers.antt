-- The part of the cell cleared.
use Rattle.plate_tiles.proofs.TileNumbers.{to_patch}
use Rattle.plate_tiles.proofs.tiles.clear_cell.Goals as goal

pub part_of-requires : goal.part_of-requires
part_of-requires c = (to_patch c.requires).1

pub clear_part-requires : goal.clear_part-requires
clear_part-requires c = rw (c.part_of.ensures.x, c.part_of.ensures.xend, c.part_of.ensures.yend) (to_patch c.requires).0

pub returns : goal.returns
returns c =
    let e = c.part_of.ensures in
    rw (e.x, e.xend, e.y, e.yend) at c.clear_part.ensures

-- The part of the cell joined.
use Rattle.plate_tiles.proofs.TileNumbers.{to_patch}
use Rattle.plate_tiles.proofs.tiles.join_cell.Goals as goal

pub part_of-requires : goal.part_of-requires
part_of-requires c = (to_patch c.requires.for_patch).1

pub join_part-requires : goal.join_part-requires
join_part-requires c =
    record {
      within = rw (c.part_of.ensures.x, c.part_of.ensures.xend, c.part_of.ensures.yend) (to_patch c.requires.for_patch).0;
      other_len = c.requires.other_len;
    }

pub returns : goal.returns
returns c =
    let e = c.part_of.ensures in
    rw (e.x, e.xend, e.y, e.yend) at c.join_part.ensures

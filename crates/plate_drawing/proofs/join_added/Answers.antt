-- The part's tiles, or nothing.
use Rattle.code.specs.Words.{tape_in}
use Rattle.plate_drawing.proofs.JoinedParts.{joins_part, added_none, added_some}
use Rattle.plate_drawing.proofs.join_added.Goals as goal

pub returns-in-Added-clause-by_index : goal.returns-in-Added-clause-by_index
returns-in-Added-clause-by_index c n a =
    added_some c.args.change (tape_in n c.args.code.now) c.args.grid c.args.marks.now c.in-Added.is
    (joins_part {grid = c.args.grid} (record { fault = c.requires.part.lent.ready.fault }) c.args.marks.now
    (tape_in n c.args.code.now) c.args.picture.now (c.join_tiles.ensures.by_index n a))

pub returns-in-Removed-clause-by_index : goal.returns-in-Removed-clause-by_index
returns-in-Removed-clause-by_index c n a =
    added_none c.args.change (tape_in n c.args.code.now) c.args.grid c.args.marks.now c.args.picture.now c.in-Removed.is

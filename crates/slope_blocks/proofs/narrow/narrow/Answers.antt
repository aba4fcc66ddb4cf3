-- The cut over the block's box.
use Rattle.slope_blocks.proofs.NarrowLaws.{narrowed}
use Rattle.slope_blocks.proofs.narrow.narrow.Goals as goal

pub cut_over-requires : goal.cut_over-requires
cut_over-requires c =
    let p = c.requires in
    record { level = p.level; box = c.bounds.ensures.ok; marks = p.marks; words = p.words }

pub returns : goal.returns
returns c =
    let p = c.requires in
    let q = p.bounds in
    narrowed _ _ _ q.fault q.block q.layers p.level c.bounds.ensures c.cut_over.ensures

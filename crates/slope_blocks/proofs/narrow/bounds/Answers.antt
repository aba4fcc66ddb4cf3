-- Each axis from its first to its last sample in the block.
use Rattle.picture.proofs.GridWords.{InWords}
use Rattle.walk.proofs.CellLaws.{span_words, span_read}
use Rattle.slope_blocks.proofs.NarrowLaws.{block_x, block_y, block_z, block_box}
use borrow.Author.Rules.{rules}
use Rattle.slope_blocks.proofs.narrow.bounds.Goals as goal
use Rattle.slope_blocks.proofs.narrow.bounds.Goals.{Start}

-- The grid's numbers as words, and the places: after the first axis and after the second.
told : (c : Start) → InWords c.args.grid
told c = search rules

pub span-requires : goal.span-requires
span-requires c =
    let f = told (goal.at.span-requires c).Start in
    let p = c.requires in
    span_words f.xorigin f.xstep (block_x _ _ _ p.fault p.block p.layers)

pub span-requires-2 : goal.span-requires-2
span-requires-2 c =
    let f = told (goal.at.span-requires-2 c).Start in
    let p = c.requires in
    span_words f.yorigin f.ystep (block_y _ _ _ p.fault p.block p.layers)

pub span-requires-3 : goal.span-requires-3
span-requires-3 c =
    let f = told (goal.at.span-requires-3 c).Start in
    let p = c.requires in
    span_words f.zorigin f.zstep (block_z _ _ _ p.fault p.block p.layers)

pub returns : goal.returns
returns c =
    let f = told (goal.at.returns c).Start in
    let p = c.requires in
    block_box _ _ _ p.fault p.block p.layers
    (span_read f.xorigin f.xstep _ _ c.span.ensures)
    (span_read f.yorigin f.ystep _ _ c.span-2.ensures)
    (span_read f.zorigin f.zstep _ _ c.span-3.ensures)

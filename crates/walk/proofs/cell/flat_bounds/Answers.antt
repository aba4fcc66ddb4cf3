-- Columns and rows from their first to their last sample in the cell, and the grid's one z.
use mathlib.Core.Bool.{false}
use mir.Facts.{to_z-of_z}
use Rattle.rules.specs.Values.{range}
use Rattle.rules.proofs.Words.{both}
use Rattle.picture.proofs.GridWords.{InWords, in_words}
use Rattle.walk.proofs.CellLaws.{for_bounds, flat_box}
use Rattle.walk.proofs.cell.flat_bounds.Goals as goal

pub bounds-requires : goal.bounds-requires
bounds-requires c = for_bounds false _ _ c.requires.ok c.requires.fault

pub returns : goal.returns
returns c =
    let f : InWords c.args.grid = in_words c.struct_told-1.given in
    let p = c.requires in
    let z = to_z-of_z f.zorigin in
    flat_box _ _ p.ok p.fault c.bounds.ensures (both range z z)

-- Each axis from its first to its last sample in the cell.
use mathlib.Core.Bool.{true}
use Rattle.picture.proofs.GridWords.{InWords, in_words}
use Rattle.walk.proofs.CellLaws.{for_bounds, z_span, span_words, span_read, solid_box}
use Rattle.walk.proofs.cell.solid_bounds.Goals as goal

-- The grid's numbers as words.
pub span-zs-requires : goal.span-zs-requires
span-zs-requires c =
    let f : InWords c.args.grid = in_words c.struct_told-1.given in
    let p = c.requires in
    span_words f.zorigin f.zstep (z_span _ _ p.ok p.fault)

pub bounds-requires : goal.bounds-requires
bounds-requires c = for_bounds true _ _ c.requires.ok c.requires.fault

pub returns : goal.returns
returns c =
    let f : InWords c.args.grid = in_words c.struct_told-1.given in
    let p = c.requires in
    solid_box _ _ p.ok p.fault c.bounds.ensures (span_read f.zorigin f.zstep _ _ c.span-zs.ensures)

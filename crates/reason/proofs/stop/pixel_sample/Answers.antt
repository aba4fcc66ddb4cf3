-- The grid's samples on two axes, and its z.
use mathlib.Core.Path.{◌∙◌}
use mir.Syntax.{w32}
use mir.Facts.{to_z-of_z}
use Rattle.rules.proofs.Words.{back}
use Rattle.picture.proofs.GridWords.{InWords, at_read}
use Rattle.reason.proofs.Pixels.{column_value, row_value_lem, sample_is}
use borrow.Author.Rules.{rules}
use Rattle.reason.proofs.stop.pixel_sample.Goals as goal
use Rattle.reason.proofs.stop.pixel_sample.Goals.{Start}

-- The grid's numbers lie in their words.
told : (c : Start) → InWords c.args.grid
told c = search rules

pub sample-requires : goal.sample-requires
sample-requires c =
    let t = told (goal.at.sample-requires c).Start in
    rw (at_read _ _ _ t.xorigin t.xstep) (column_value c.requires)

pub sample-requires-2 : goal.sample-requires-2
sample-requires-2 c =
    let t = told (goal.at.sample-requires-2 c).Start in
    rw (at_read _ _ _ t.yorigin t.ystep) (row_value_lem c.requires)

pub returns : goal.returns
returns c =
    let t = told (goal.at.returns c).Start in
    sample_is c.requires
    (back w32 c.sample.result c.sample.type_inv (c.sample.ensures ∙ at_read _ _ _ t.xorigin t.xstep))
    (back w32 c.sample-2.result c.sample-2.type_inv (c.sample-2.ensures ∙ at_read _ _ _ t.yorigin t.ystep))
    (to_z-of_z t.zorigin)

-- The axes, one after the other.
use mathlib.Core.Path.{◌≡◌, ap, ◌∙◌}
use mathlib.Core.Bool.{true, not}
use borrow.Author.Tests.{not-false}
use Rattle.rules.specs.Values.{reaches}
use Rattle.rules.specs.Drawings.{axis_ok}
use Rattle.rules.proofs.Words.{read_wide}
use Rattle.picture.proofs.Grids.{sizes}
use Rattle.picture.proofs.GridWords.{InWords, in_words, axis_read}
use Rattle.picture.proofs.Answers.{goes_on_lem, passed_by}
use Rattle.picture.proofs.GridTests.{flat_axis, solid_axis}
use Rattle.picture.proofs.grid.axes_ok.Goals as goal

pub returns-then-not-solid : goal.returns-then-not-solid
returns-then-not-solid c =
    let told : InWords c.args.grid = in_words c.struct_told-1.given in
    let x-tested : let g = c.args.grid in c.axis_ok.result ≡ axis_ok g.xorigin g.xstep g.width = let f = told in c.axis_ok.ensures ∙ axis_read _ _ _ f.xorigin f.xstep in
    let x-ok : let g = c.args.grid in axis_ok g.xorigin g.xstep g.width ≡ true = passed_by _ x-tested c.if-not-axis_ok.false in
    let y-tested : let g = c.args.grid in c.axis_ok-2.result ≡ axis_ok g.yorigin g.ystep g.height = let f = told in c.axis_ok-2.ensures ∙ axis_read _ _ _ f.yorigin f.ystep in
    let y-ok : let g = c.args.grid in axis_ok g.yorigin g.ystep g.height ≡ true = passed_by _ y-tested c.if-not-axis_ok-2.false in
    let t = told in
    goes_on_lem x-ok
    (goes_on_lem y-ok
    (flat_axis c.args.solid _ (ap not c.if-not-solid.true)
    (c.is_value.ensures ∙ ap reaches (read_wide t.zorigin))))

pub axis_ok-requires-3 : goal.axis_ok-requires-3
axis_ok-requires-3 c =
    ((sizes c.args.grid c.args.solid c.requires).depth (not-false c.args.solid (ap not c.if-not-solid.false))).least

pub returns : goal.returns
returns c =
    let told : InWords c.args.grid = in_words c.struct_told-1.given in
    let x-tested : let g = c.args.grid in c.axis_ok.result ≡ axis_ok g.xorigin g.xstep g.width = let f = told in c.axis_ok.ensures ∙ axis_read _ _ _ f.xorigin f.xstep in
    let x-ok : let g = c.args.grid in axis_ok g.xorigin g.xstep g.width ≡ true = passed_by _ x-tested c.if-not-axis_ok.false in
    let y-tested : let g = c.args.grid in c.axis_ok-2.result ≡ axis_ok g.yorigin g.ystep g.height = let f = told in c.axis_ok-2.ensures ∙ axis_read _ _ _ f.yorigin f.ystep in
    let y-ok : let g = c.args.grid in axis_ok g.yorigin g.ystep g.height ≡ true = passed_by _ y-tested c.if-not-axis_ok-2.false in
    let t = told in
    let a = c.args in
    goes_on_lem x-ok
    (goes_on_lem y-ok
    (solid_axis a.solid a.grid.zorigin a.grid.zstep a.grid.depth _
    (ap not c.if-not-solid.false)
    (c.axis_ok-3.ensures ∙ axis_read _ _ _ t.zorigin t.zstep)))

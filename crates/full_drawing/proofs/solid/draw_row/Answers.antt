-- A row of heights, put in order.
use borrow.Author.Rules.{rules}
use mathlib.Core.Bool.{true}
use Rattle.picture.specs.Shapes.{grid_in}
use Rattle.full_drawing.proofs.HeightRows.{next_height, heights_put}
use Rattle.full_drawing.proofs.solid.draw_row.Goals as goal

pub loop-i-preserved : goal.loop-i-preserved
loop-i-preserved c =
    let a = c.args in
    next_height a.code.now (grid_in a.grid true) a.j a.from a.picture.now c.loop-i.picture
    c.loop-i.i
    c.loop-i.invariant c.column.result c.column.ensures c.loop-i-test.true (search rules)

pub returns : goal.returns
returns c =
    let a = c.args in
    heights_put a.code.now (grid_in a.grid true) a.j a.from a.picture.now c.loop-i.picture
    c.loop-i.i
    c.loop-i.invariant c.loop-i-test.false

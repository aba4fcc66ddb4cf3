-- Past the last column, past the last row, or in the grid.
use mathlib.Core.Bool.{false}
use Rattle.picture.specs.Shapes.{grid_in}
use Rattle.reason.proofs.Calls.{past_column, past_row, in_grid}
use Rattle.reason.proofs.lines.check_inside.Goals as goal

pub returns-then-x-grid : goal.returns-then-x-grid
returns-then-x-grid c = let a = c.args in past_column (grid_in a.grid false) a.x a.y c.if-x-grid.true

pub returns-then-y-grid : goal.returns-then-y-grid
returns-then-y-grid c =
    let a = c.args in
    past_row (grid_in a.grid false) a.x a.y c.if-x-grid.false c.if-y-grid.true

pub returns : goal.returns
returns c =
    let a = c.args in
    in_grid (grid_in a.grid false) a.x a.y c.if-x-grid.false c.if-y-grid.false

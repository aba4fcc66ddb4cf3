-- The rows of heights, put in order, and the count.
use mathlib.Core.Bool.{true}
use Rattle.picture.specs.Shapes.{grid_in}
use Rattle.full_drawing.proofs.Parts.{Along}
use Rattle.full_drawing.proofs.HeightRows.{rows_left}
use Rattle.full_drawing.proofs.solid.draw_solid.Given as goal

abbrev pub invariant-loop-j : goal.invariant-loop-j
invariant-loop-j l = Along l.code (rows_left l.code (grid_in l.grid true)) l.grid.width l.grid.height 0 l.initial.picture l.picture l.j l.from

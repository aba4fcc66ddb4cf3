-- The height of a column: that of the layers passed, and each turn passes one more.
use mathlib.Core.Bool.{true}
use Rattle.picture.specs.Shapes.{grid_in}
use Rattle.full_drawing.proofs.Columns.{Climbed}
use Rattle.full_drawing.proofs.solid.column.Given as goal

abbrev pub invariant-loop-k : goal.invariant-loop-k
invariant-loop-k l = Climbed l.code (grid_in l.grid true) l.i l.j l.k l.height

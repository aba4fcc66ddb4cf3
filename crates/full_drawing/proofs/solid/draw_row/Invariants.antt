-- A row of heights, put in order.
use mathlib.Core.Bool.{true}
use Prim.Native.Nat.{◌+◌}
use Rattle.picture.specs.Shapes.{grid_in}
use Rattle.full_drawing.proofs.Parts.{Along}
use Rattle.full_drawing.proofs.HeightRows.{heights_left}
use Rattle.full_drawing.proofs.solid.draw_row.Given as goal

abbrev pub invariant-loop-i : goal.invariant-loop-i
invariant-loop-i l = Along l.code (heights_left l.code (grid_in l.grid true) l.j) 1 l.grid.width l.from l.initial.picture l.picture l.i (l.from + l.i)

-- The rows of bytes, put in order, and the count.
use mathlib.Core.Bool.{false}
use Rattle.rules.specs.Pictures.{stride}
use Rattle.picture.specs.Shapes.{grid_in}
use Rattle.full_drawing.proofs.Parts.{Along}
use Rattle.full_drawing.proofs.ByteRows.{packed_left}
use Rattle.full_drawing.proofs.flat.draw_flat.Given as goal

abbrev pub invariant-loop-j : goal.invariant-loop-j
invariant-loop-j l = Along l.code (packed_left l.code (grid_in l.grid false)) (stride l.grid.width) l.grid.height 0 l.initial.picture l.picture l.j l.from

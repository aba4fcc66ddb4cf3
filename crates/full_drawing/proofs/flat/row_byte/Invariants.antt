-- The byte of at most 8 pixels, one pixel a turn.
use mathlib.Core.Bool.{false}
use Rattle.picture.specs.Shapes.{grid_in}
use Rattle.full_drawing.proofs.RowBytes.{Pixels}
use Rattle.full_drawing.proofs.flat.row_byte.Given as goal

abbrev pub invariant-loop-k : goal.invariant-loop-k
invariant-loop-k l = Pixels l.code (grid_in l.grid false) l.i l.j l.count l.byte l.k

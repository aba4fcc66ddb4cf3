-- A row of bytes, put in order.
use mathlib.Core.Bool.{false}
use Prim.Native.Nat.{◌+◌}
use Rattle.rules.specs.Pictures.{stride}
use Rattle.picture.specs.Shapes.{grid_in}
use Rattle.full_drawing.proofs.Parts.{Along}
use Rattle.full_drawing.proofs.ByteRows.{bytes_left}
use Rattle.full_drawing.proofs.flat.draw_row.Given as goal

abbrev pub invariant-loop-c : goal.invariant-loop-c
invariant-loop-c l = Along l.code (bytes_left l.code (grid_in l.grid false) l.j) 1 (stride l.grid.width) l.from l.initial.picture l.picture l.c (l.from + l.c)

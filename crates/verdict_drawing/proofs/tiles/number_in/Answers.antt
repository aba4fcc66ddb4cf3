-- The row and the column of the place.
use native.Mathlib.Omega.{arith}
use Rattle.verdict_drawing.proofs.Numbering.{here, number_here}
use Rattle.verdict_drawing.proofs.tiles.number_in.Goals as goal

pub nonzero_div-row : goal.nonzero_div-row
nonzero_div-row c = (here c.requires).some

pub overflow_add-row : goal.overflow_add-row
overflow_add-row c = omega (arith, (here c.requires).row)

pub nonzero_rem-column : goal.nonzero_rem-column
nonzero_rem-column c = (here c.requires).some

pub overflow_add-column : goal.overflow_add-column
overflow_add-column c = omega (arith, (here c.requires).column)

pub overflow_mul-result : goal.overflow_mul-result
overflow_mul-result c =
    let p = here c.requires in
    rw c.tiles_along.ensures (omega (arith, p.product))

pub overflow_add-result : goal.overflow_add-result
overflow_add-result c =
    let p = here c.requires in
    rw c.tiles_along.ensures (omega (arith, p.product, p.column))

pub returns : goal.returns
returns c = number_here c.requires _ c.tiles_along.ensures

-- The rows of a cell.
use mathlib.Core.Bool.{true}
use native.Mathlib.Omega.{arith}
use Rattle.walk.proofs.CellLaws.{small}
use Rattle.solid_samples.proofs.CellRows.{cell_index, cell_rows, cell_hidden}
use Rattle.solid_samples.proofs.cell.is_hidden.Goals as goal

pub overflow_mul-from : goal.overflow_mul-from
overflow_mul-from c = omega (arith, cell_index _ _ c.requires.cell c.requires.ready.fault)

pub overflow_add-from : goal.overflow_add-from
overflow_add-from c = omega (arith, cell_index _ _ c.requires.cell c.requires.ready.fault)

pub overflow_cast-from : goal.overflow_cast-from
overflow_cast-from c = omega (arith, cell_index _ _ c.requires.cell c.requires.ready.fault)

pub overflow_cast-top : goal.overflow_cast-top
overflow_cast-top c =
    let d = small true _ c.requires.ready.fault in
    let z = c.requires.cell.zs in
    omega arith

pub rows_high-requires : goal.rows_high-requires
rows_high-requires c =
    cell_rows _ _ c.requires.cell _ c.requires.ready

pub returns : goal.returns
returns c =
    cell_hidden _ _ c.requires.cell c.requires.ready.fault _ _ c.rows_high.ensures

-- The rows of a cell.
use mathlib.Core.Bool.{true}
use native.Mathlib.Omega.{arith}
use Rattle.walk.proofs.CellLaws.{small}
use Rattle.solid_samples.proofs.CellRows.{cell_index, cell_rows, cell_fills}
use Rattle.solid_samples.proofs.cell.fill.Goals as goal

pub overflow_mul-from : goal.overflow_mul-from
overflow_mul-from c = omega (arith, cell_index _ _ c.requires.cell c.requires.ready.fault)

pub overflow_add-from : goal.overflow_add-from
overflow_add-from c = omega (arith, cell_index _ _ c.requires.cell c.requires.ready.fault)

pub overflow_cast-from : goal.overflow_cast-from
overflow_cast-from c = omega (arith, cell_index _ _ c.requires.cell c.requires.ready.fault)

pub overflow_cast-c : goal.overflow_cast-c
overflow_cast-c c =
    let d = small true _ c.requires.ready.fault in
    let z = c.requires.cell.zs in
    omega arith

pub raise_rows-requires : goal.raise_rows-requires
raise_rows-requires c =
    cell_rows _ _ c.requires.cell _ c.requires.ready

pub returns : goal.returns
returns c =
    cell_fills _ _ c.requires.cell c.requires.ready.fault _ _ c.raise_rows.ensures

-- Raising rows: raising those that are left, from here, raises them all.
use Rattle.picture.proofs.HeightRows.{RaisesRows}
use Rattle.picture.proofs.heights.raise_rows.Given as goal

abbrev pub invariant-loop-j : goal.invariant-loop-j
invariant-loop-j l = RaisesRows l.rows l.width l.from l.count l.z l.j l.fn.heights l.heights

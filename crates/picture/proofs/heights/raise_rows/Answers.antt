-- Raising rows: raising those that are left, from here, raises them all.
use Rattle.picture.proofs.HeightRows.{raise_rows_next, raise_rows_end}
use Rattle.picture.proofs.heights.raise_rows.Goals as goal

pub loop-j-preserved : goal.loop-j-preserved
loop-j-preserved c =
    rw c.raise_row.ensures (raise_rows_next _ _ _ _ _ _ _ _ c.loop-j-test.true c.loop-j.invariant)

pub returns : goal.returns
returns c = raise_rows_end _ _ _ _ _ _ _ _ c.loop-j-test.false c.loop-j.invariant

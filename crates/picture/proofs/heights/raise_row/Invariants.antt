-- Raising a row: raising what is left of it, from here, raises it all.
use Rattle.std.proofs.Common.{◌+◌, ◌-◌}
use Rattle.picture.proofs.HeightRows.{Raises}
use Rattle.picture.proofs.heights.raise_row.Given as goal

abbrev pub invariant-loop-h : goal.invariant-loop-h
invariant-loop-h l = Raises l.count l.from l.z l.h-index (l.from + l.count - l.from) l.fn.heights l.h-items

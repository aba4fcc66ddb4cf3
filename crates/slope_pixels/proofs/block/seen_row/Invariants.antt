-- One row of heights.
use Rattle.slope_pixels.specs.Shades.{row_of}
use Rattle.slope_pixels.proofs.SeenLaws.{SeenColumns}
use Rattle.slope_pixels.proofs.block.seen_row.Given as goal

abbrev pub invariant-loop-x : goal.invariant-loop-x
invariant-loop-x l = SeenColumns l.grid l.picture (row_of l.fn.block l.fn.y) l.all l.initial.seen l.seen l.x

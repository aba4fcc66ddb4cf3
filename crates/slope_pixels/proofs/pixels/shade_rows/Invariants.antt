-- The rows of a block.
use Rattle.slope_runs.specs.Shapes.{slots_in, Sized}
use Rattle.slope_pixels.proofs.ShadeLaws.{AtRow}
use Rattle.slope_pixels.proofs.pixels.shade_rows.Given as goal

abbrev pub invariant-loop-y : goal.invariant-loop-y
invariant-loop-y l = AtRow l.code l.grid l.picture l.window l.block l.initial.slopes l.slopes l.y × Sized (slots_in l.slots)

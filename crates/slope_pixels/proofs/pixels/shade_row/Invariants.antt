-- One row of pixels.
use Rattle.slope_runs.specs.Shapes.{slots_in, Sized}
use Rattle.slope_pixels.proofs.ShadeLaws.{AtColumn}
use Rattle.slope_pixels.proofs.pixels.shade_row.Given as goal

abbrev pub invariant-loop-x : goal.invariant-loop-x
invariant-loop-x l = AtColumn l.code l.grid l.picture l.window l.row l.initial.slopes l.slopes l.x × Sized (slots_in l.slots)

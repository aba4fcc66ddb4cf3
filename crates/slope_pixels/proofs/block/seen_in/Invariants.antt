-- The rows of a block's heights.
use Rattle.slope_pixels.specs.Shades.{layers_at}
use Rattle.slope_pixels.proofs.SeenLaws.{SeenRows}
use Rattle.slope_pixels.proofs.block.seen_in.Given as goal

abbrev pub invariant-loop-y : goal.invariant-loop-y
invariant-loop-y l = SeenRows l.grid l.picture l.block l.all (layers_at l.all.end l.all.from) l.seen l.y

-- Windows from the greatest height of the block down.
use mathlib.Core.Path.{◌≡◌}
use lib.ListN.{length}
use Rattle.slope_blocks.proofs.WindowLaws.{AtLeft}
use Rattle.slope_blocks.proofs.sixteens.visit_sixteen.Given as goal

abbrev pub invariant-loop-left : goal.invariant-loop-left
invariant-loop-left l = AtLeft l.whole l.grid l.picture l.block l.initial.slopes l.slopes l.left
    × (length l.work ≡ length l.initial.work)
    × (length l.first ≡ length l.initial.first)
    × (length l.second ≡ length l.initial.second)

abbrev pub decreases-loop-left : goal.decreases-loop-left
decreases-loop-left l = l.left.end

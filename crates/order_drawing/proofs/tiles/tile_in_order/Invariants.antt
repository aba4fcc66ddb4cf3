-- All tiles in the order of the list, from heights of 0.
use mathlib.Core.Path.{◌≡◌}
use lib.ListN.{length}
use Rattle.rules.specs.Tapes.{clause_limit}
use Rattle.order_drawing.proofs.OrderWalk.{AtNumber}
use Rattle.order_drawing.proofs.tiles.tile_in_order.Given as goal

abbrev pub invariant-loop-number : goal.invariant-loop-number
invariant-loop-number l = AtNumber l.order l.whole l.grid l.initial.picture l.picture l.count l.number-index
    × (length l.work ≡ length l.initial.work)
    × (length l.first ≡ length l.initial.first)
    × (length l.second ≡ length l.initial.second)
    × (length l.third ≡ length l.initial.third)
    × (length l.choices ≡ clause_limit)
    × (length l.below ≡ clause_limit)

-- Lane by lane, the child's own box.
use lib.ListN.{get_or}
use Rattle.child_lanes.specs.ChildLanes.{box_numbered}
use Rattle.child_lanes.proofs.BoxRows.{Filled}
use Rattle.child_lanes.proofs.child_boxes.Given as goal

abbrev pub invariant-loop-k : goal.invariant-loop-k
invariant-loop-k l = Filled (λ j. box_numbered l.solid l.grid l.parent l.side (get_or l.numbers j 0)) l.xl l.xh l.yl l.yh l.zl l.zh l.k

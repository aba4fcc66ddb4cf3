-- Lane by lane, the child's own box.
use mathlib.Core.Path.{refl, sym, subst}
use native.Mathlib.Omega.{arith}
use Rattle.fixed.specs.Shapes.{box_in}
use Rattle.code.specs.Runs.{BoxOk}
use Rattle.child_lanes.proofs.BoxRows.{none_filled, one_filled, all_filled}
use Rattle.child_lanes.proofs.child_boxes.Goals as goal

pub loop-k-preserved : goal.loop-k-preserved
loop-k-preserved c =
    one_filled _ (box_in c.child_box-b.result) c.loop-k-test.true c.loop-k.invariant c.child_box-b.ensures.same
    c.child_box-b.ensures.ok

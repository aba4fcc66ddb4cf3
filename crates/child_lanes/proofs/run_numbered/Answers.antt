-- Each lane on its child's box.
use Rattle.child_lanes.proofs.RunLaws.{ran_by}
use Rattle.child_lanes.proofs.run_numbered.Goals as goal

pub returns : goal.returns
returns c =
    ran_by c.child_boxes-bounds.ensures c.run_boxes.ensures

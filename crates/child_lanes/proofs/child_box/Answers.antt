-- The box of the child's cell, of the kind that the region is.
use Rattle.child_lanes.proofs.RunLaws.{for_box, child_boxed}
use Rattle.child_lanes.proofs.child_box.Goals as goal

pub solid_bounds-requires : goal.solid_bounds-requires
solid_bounds-requires c =
    for_box c.if-solid.true c.requires.children c.child-c.ensures

pub flat_bounds-requires : goal.flat_bounds-requires
flat_bounds-requires c =
    for_box c.if-solid.false c.requires.children c.child-c.ensures

pub returns-then-solid : goal.returns-then-solid
returns-then-solid c =
    child_boxed c.if-solid.true c.child-c.ensures c.solid_bounds.ensures

pub returns-else-solid : goal.returns-else-solid
returns-else-solid c =
    child_boxed c.if-solid.false c.child-c.ensures c.flat_bounds.ensures

-- The child's place by the digits of its number.
use native.Mathlib.Omega.{arith}
use Rattle.walk.proofs.ChildLaws.{Spot, spot, spot_at, child_of}
use Rattle.walk.proofs.children.child.Goals as goal
use Rattle.walk.proofs.children.child.Goals.{After-over-above}

here : (c : After-over-above)
    → Spot c.args.parent c.args.side c.args.m c.parts-across.result c.parts-rows.result c.parts-layers.result
    c.over-before.result.1 c.over-above.result.1 c.over-above.result.0
here c =
    spot_at
    (spot c.requires.parent c.args.m c.parts-across.ensures c.parts-rows.ensures c.parts-layers.ensures c.requires.more)
    c.over-before.ensures.0 c.over-before.ensures.1 c.over-above.ensures.0 c.over-above.ensures.1

pub overflow_sub-z-2 : goal.overflow_sub-z-2
overflow_sub-z-2 c = let k = here (goal.at.overflow_sub-z-2 c).After-over-above in omega (arith, k.in_layers)

pub returns : goal.returns
returns c =
    child_of c.requires.parent c.args.m _ _ _ (here (goal.at.returns c).After-over-above) c.lesser.ensures
    c.lesser-2.ensures c.lesser-3.ensures

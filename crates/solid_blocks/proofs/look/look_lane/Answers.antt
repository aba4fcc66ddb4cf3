-- Judged by its lane, and settled.
use mathlib.Core.Path.{refl}
use Rattle.solid_blocks.proofs.look.look_lane.Goals as goal

pub returns : goal.returns
returns c =
    let p = c.requires in
    c.settle.ensures.over _ _ _ _ _ _ p.run.of_cell p.seen
    (c.judge_lane-judged.ensures.over p.run.box p.run.before p.run.bounded) refl

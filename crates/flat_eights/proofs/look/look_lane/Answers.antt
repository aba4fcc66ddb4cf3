-- Judged by its lane, and settled.
use mathlib.Core.Path.{refl}
use Rattle.flat_eights.proofs.look.look_lane.Goals as goal

pub returns : goal.returns
returns c =
    let p = c.requires in record {
      looked = c.settle.ensures.settled.over _ _ _ _ _ _ p.run.of_cell (c.judge_lane-judged.ensures.over p.run.box p.run.before p.run.bounded) refl;
      apart = c.settle.ensures.apart;
    }

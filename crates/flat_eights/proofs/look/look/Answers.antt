-- Judged over its box, and settled.
use mathlib.Core.Path.{refl}
use Rattle.flat_eights.proofs.look.look.Goals as goal

pub returns : goal.returns
returns c = record {
  looked = c.settle.ensures.settled.over _ _ _ _ _ _ c.flat_bounds.ensures c.judge-judged.ensures refl;
  apart = c.settle.ensures.apart;
}

-- The demands that are about the definitions alone: tapes and lists tell the same, and the tile drawing is the full
-- one.
use Rattle.rules.specs.Tapes.{BothWays}
use Rattle.rules.specs.Drawings.{Demand3}

pub record Demands : Type 0 where
  pub both : BothWays
  pub third : Demand3

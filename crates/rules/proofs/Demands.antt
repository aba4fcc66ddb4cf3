-- The demands about the definitions, both of them.
use Rattle.rules.specs.Demands.{Demands}
use Rattle.rules.proofs.Bytes.{both_ways}
use Rattle.rules.proofs.Tiles.{demand_3}

pub demands : Demands
demands = record { both = both_ways; third = demand_3 }

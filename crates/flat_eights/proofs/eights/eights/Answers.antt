-- The same, with ends of its own.
use Rattle.child_lanes.proofs.RunLaws.{made_ends}
use Rattle.flat_eights.proofs.eights.eights.Goals as goal

pub eights_by-requires : goal.eights_by-requires
eights_by-requires c = record {
  for_eights = c.requires;
  lent_ends = made_ends;
}

-- The laws of every loop over the lanes.
pub use Rattle.roots.proofs.LaneLoops.{Below, none_below, one_more, all_below_lem}

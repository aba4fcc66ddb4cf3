-- Samples of an axis that one lane each runs on.
use Rattle.std.specs.Prelude.{◌≡◌, List, ℤ, ℕ, ◌+◌, ◌≤◌, ◌<◌}
use Rattle.rules.specs.Drawings.{size_limit, at}
use Rattle.lanes.specs.Lanes.{lane_count, lane}
use Rattle.walk.specs.Cells.{SpanIn}

pub record ForLanes (origin step : ℤ) (from end : ℕ) : Type 0 where
  pub span : SpanIn origin step from end
  pub small : end ≤ size_limit

-- From an index on, as far as they lie before the end.
pub record LaneSamples (origin step : ℤ) (from end : ℕ) (vs : List ℤ) : Type 0 where
  pub here : (k : ℕ) → k < lane_count → from + k < end → lane vs k ≡ at origin step (from + k)

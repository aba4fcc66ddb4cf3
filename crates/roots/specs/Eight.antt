-- Eight values side by side, the lanes: an operation on each lane.
use Rattle.std.specs.Prelude.{◌≡◌, List, ℤ, pos, ℕ, ◌<◌, get_or}

abbrev pub lane_count : ℕ
lane_count = 8

abbrev pub lane : List ℤ → ℕ → ℤ
lane vs k = get_or vs k (pos 0)

-- In each lane, r is op of that lane of a.
pub record One (op : ℤ → ℤ) (a r : List ℤ) : Type 0 where
  pub at : (k : ℕ) → k < lane_count → lane r k ≡ op (lane a k)

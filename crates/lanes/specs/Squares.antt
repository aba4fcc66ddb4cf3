-- The steps to a square, in one lane and in each.
use Rattle.std.specs.Prelude.{◌≡◌, List, ℤ, pos, nat_abs, ℕ, ◌*◌, ◌/◌, ◌%◌, ◌<◌, min, get_or}
use Rattle.lanes.specs.Lanes.{lane_count, lane}

abbrev pub low_square : ℕ → ℕ
low_square n = n * n / 65536 % 2147483648

abbrev pub clipped_square : ℕ → ℕ
clipped_square n = min (n * n / 65536) 2147483647

pub record Sizes (a : List ℤ) (n : List ℕ) : Type 0 where
  pub at : (k : ℕ) → k < lane_count → get_or n k 0 ≡ nat_abs (lane a k)

pub record LowSquares (n : List ℕ) (p : List ℤ) : Type 0 where
  pub at : (k : ℕ) → k < lane_count → lane p k ≡ pos (low_square (get_or n k 0))

pub record Clipped (n : List ℕ) (r : List ℤ) : Type 0 where
  pub at : (k : ℕ) → k < lane_count → lane r k ≡ pos (clipped_square (get_or n k 0))

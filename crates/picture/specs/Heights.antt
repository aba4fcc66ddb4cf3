-- What the contracts on heights ask of a rectangle.
use Rattle.std.specs.Prelude.{ℕ, ◌+◌, ◌*◌, ◌≤◌}
use Rattle.rules.specs.Drawings.{size_limit}

-- `rows` rows of `count` heights, the first from `from` on and each `width` behind the one before, end within `size`
-- heights. The last row begins at from + rows * width - width; the width stands on the other side instead.
pub record RowsFit (rows width from count size : ℕ) : Type 0 where
  pub narrow : width ≤ size_limit
  pub last : from + rows * width + count ≤ size + width

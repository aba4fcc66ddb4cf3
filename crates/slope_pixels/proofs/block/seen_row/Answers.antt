-- One row of heights.
use Prim.Native.Nat.{ℕ, ◌<◌}
use native.Mathlib.Omega.{arith}
use Rattle.slope_pixels.proofs.ShadeLaws.{pixel_in, pixel_most}
use Rattle.slope_pixels.proofs.SeenLaws.{spans_pixel, seen_columns, columns_next, columns_all}
use Rattle.slope_pixels.proofs.block.seen_row.Goals as goal
use Rattle.slope_pixels.proofs.block.seen_row.Goals.{In-loop-x}

-- The pixel of a turn is in the grid.
record Pixel (x y w h : ℕ) : Type 0 where
  x_in : x < w
  y_in : y < h

here : (c : In-loop-x)
    → (let a = c.args in
    Pixel c.loop-x.x a.y a.grid.width a.grid.height)
here c =
    let p = c.requires in
    record { x_in = omega (arith, c.loop-x-test.true, p.block.x_in); y_in = omega (arith, p.to, p.block.y_in) }

pub overflow_mul-at : goal.overflow_mul-at
overflow_mul-at c =
    omega (arith, pixel_most _ _ _ (here (goal.at.overflow_mul-at c).In-loop-x).x_in (here (goal.at.overflow_mul-at c).In-loop-x).y_in c.requires.heights)

pub overflow_add-at : goal.overflow_add-at
overflow_add-at c =
    omega (arith, pixel_most _ _ _ (here (goal.at.overflow_add-at c).In-loop-x).x_in (here (goal.at.overflow_add-at c).In-loop-x).y_in c.requires.heights)

-- A pixel of the grid: the region that holds it, and its sample.
use mathlib.Core.Path.{◌≡◌}
use mathlib.Core.Bool.{false}
use Prim.Native.Nat.{ℕ, ◌*◌, ◌/◌, ◌≤◌}
use native.Mathlib.Nat.{div-mul-le_self}
use native.Mathlib.Omega.{arith}
use lib.IntN.{ℤ}
use Rattle.rules.specs.Values.{IsValue, Sample}
use Rattle.rules.specs.Drawings.{size_limit, at, sample_at}
use Rattle.code.specs.Runs.{SampleOk}
use Rattle.picture.specs.Shapes.{grid_in}
use Rattle.picture.specs.declared.grid.Grid.{Grid}
use Rattle.picture.proofs.Grids.{Accepted, accepted}
use Rattle.walk.specs.Cells.{ForCell}
use Rattle.walk.proofs.CellLaws.{small}
use Rattle.reason.specs.Stops.{Pixel}

module _ {grid : Grid} {i j : ℕ} (p : Pixel grid i j) where
  taken : Accepted grid false
  taken = accepted grid false p.fault

  -- Where the parts of side n begin that hold the pixel's column and row, and the cell from there on.
  pub corner : (n : ℕ) → (i / n * n ≤ size_limit) × (j / n * n ≤ size_limit)
  corner n = (
    omega (arith, div-mul-le_self i n, p.column, taken.sizes.width.most),
    omega (arith, div-mul-le_self j n, p.row, taken.sizes.height.most),
  )

  pub cell_there : (n : ℕ) → 1 ≤ n → n ≤ size_limit → ForCell 1 grid (i / n * n) (j / n * n) 0 n
  cell_there n h k =
      record {
        small = small false grid p.fault;
        place = record {
          x_in = omega (arith, div-mul-le_self i n, p.column);
          y_in = omega (arith, div-mul-le_self j n, p.row);
          z_in = omega arith;
        };
        some = h;
        few = k;
      }

  -- The pixel's sample.
  pub column_value : IsValue (at grid.xorigin grid.xstep i)
  column_value = taken.x_value i p.column

  pub row_value_lem : IsValue (at grid.yorigin grid.ystep j)
  row_value_lem = taken.y_value j p.row

  pub sample_is : {x y z : ℤ} → x ≡ at grid.xorigin grid.xstep i → y ≡ at grid.yorigin grid.ystep j
      → z ≡ grid.zorigin
      → ◌≡◌ {A = Sample} (record { x = x; y = y; z = z }) (sample_at (grid_in grid false) i j 0)
  unfolding sample_at
  sample_is e f g = rw (e, f, g)

  pub sample_taken : {s : Sample} → s ≡ sample_at (grid_in grid false) i j 0 → SampleOk s
  unfolding sample_at
  sample_taken e =
      rw e
      (record { x = column_value; y = row_value_lem; z = taken.flat_z })

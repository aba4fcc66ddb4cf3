-- Regions with their ends in the grid, flat and solid: a flat grid has one layer, with z index 0.
use Rattle.std.specs.Prelude.{◌≡◌, Bool, List, ℕ, ◌+◌, ◌-◌, ◌*◌, ◌≤◌, ◌<◌, ℤ, length}
use Rattle.rules.specs.Values.{pick, IsValue, Range, range, Box}
use Rattle.rules.specs.Drawings.{Region, region, size_limit, at, lesser, box_of, grid_fault}
use Rattle.rules.specs.Pictures.{stride}
use Rattle.code.specs.Runs.{BoxOk}
use Rattle.picture.specs.Shapes.{grid_in}
use Rattle.picture.specs.declared.grid.Grid.{Grid}
use Rattle.walk.specs.declared.cell.Cell.{Cell}

abbrev pub layers_in : Bool → Grid → ℕ
layers_in isSolid grid = pick isSolid grid.depth 1

-- How long a picture of the grid is: a solid's heights, a flat picture's bytes.
abbrev pub size_in : Bool → Grid → ℕ
size_in isSolid grid = pick isSolid (grid.width * grid.height) (grid.height * stride grid.width)

-- A grid that no line refuses, and a picture of its size.
pub record Ready (isSolid : Bool) (grid : Grid) (b : List ℕ) : Type 0 where
  pub fault : grid_fault isSolid (grid_in grid isSolid) ≡ 0
  pub size : length b ≡ size_in isSolid grid

-- Sizes within the limit.
pub record Small (layers : ℕ) (grid : Grid) : Type 0 where
  pub width : grid.width ≤ size_limit
  pub height : grid.height ≤ size_limit
  pub depth : layers ≤ size_limit

-- A sample of the grid.
pub record InGrid (layers : ℕ) (grid : Grid) (x y z : ℕ) : Type 0 where
  pub x_in : x < grid.width
  pub y_in : y < grid.height
  pub z_in : z < layers

-- Where a region of side n may begin.
pub record ForCell (layers : ℕ) (grid : Grid) (x y z n : ℕ) : Type 0 where
  pub small : Small layers grid
  pub place : InGrid layers grid x y z
  pub some : 1 ≤ n
  pub few : n ≤ size_limit

-- The part of an axis of w samples that a region from i on with side n has ends before e.
pub record Ends (w i n e : ℕ) : Type 0 where
  pub least : e ≡ lesser w (i + n)
  pub some : i < e
  pub in_grid : e ≤ w
  pub in_side : e ≤ i + n

pub record CellOk (layers : ℕ) (grid : Grid) (c : Cell) : Type 0 where
  pub xs : Ends grid.width c.x c.side c.xend
  pub ys : Ends grid.height c.y c.side c.yend
  pub zs : Ends layers c.z c.side c.zend

-- A cell of a grid that no line refuses.
pub record ForBox (isSolid : Bool) (grid : Grid) (c : Cell) : Type 0 where
  pub fault : grid_fault isSolid (grid_in grid isSolid) ≡ 0
  pub ok : CellOk (layers_in isSolid grid) grid c

abbrev pub region_in : Cell → Region
region_in c = region c.x c.y c.z c.side

pub record CellOf (layers : ℕ) (grid : Grid) (r : Region) (c : Cell) : Type 0 where
  pub ok : CellOk layers grid c
  pub same : region_in c ≡ r

-- Samples of an axis from one index to before another: those before the end are values, and the range that they make.
pub record SpanIn (origin step : ℤ) (from end : ℕ) : Type 0 where
  pub some : from < end
  pub values : (i : ℕ) → i < end → IsValue (at origin step i)

abbrev pub span_of : ℤ → ℤ → ℕ → ℕ → Range
span_of origin step from end = range (at origin step from) (at origin step (end - 1))

-- The samples of a cell's columns and rows are values; the ranges of its box on these axes are theirs.
pub record ForBounds (grid : Grid) (c : Cell) : Type 0 where
  pub xs : SpanIn grid.xorigin grid.xstep c.x c.xend
  pub ys : SpanIn grid.yorigin grid.ystep c.y c.yend

pub record BoundsOf (grid : Grid) (c : Cell) (layers : Range) (b : Box) : Type 0 where
  pub xs : b.xs ≡ span_of grid.xorigin grid.xstep c.x c.xend
  pub ys : b.ys ≡ span_of grid.yorigin grid.ystep c.y c.yend
  pub zs : b.zs ≡ layers

-- The box of a cell: that of its region, with ends that are values.
pub record CellBox (isSolid : Bool) (grid : Grid) (c : Cell) (b : Box) : Type 0 where
  pub same : b ≡ box_of (grid_in grid isSolid) (region_in c)
  pub ok : BoxOk b

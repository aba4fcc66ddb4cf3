-- What the rows of a region in the picture ask, and its samples.
use Rattle.std.specs.Prelude.{◌≡◌, true, List, [], ℕ, ◌+◌, ◌*◌, ◌≤◌, ◌<◌, ltb, ℤ, get_or}
use Rattle.rules.specs.Values.{pick, is_neg}
use Rattle.rules.specs.Drawings.{sample_at}
use Rattle.code.specs.Runs.{Evaluated}
use Rattle.picture.specs.Shapes.{grid_in}
use Rattle.picture.specs.declared.grid.Grid.{Grid}
use Rattle.walk.specs.Cells.{Ready, InGrid, CellOk}
use Rattle.walk.specs.Walks.{Sound}
use Rattle.walk.specs.declared.cell.Cell.{Cell}
use Rattle.axis_lanes.specs.Axes.{LaneSamples}
use Rattle.solid_samples.specs.Chunks.{chunk_count, chunk_y, chunk_z, RowValues, ChunkValues, HighChunk}

pub record ForRows (grid : Grid) (c : Cell) (b : List ℕ) : Type 0 where
  pub ready : Ready true grid b
  pub cell : CellOk grid.depth grid c

-- A chunk of a region of side 4, and all its chunks, with the samples of the axes of its rows and layers.
pub record ForHidden (grid : Grid) (c : Cell) (z : ℕ) (b : List ℕ) : Type 0 where
  pub ready : Ready true grid b
  pub cell : CellOk grid.depth grid c
  pub z_in : z < c.zend

pub record ForList (grid : Grid) (c : Cell) (rs ls : List ℤ) (b : List ℕ) : Type 0 where
  pub ready : Ready true grid b
  pub cell : CellOk grid.depth grid c
  pub side : c.side ≡ 4
  pub rows : LaneSamples grid.yorigin grid.ystep c.y c.yend rs
  pub layers : LaneSamples grid.zorigin grid.zstep c.z c.zend ls

-- A pixel's height with one more sample: raised to that of the sample's layer where its value is below 0, never lowered.
abbrev pub with_sample : ℕ → ℕ → ℤ → ℕ
with_sample now height v = pick (is_neg v) (pick (ltb now height) height now) now

-- One sample, with the tape's value there.
pub record ForLane (ws : List ℕ) (grid : Grid) (x y z : ℕ) (v : ℤ) (b : List ℕ) : Type 0 where
  pub sound : Sound ws
  pub ready : Ready true grid b
  pub place : InGrid grid.depth grid x y z
  pub value : Evaluated ws (sample_at (grid_in grid true) x y z) v

-- The samples of a region of side 4; and of a row and a chunk of its layer z, with the lanes that have their values.
pub record ForSamples (ws : List ℕ) (grid : Grid) (c : Cell) (b : List ℕ) : Type 0 where
  pub sound : Sound ws
  pub ready : Ready true grid b
  pub cell : CellOk grid.depth grid c
  pub side : c.side ≡ 4

pub record ForRow (ws : List ℕ) (grid : Grid) (c : Cell) (y z : ℕ) (vs : List ℤ) (first : ℕ) (b : List ℕ) : Type 0 where
  pub all : ForSamples ws grid c b
  pub z_in : z < c.zend
  pub first_in : first ≤ 4
  pub values : RowValues ws grid c y z first vs

pub record ForChunk (ws : List ℕ) (grid : Grid) (c : Cell) (y z : ℕ) (vs : List ℤ) (b : List ℕ) : Type 0 where
  pub all : ForSamples ws grid c b
  pub y_in : y ≤ c.y + 2
  pub z_in : z < c.zend
  pub values : ChunkValues ws grid c y z vs

-- A chunk by its place among those that were run, from row 8r of the slots on; the place 8 is that of a hidden one.
pub record Placed (ws : List ℕ) (grid : Grid) (c : Cell) (y z place r : ℕ) (ss : List (List ℤ)) (b : List ℕ)
    : Type 0 where
  pub hidden : 8 ≤ place → HighChunk grid c y z b
  pub known : place < 8 → ChunkValues ws grid c y z (get_or ss (8 * r + place) [])

pub record ForPlace (ws : List ℕ) (grid : Grid) (c : Cell) (y z place r : ℕ) (ss : List (List ℤ)) (b : List ℕ)
    : Type 0 where
  pub all : ForSamples ws grid c b
  pub y_in : y ≤ c.y + 2
  pub z_in : z < c.zend
  pub room : 8 * r + 8 ≤ 1024
  pub placed : Placed ws grid c y z place r ss b

pub record ForPlaces (ws : List ℕ) (grid : Grid) (c : Cell) (places : List ℕ) (r : ℕ) (ss : List (List ℤ)) (b : List ℕ)
    : Type 0 where
  pub all : ForSamples ws grid c b
  pub room : 8 * r + 8 ≤ 1024
  pub placed : (m : ℕ) → m < chunk_count c → Placed ws grid c (chunk_y c m) (chunk_z c m) (get_or places m 0) r ss b

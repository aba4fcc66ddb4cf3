-- The 64-tiles of a flat picture by their number, the marks of those that a part touches, and what is done to their
-- bytes.
use Rattle.std.specs.Prelude.{◌≡◌, false, List, ℕ, ◌+◌, ◌*◌, ◌/◌, ◌%◌, ◌<◌, ◌≤◌, length, get_or}
use Rattle.rules.specs.Values.{when}
use Rattle.rules.specs.Drawings.{Region, region, grid_fault}
use Rattle.rules.specs.Pictures.{stride}
use Rattle.rules.specs.Accepted.{Accepted}
use Rattle.code.specs.Words.{tape_in}
use Rattle.picture.specs.Shapes.{grid_in}
use Rattle.picture.specs.declared.grid.Grid.{Grid}
use Rattle.walk.specs.Cells.{Ready, CellOk, CellOf}
use Rattle.walk.specs.Walks.{Sound}
use Rattle.walk.specs.declared.cell.Cell.{Cell}
use Rattle.plate_rules.specs.Plate.{touched}

-- A grid that no line refuses.
pub record Sized (grid : Grid) : Type 0 where
  pub fault : grid_fault false (grid_in grid false) ≡ 0

-- How many tiles a row has, how many there are, and the most.
abbrev pub across : Grid → ℕ
across grid = (grid.width + 63) / 64

abbrev pub tile_count : Grid → ℕ
tile_count grid = (grid.height + 63) / 64 * across grid

abbrev pub tile_limit : ℕ
tile_limit = 64

-- The tile of a number, and the number of the tile that byte c of row y is in.
abbrev pub tile_numbered : Grid → ℕ → Region
tile_numbered grid m = region (64 * (m % across grid)) (64 * (m / across grid)) 0 64

abbrev pub number_of : Grid → ℕ → ℕ → ℕ
number_of grid y c = y / 64 * across grid + c / 8

pub record ForTile (grid : Grid) (m : ℕ) : Type 0 where
  pub sized : Sized grid
  pub more : m < tile_count grid

-- The cell of the tile of that number.
pub record IsTile (grid : Grid) (m : ℕ) (c : Cell) : Type 0 where
  pub cell : CellOf 1 grid (tile_numbered grid m) c

-- A cell of the grid whose first column begins a byte.
pub record ForPatch (grid : Grid) (c : Cell) (b : List ℕ) : Type 0 where
  pub ready : Ready false grid b
  pub ok : CellOk 1 grid c
  pub start : c.x % 8 ≡ 0

pub record ForRange (code : List ℕ) (grid : Grid) (c : Cell) (work : List ℕ) : Type 0 where
  pub sound : Sound code
  pub sized : Sized grid
  pub ok : CellOk 1 grid c
  pub room : length code ≤ length work

pub record ForMarks (code : List ℕ) (grid : Grid) (work marks : List ℕ) : Type 0 where
  pub sound : Sound code
  pub sized : Sized grid
  pub room : length code ≤ length work
  pub size : length marks ≡ tile_limit

-- The first k tiles have a 1 where the tape of these words touches them, and else a 0.
pub record MarkedBy (code : List ℕ) (grid : Grid) (k : ℕ) (marks : List ℕ) : Type 0 where
  pub each : (n : ℕ) → Accepted (tape_in n code) → (m : ℕ) → m < k
      → get_or marks m 0 ≡ when (touched (tape_in n code) (grid_in grid false) (tile_numbered grid m)) 1

-- Tiles by number: the one of a turn, if its mark is not 0; those below k whose marks are not 0.
pub record Turn (m mark n : ℕ) : Type 0 where
  pub this : n ≡ m
  pub on : mark ≡ 0 → ⊥

pub record Marked (marks : List ℕ) (k n : ℕ) : Type 0 where
  pub below : n < k
  pub on : get_or marks n 0 ≡ 0 → ⊥

-- The bytes of the tiles P are those that f says by their place, every other is as it was.
pub record TilesSet (grid : Grid) (P : ℕ → Type 0) (f : ℕ → ℕ) (b b' : List ℕ) : Type 0 where
  pub inside : (y c : ℕ) → y < grid.height → c < stride grid.width → P (number_of grid y c)
      → get_or b' (y * stride grid.width + c) 0 ≡ f (y * stride grid.width + c)
  pub outside : (y c : ℕ) → y < grid.height → c < stride grid.width → (P (number_of grid y c) → ⊥)
      → get_or b' (y * stride grid.width + c) 0 ≡ get_or b (y * stride grid.width + c) 0

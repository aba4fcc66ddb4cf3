-- A region of a picture of numbers: its pixels become right, and those that were right stay so.
use Rattle.std.specs.Prelude.{◌≡◌, false, List, ℕ, ◌+◌, ◌*◌, ◌≤◌, ◌<◌, length, get_or}
use Rattle.rules.specs.Drawings.{Region, Inside, grid_fault}
use Rattle.picture.specs.Shapes.{grid_in}
use Rattle.picture.specs.declared.grid.Grid.{Grid}
use Rattle.walk.specs.Cells.{CellOk}
use Rattle.walk.specs.declared.cell.Cell.{Cell}

-- The number of the pixel (i, j) is f i j.
abbrev pub Right : (ℕ → ℕ → ℕ) → Grid → List ℕ → ℕ → ℕ → Type 0
Right f grid b i j = get_or b (j * grid.width + i) 0 ≡ f i j

pub record Puts (f : ℕ → ℕ → ℕ) (grid : Grid) (r : Region) (b b' : List ℕ) : Type 0 where
  pub kept : (i j : ℕ) → i < grid.width → j < grid.height → Right f grid b i j → Right f grid b' i j
  pub done : (i j : ℕ) → Inside r i j 0 → i < grid.width → j < grid.height → Right f grid b' i j

-- The same for whatever numbers f are as A says.
pub record Draws (A : (ℕ → ℕ → ℕ) → Type 0) (grid : Grid) (r : Region) (b b' : List ℕ) : Type 0 where
  pub puts : (f : ℕ → ℕ → ℕ) → A f → Puts f grid r b b'

-- Every pixel of the region has the number v.
pub record Constantly (v : ℕ) (grid : Grid) (r : Region) (f : ℕ → ℕ → ℕ) : Type 0 where
  pub same : (i j : ℕ) → Inside r i j 0 → i < grid.width → j < grid.height → f i j ≡ v

-- A flat grid that no line refuses, and a picture with a number a pixel.
pub record OnGrid (grid : Grid) (b : List ℕ) : Type 0 where
  pub fault : grid_fault false (grid_in grid false) ≡ 0
  pub size : length b ≡ grid.width * grid.height

pub record ForPut (grid : Grid) (c : Cell) (b : List ℕ) : Type 0 where
  pub on : OnGrid grid b
  pub cell : CellOk 1 grid c
  pub one : c.side ≡ 1

pub record ForFill (grid : Grid) (c : Cell) (b : List ℕ) : Type 0 where
  pub on : OnGrid grid b
  pub cell : CellOk 1 grid c
  pub side : c.side ≤ 64

-- Blocks as cells of one layer, and what the functions that shade blocks ask.
use Rattle.std.specs.Prelude.{◌≡◌, List, ℕ, ◌+◌, ◌≤◌, ℤ, length}
use Rattle.picture.specs.declared.grid.Grid.{Grid}
use Rattle.walk.specs.Walks.{Level, MarksFit}
use Rattle.walk.specs.Children.{ChildOf}
use Rattle.walk.specs.declared.cell.Cell.{Cell}
use Rattle.slope_pixels.specs.Shades.{block_of, Fits, BlockIn}
use Rattle.slope_pixels.specs.declared.block.Block.{Block}
use Rattle.slope_pixels.specs.declared.block.Layers.{Layers}
use Rattle.slope_blocks.specs.Narrow.{LayersIn}

-- The cell of a block, whose children are the blocks in it.
abbrev pub cell_of : ℕ → Block → Cell
cell_of n c = record { x = c.x; xend = c.xend; y = c.y; yend = c.yend; z = 0; zend = 1; side = n }

-- The block d is that of child m.
pub record PartOf (s n : ℕ) (c : Block) (m : ℕ) (d : Block) : Type 0 where
  pub cell : Cell
  pub child : ChildOf (cell_of s c) n m cell
  pub same : d ≡ block_of cell

-- A block of the grid of at most n by n pixels.
pub record BlockOf (n : ℕ) (grid : Grid) (c : Block) : Type 0 where
  pub in_grid : BlockIn grid c
  pub x_few : c.xend ≤ c.x + n
  pub y_few : c.yend ≤ c.y + n

-- Side 4, with the words of a block of side 16 in a window of layers: for a block of at most n by n pixels.
pub record ForFours (n : ℕ) (whole code : List ℕ) (grid : Grid) (c : Block) (win : Layers) (picture : List ℕ)
    (slopes : List ℤ) (work second : List ℕ) : Type 0 where
  pub level : Level whole code
  pub fits : Fits grid picture slopes
  pub block : BlockOf n grid c
  pub window : LayersIn grid win
  pub marks : MarksFit 2 whole work
  pub words : length whole ≤ length second

-- All blocks: the words of the whole tape, a solid's heights with a list for their slopes, and room for the marks and
-- the words of two levels.
pub record Lent (whole : List ℕ) (grid : Grid) (picture : List ℕ) (slopes : List ℤ) (work first second : List ℕ)
    : Type 0 where
  pub level : Level whole whole
  pub fits : Fits grid picture slopes
  pub marks : MarksFit 2 whole work
  pub words_first : length whole ≤ length first
  pub words_second : length whole ≤ length second

-- Side 16, and such a block in a window.
pub record ForSixteens (n : ℕ) (whole : List ℕ) (grid : Grid) (c : Block) (picture : List ℕ) (slopes : List ℤ)
    (work first second : List ℕ) : Type 0 where
  pub lent : Lent whole grid picture slopes work first second
  pub block : BlockOf n grid c

pub record ForWindow (whole : List ℕ) (grid : Grid) (c : Block) (win : Layers) (picture : List ℕ) (slopes : List ℤ)
    (work first second : List ℕ) : Type 0 where
  pub sixteen : ForSixteens 16 whole grid c picture slopes work first second
  pub window : LayersIn grid win
